-- Lawful systems, tasks and leaves: all their polynomials are lawful.
use Rattle.std.specs.Prelude.{ℕ}
use Rattle.polynomials.specs.Primes.{IsPrime}
use Rattle.zero_sets.specs.Certificates.{AreCertificates}
use Rattle.zero_sets.specs.Systems.{PolynomialSystem}
use Rattle.zero_sets.specs.Tasks.{Task}
use Rattle.finish_rules.specs.Leaves.{Leaf}
pub use Rattle.finish_laws.specs.Lawful.{IsLawfulPolynomial, AreLawfulPolynomials, IsLawfulChain}
use Rattle.finish_laws.specs.Lawful.{AreLawfulCertificates}

-- a system of lawful polynomials, modulo a prime
pub record IsLawfulSystem (n k : ℕ) (system : PolynomialSystem) : Type 0 where
  pub prime : IsPrime system.prime
  pub inputs : AreLawfulPolynomials system.prime n k system.inputs
  pub nonzero : AreLawfulPolynomials system.prime n k system.nonzero

-- a lawful triangular set, with one certificate for each of its initials that isn't constant and no
-- other; these are of lawful polynomials
pub record IsLawfulLeaf (p n k : ℕ) (leaf : Leaf) : Type 0 where
  pub chain : IsLawfulChain p n k leaf.chain
  pub certify : AreCertificates p n leaf.chain leaf.certificates
  pub certificates : AreLawfulCertificates p n k leaf.certificates

-- a task of lawful polynomials, on a triangular set
pub record IsLawfulTask (p n k : ℕ) (task : Task) : Type 0 where
  pub chain : IsLawfulChain p n k task.chain
  pub queue : AreLawfulPolynomials p n k task.queue
  pub nonzero : AreLawfulPolynomials p n k task.nonzero
