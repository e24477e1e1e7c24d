-- Identities of the initial of a polynomial of a triangular set.
use Rattle.std.specs.Prelude.{◌≡◌, ◌≢◌, ℕ, List, [], ◌∷◌, Some}
use Rattle.polynomials.specs.Primes.{IsPrime}
use Rattle.polynomials.specs.Polynomials.{Polynomial, ArePolynomials}
use Rattle.zero_sets.specs.ZeroSets.{IsTriangular, member_in, members_below}
use Rattle.division_rules.specs.Rows.{Row}
use Rattle.row_laws.specs.Words.{IsReducedBy}
use Rattle.row_laws.specs.Combinations.{IsRowOver}
use Rattle.row_laws.specs.Members.{LacksMainFrom}

-- t is the polynomial with the main variable v of a triangular set of canonical polynomials
pub record IsMemberOver (p n v : ℕ) (chain : List Polynomial) (t : Polynomial) : Type 0 where
  pub prime : IsPrime p
  pub canonical : ArePolynomials p n chain
  pub triangular : IsTriangular chain
  pub member : member_in v chain ≡ Some t

-- f is a combination of h, which is the initial at v, and the chain below v; it isn't 0, it is
-- reduced by the whole chain, and no main variable of the chain from u on occurs in it
pub record IsIdentity
    (p n v u : ℕ) (chain : List Polynomial) (h : Polynomial) (f : Row Polynomial) : Type 0 where
  pub over : IsRowOver p n (h ∷ members_below v chain) f
  pub nonzero : f.first ≢ []
  pub reduced : IsReducedBy f.first chain
  pub lacks : LacksMainFrom u f.first chain
