-- The parts of a task stay canonical where a polynomial is added.
use Rattle.std.proofs.Common.{ℕ, Bool, true, false, List, [], ◌∷◌, ◌++◌}
use Rattle.polynomials.specs.Primes.{IsPrime}
use Rattle.polynomials.specs.Polynomials.{Polynomial, IsPolynomial, ArePolynomials, monic}
use Rattle.polynomials.proofs.MonicLemmas.{IsPolynomial-monic}
use Rattle.polynomials.proofs.PolynomialLists.{ArePolynomials-push}
use Rattle.zero_sets.specs.Tasks.{is_known_nonzero, with_nonzero}

-- among those that don't vanish
pub nonzero_added : (p n : ℕ) → IsPrime p → (ns : List Polynomial) (h : Polynomial) → ArePolynomials p n ns → IsPolynomial p n h → ArePolynomials p n (with_nonzero p ns h)
nonzero_added p n prime ns h are i = go (is_known_nonzero p ns h)
  where
    go : (b : Bool) → ArePolynomials p n (elim b as (λ _. List Polynomial) [ true ↦ ns | false ↦ ns ++ monic p h ∷ [] ])
    go true = are
    go false = ArePolynomials-push p n ns (monic p h) are (IsPolynomial-monic p n h prime i)
