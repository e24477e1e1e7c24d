-- The canonical polynomials in n variables modulo p, as a ring.
use Rattle.std.proofs.Common.{◌≡◌, ℕ, ◌<◌, [], ◌∷◌, arith}
use mathlib.Core.HLevel.{Σ_prop_path}
use native.Mathlib.Nat.{ℕ_set}
use native.Mathlib.Bridge.{le_prop}
use Rattle.std.specs.Ordering.{Ordering-set}
use Rattle.polynomials.specs.Monomials.{Monomial}
use Rattle.polynomials.specs.Polynomials.{Polynomial, StartsBelow, IsPolynomial, sum_of, product_of, negative_of, one_of}
use Rattle.polynomials.specs.RingLaws.{PolynomialsMakeARing}
use Rattle.polynomials.specs.Rings.{Ring}
use Rattle.polynomials.proofs.Canonical.{IsPolynomial-sum_of, IsPolynomial-product_of, IsPolynomial-negative_of, IsPolynomial-one_of}
use Rattle.polynomials.proofs.PolynomialLaws.{sum_of_comm, sum_of_assoc, zero-sum_of, negative_of-sum_of, product_of_comm, product_of_assoc, one_of-product_of, product_of-sum_of}

StartsBelow-prop : (m : Monomial) (f : Polynomial) → IsProp (StartsBelow m f)
StartsBelow-prop m [] = hlevel
StartsBelow-prop m (u ∷ f) = hlevel Ordering-set

-- there is one proof at most that f is canonical
pub IsPolynomial-prop : (p n : ℕ) (f : Polynomial) → IsProp (IsPolynomial p n f)
IsPolynomial-prop p n [] = hlevel
IsPolynomial-prop p n (t ∷ f) =
    let below = StartsBelow-prop t.0 f in
    let rest = IsPolynomial-prop p n f in
    hlevel (below, rest, ℕ_set, le_prop)

-- a canonical polynomial in n variables modulo p
abbrev pub CanonicalPolynomial : ℕ → ℕ → Type 0
CanonicalPolynomial p n = (f : Polynomial) × IsPolynomial p n f

-- canonical polynomials are the same where the lists are
pub canonical_path : (p n : ℕ) (f g : CanonicalPolynomial p n) → f.0 ≡ g.0 → f ≡ g
canonical_path p n f g e = Σ_prop_path (IsPolynomial-prop p n) e

-- the ring of polynomials
abbrev pub polynomial_ring : (p n : ℕ) → 1 < p → Ring (CanonicalPolynomial p n)
polynomial_ring p n many = record {
  ◌⊕◌ = λ f g. (sum_of p f.0 g.0, IsPolynomial-sum_of p n positive f.0 g.0 f.1 g.1);
  ◌⊗◌ = λ f g. (product_of p f.0 g.0, IsPolynomial-product_of p n positive f.0 g.0 f.1 g.1);
  nil = ([], tt);
  one = (one_of n, IsPolynomial-one_of p n many);
  neg = λ f. (negative_of p f.0, IsPolynomial-negative_of p n f.0 f.1);
  add_comm = λ f g. canonical_path p n _ _ (sum_of_comm p positive n f.0 g.0 f.1 g.1);
  add_assoc = λ f g h. canonical_path p n _ _ (sum_of_assoc p positive n f.0 g.0 h.0 f.1 g.1 h.1);
  nil-add = λ f. canonical_path p n _ _ (zero-sum_of p positive n f.0 f.1);
  neg-add = λ f. canonical_path p n _ _ (negative_of-sum_of p positive n f.0 f.1);
  mul_comm = λ f g. canonical_path p n _ _ (product_of_comm p positive n f.0 g.0 f.1 g.1);
  mul_assoc = λ f g h. canonical_path p n _ _ (product_of_assoc p positive n f.0 g.0 h.0 f.1 g.1 h.1);
  one-mul = λ f. canonical_path p n _ _ (one_of-product_of p positive n many f.0 f.1);
  mul-add = λ f g h. canonical_path p n _ _ (product_of-sum_of p positive n f.0 g.0 h.0 f.1 g.1 h.1);
}
  where
    positive : 0 < p
    positive = omega arith

-- the polynomials make a ring
pub polynomials_make_a_ring : PolynomialsMakeARing
polynomials_make_a_ring p n many = record {
  one_of_them = IsPolynomial-one_of p n many;
  sum_of_them = IsPolynomial-sum_of p n positive;
  negative_of_them = IsPolynomial-negative_of p n;
  product_of_them = IsPolynomial-product_of p n positive;
  add_comm = sum_of_comm p positive n;
  add_assoc = sum_of_assoc p positive n;
  zero-add = zero-sum_of p positive n;
  negative-add = negative_of-sum_of p positive n;
  mul_comm = product_of_comm p positive n;
  mul_assoc = product_of_assoc p positive n;
  one-mul = one_of-product_of p positive n many;
  mul-add = product_of-sum_of p positive n;
}
  where
    positive : 0 < p
    positive = omega arith
