-- Where a product by all of a polynomial fits, the product by its tail does.
use Rattle.std.proofs.Common.{◌≡◌, ℕ, ◌≤◌, Bool, true, false, cond, eqb, List, [], ◌∷◌, length, ap, inl, inr, arith}
use Rattle.std.proofs.Math.Nat.{mul-le-mul_left}
use Rattle.polynomials.specs.Monomials.{exponent_of}
use Rattle.polynomials.specs.Polynomials.{Term, Polynomial}
use Rattle.polynomials.specs.Views.{degree_in, without_power, tail_in}
use Rattle.polynomials.specs.Fits.{fits}
use Rattle.polynomials.proofs.Coefficients.{EachMonomial-without_power}
use Rattle.polynomials.proofs.Degrees.{DegreeAtMost-itself, degree_in-from_bound}
use Rattle.polynomials.proofs.FitsLemmas.{fits_in_each_variable}

-- without a power there are no more terms
length-without_power : (v k : ℕ) (f : List Term) → length (without_power v k f) ≤ length f
length-without_power v k [] = omega arith
length-without_power v k (t ∷ f) = go (eqb (exponent_of v t.0) k) (length-without_power v k f)
  where
    go : (b : Bool) → length (without_power v k f) ≤ length f → length (cond b (without_power v k f) (t ∷ without_power v k f)) ≤ length (t ∷ f)
    go true h = omega arith
    go false h = omega arith

-- and no greater degrees
pub degree_in-without_power : (u v k : ℕ) (f : Polynomial) → degree_in u (without_power v k f) ≤ degree_in u f
degree_in-without_power u v k f = degree_in-from_bound u (degree_in u f) (without_power v k f) (EachMonomial-without_power v k (λ m. exponent_of u m ≤ degree_in u f) (λ m. exponent_of u m ≤ degree_in u f) (λ m other h. h) f (DegreeAtMost-itself u f))

-- so the tail fits where the whole does
pub fits-tail_in : (w v : ℕ) (a f : Polynomial) → fits w a f ≡ true → fits w a (tail_in v f) ≡ true
fits-tail_in w v a f fit = (fits_in_each_variable w a (tail_in v f)).1 (elim ((fits_in_each_variable w a f).0 fit) [
  | inl none ↦ inl none
  | inr other ↦ elim other [
    | inl none ↦ inr (inl (ap (tail_in v) none))
    | inr both ↦ inr (inr (
      (let least = both.0 in omega (arith, mul-le-mul_left (length a) (length-without_power v (degree_in v f) f))),
      (λ u. let most = both.1 u in omega (arith, degree_in-without_power u v (degree_in v f) f)),
    ))
  ]
])
