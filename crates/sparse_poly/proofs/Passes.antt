-- One pass over a list of terms: what was made and what is to come are the whole.
use Rattle.std.proofs.Common.{◌≡◌, ◌<◌, ◌≤◌, ◌+◌, ℕ, max, List, [], ◌∷◌, ◌++◌, length, get_or, drop, ap, sym, ◌∙◌, append_assoc, append-nil, arith}
use Rattle.std.proofs.Math.ListN.{drop_of_length-le}
use Rattle.polynomials.specs.Monomials.{exponent_of}
use Rattle.polynomials.specs.Polynomials.{Term, Polynomial, IsPolynomial}
use Rattle.polynomials.specs.Views.{degree_in}
use Rattle.sparse_poly.proofs.Places.{drop_item}

-- one turn of a pass that makes the terms F, the terms each for each item
pub pass_turn : (F each : List Term → List Term) → ((t : Term) (l : List Term) → F (t ∷ l) ≡ each (t ∷ []) ++ F l) → (out rest all : List Term) (k : ℕ) (t : Term) → k < length rest → t ≡ get_or rest k t → out ++ F (drop k rest) ≡ all → (out ++ each (t ∷ [])) ++ F (drop (k + 1) rest) ≡ all
pass_turn F each step out rest all k t below at h =
    append_assoc out (each (t ∷ [])) (F (drop (k + 1) rest))
    ∙ (ap (λ l. out ++ l) (sym (ap F (drop_item rest k t below at) ∙ step t (drop (k + 1) rest))) ∙ h)

-- at the end nothing is to come
pub pass_end : (F : List Term → List Term) → F [] ≡ [] → (out rest all : List Term) (k : ℕ) → length rest ≤ k → out ++ F (drop k rest) ≡ all → out ≡ all
pass_end F nothing out rest all k end h = sym (append-nil out) ∙ (ap (λ l. out ++ l) (sym (ap F (drop_of_length-le rest end) ∙ nothing)) ∙ h)

-- one turn of a search for the greatest exponent
pub degree_turn : (v a all : ℕ) (rest : List Term) (k : ℕ) (t : Term) → k < length rest → t ≡ get_or rest k t → max a (degree_in v (drop k rest)) ≡ all → max (max a (exponent_of v t.0)) (degree_in v (drop (k + 1) rest)) ≡ all
degree_turn v a all rest k t below at h = let e = ap (degree_in v) (drop_item rest k t below at) in omega arith

-- coefficients below a modulus are below a greater one
pub IsPolynomial-wider : (p q n : ℕ) (f : Polynomial) → p ≤ q → IsPolynomial p n f → IsPolynomial q n f
IsPolynomial-wider p q n [] up i = tt
IsPolynomial-wider p q n (t ∷ f) up i = (i.0, i.1, let small = i.2 in omega arith, i.3, IsPolynomial-wider p q n f up i.4)
