-- Pairs of terms that fit, by places and by parts.
use Rattle.std.proofs.Common.{◌≡◌, ◌≢◌, ◌↔◌, ◌<◌, ◌≤◌, ◌+◌, ◌*◌, ℕ, true, zero, suc, List, [], ◌∷◌, ◌++◌, length, get_or, drop, subst, sym, ap, inl, inr, arith}
use Rattle.std.proofs.Math.Nat.{mul_comm}
use Rattle.polynomials.specs.Monomials.{Monomial, exponent_of, ExponentsFit}
use Rattle.polynomials.specs.Polynomials.{Term}
use Rattle.polynomials.specs.Views.{degree_in}
use Rattle.polynomials.specs.Fits.{fits}
use Rattle.polynomials.proofs.FitsLemmas.{fits_in_each_variable}
use Rattle.sparse_poly.specs.Pairs.{FitsEach, PairsFit}

-- the item at a place fits
pub FitsEach-item : (m : Monomial) (g : List Term) (k : ℕ) (u : Term) → FitsEach m g → k < length g → u ≡ get_or g k u → ExponentsFit m u.0
FitsEach-item m [] k u h below at = absurd (omega arith)
FitsEach-item m (t ∷ g) zero u h below at = subst (λ (x : Term). ExponentsFit m x.0) (sym at) h.0
FitsEach-item m (t ∷ g) (suc k) u h below at = FitsEach-item m g k u h.1 (omega arith) at

-- so does what is left from a place on
pub FitsEach-drop : (m : Monomial) (k : ℕ) (g : List Term) → FitsEach m g → FitsEach m (drop k g)
FitsEach-drop m zero g h = h
FitsEach-drop m (suc k) [] h = h
FitsEach-drop m (suc k) (t ∷ g) h = FitsEach-drop m k g h.1

-- the items at two places fit
pub PairsFit-items : (f g : List Term) (i j : ℕ) (t u : Term) → PairsFit f g → i < length f → t ≡ get_or f i t → j < length g → u ≡ get_or g j u → ExponentsFit t.0 u.0
PairsFit-items [] g i j t u h below at column there = absurd (omega arith)
PairsFit-items (s ∷ f) g zero j t u h below at column there =
    subst (λ (x : Term). ExponentsFit x.0 u.0) (sym at) (FitsEach-item s.0 g j u h.0 column there)
PairsFit-items (s ∷ f) g (suc i) j t u h below at column there = PairsFit-items f g i j t u h.1 (omega arith) at column there

-- where the product fits, there are as few pairs
pub fitting_pairs_are_few : (w : ℕ) (f g : List Term) → fits w f g ≡ true → length f * length g ≤ w
fitting_pairs_are_few w f g h = elim ((fits_in_each_variable w f g).0 h) [
  | inl none ↦ let zero = ap length none in rw none (omega arith)
  | inr other ↦ elim other [
    | inl none ↦ rw none (omega (arith, mul_comm (length f) 0))
    | inr both ↦ both.0
  ]
]

-- the first part of the first factor
pub PairsFit-append_left : (f g k : List Term) → PairsFit (f ++ g) k → PairsFit f k
PairsFit-append_left [] g k h = tt
PairsFit-append_left (t ∷ f) g k h = (h.0, PairsFit-append_left f g k h.1)

-- and the second
pub PairsFit-append_right : (f g k : List Term) → PairsFit (f ++ g) k → PairsFit g k
PairsFit-append_right [] g k h = h
PairsFit-append_right (t ∷ f) g k h = PairsFit-append_right f g k h.1

-- monomials whose exponents are at most degrees that fit
pub FitsEach-from_degrees : (m : Monomial) (g : List Term) → ((v : ℕ) → exponent_of v m + degree_in v g ≤ 65535) → FitsEach m g
FitsEach-from_degrees m [] h = tt
FitsEach-from_degrees m (u ∷ g) h = ((λ v. let a = h v in omega arith), FitsEach-from_degrees m g (λ v. let a = h v in omega arith))

-- and so for each term of the first factor
PairsFit-from_degrees : (f g : List Term) → ((v : ℕ) → degree_in v f + degree_in v g ≤ 65535) → PairsFit f g
PairsFit-from_degrees [] g h = tt
PairsFit-from_degrees (t ∷ f) g h = (FitsEach-from_degrees t.0 g (λ v. let a = h v in omega arith), PairsFit-from_degrees f g (λ v. let a = h v in omega arith))

-- nothing fits with each term
PairsFit-nothing : (f : List Term) → PairsFit f []
PairsFit-nothing [] = tt
PairsFit-nothing (t ∷ f) = (tt, PairsFit-nothing f)

-- where the product fits, each pair does
pub PairsFit-from_fits : (w : ℕ) (f g : List Term) → fits w f g ≡ true → PairsFit f g
PairsFit-from_fits w f g h = elim ((fits_in_each_variable w f g).0 h) [
  | inl none ↦ subst (λ (l : List Term). PairsFit l g) (sym none) tt
  | inr other ↦ elim other [
    | inl none ↦ subst (PairsFit f) (sym none) (PairsFit-nothing f)
    | inr both ↦ PairsFit-from_degrees f g both.1
  ]
]

-- the test that is made where neither is empty decides whether the product fits
pub fits-from_degrees : (w : ℕ) (f g : List Term) → 0 < length f → 0 < length g → length f * length g ≤ w → (Fit : Type 0) → (Fit ↔ ((v : ℕ) → degree_in v f + degree_in v g ≤ 65535)) → Fit ↔ (fits w f g ≡ true)
fits-from_degrees w f g some_f some_g narrow Fit means = (
  (λ h. (fits_in_each_variable w f g).1 (inr (inr (narrow, means.0 h)))),
  (λ h. elim ((fits_in_each_variable w f g).0 h) [
    | inl none ↦ let e = ap length none in absurd (omega arith)
    | inr other ↦ elim other [
      | inl none ↦ let e = ap length none in absurd (omega arith)
      | inr both ↦ means.1 both.1
    ]
  ]),
)

-- where a product fits whose factors aren't 0, the degrees add to what is allowed
pub fitting_degrees : (w : ℕ) (f g : List Term) → f ≢ [] → g ≢ [] → fits w f g ≡ true → (v : ℕ) → degree_in v f + degree_in v g ≤ 65535
fitting_degrees w f g some_f some_g fit v = elim ((fits_in_each_variable w f g).0 fit) [
  | inl none ↦ absurd (some_f none)
  | inr other ↦ elim other [
    | inl none ↦ absurd (some_g none)
    | inr both ↦ both.1 v
  ]
]
