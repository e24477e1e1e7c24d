-- What one turn of a merge keeps.
use Rattle.std.proofs.Common.{◌≡◌, ◌≢◌, ◌⊎◌, ◌<◌, ◌≤◌, ◌+◌, ◌-◌, ◌%◌, ℕ, zero, suc, List, [], ◌∷◌, ◌++◌, length, get_or, drop, refl, ap, sym, ◌∙◌, subst, arith, append_assoc, inl, inr, append-nil}
use Rattle.std.proofs.Math.ListN.{drop_of_length-le}
use Rattle.std.proofs.Math.Nat.{mod-eq_of_lt}
use Rattle.std.specs.declared.cmp.Ordering.TheVariants.{Less, Equal, Greater}
use Rattle.polynomials.specs.Monomials.{monomial_order}
use Rattle.polynomials.specs.MonomialOrders.{monomial_order_same}
use Rattle.polynomials.specs.Polynomials.{Term, term, Polynomial, IsPolynomial, StartsBelow, with_first, sum_of}
use Rattle.polynomials.proofs.Canonical.{IsPolynomial-negative_of, monomial_order_greater}
use Rattle.polynomials.proofs.PolynomialLaws.{zero-sum_of, sum_of-zero}
use Rattle.sparse_poly.specs.declared.merge.Sign.{Sign}
use Rattle.sparse_poly.specs.declared.merge.Sign.TheVariants.{Plus, Minus}
use Rattle.sparse_poly.specs.Signs.{signed, signed_residue}
use Rattle.sparse_poly.proofs.Sums.{sum_of-first, sum_of-second, sum_of-both}
use Rattle.sparse_poly.proofs.Places.{drop_item, IsPolynomial-drop, IsPolynomial-item}

-- a polynomial with a sign is one
pub IsPolynomial-signed : (p n : ℕ) (s : Sign) (f : Polynomial) → IsPolynomial p n f → IsPolynomial p n (signed p s f)
IsPolynomial-signed p n Plus f i = i
IsPolynomial-signed p n Minus f i = IsPolynomial-negative_of p n f i

-- and 0 stays 0
signed-nil : (p : ℕ) (s : Sign) → signed p s [] ≡ []
signed-nil p Plus = refl
signed-nil p Minus = refl

-- the first term with a sign
pub signed-first : (p n : ℕ) (s : Sign) (y : Term) (f : Polynomial) → IsPolynomial p n (y ∷ f) → signed p s (y ∷ f) ≡ term y.0 (signed_residue p s y.1) ∷ signed p s f
signed-first p n Plus y f i = refl
signed-first p n Minus y f i = ap (λ c. term y.0 c ∷ signed p Minus f) (sym (mod-eq_of_lt (smaller i.1 i.2)))
  where
    smaller : 0 < y.1 → y.1 < p → p - y.1 < p
    smaller a b = omega arith

-- a term appended and one in front of what is to come
moved : (out : List Term) (x : Term) (rest all : List Term) → out ++ x ∷ rest ≡ all → (out ++ x ∷ []) ++ rest ≡ all
moved out x rest all h = append_assoc out (x ∷ []) rest ∙ h

-- one turn of appending a polynomial with its sign
pub append_turn : (p n : ℕ) (s : Sign) (out rest all : List Term) (i : ℕ) (t : Term) → IsPolynomial p n rest → i < length rest → t ≡ get_or rest i t → out ++ signed p s (drop i rest) ≡ all → (out ++ term t.0 (signed_residue p s t.1) ∷ []) ++ signed p s (drop (i + 1) rest) ≡ all
append_turn p n s out rest all i t is below at h =
    moved out (term t.0 (signed_residue p s t.1)) (signed p s (drop (i + 1) rest)) all
    (ap (λ f. out ++ f) (sym (ap (signed p s) (drop_item rest i t below at) ∙ signed-first p n s t (drop (i + 1) rest) (IsPolynomial-item p n i rest t is below at))) ∙ h)

module _ (p n : ℕ) (positive : 0 < p) (s : Sign) (out a b all : List Term) (i j : ℕ) (x y : Term) (ia : IsPolynomial p n a) (ib : IsPolynomial p n b) (la : i < length a) (lb : j < length b) (xa : x ≡ get_or a i x) (yb : y ≡ get_or b j y) where
  -- what is left of both, by its first terms
  whole_a : drop i a ≡ x ∷ drop (i + 1) a
  whole_a = drop_item a i x la xa

  whole_b : signed p s (drop j b) ≡ term y.0 (signed_residue p s y.1) ∷ signed p s (drop (j + 1) b)
  whole_b = ap (signed p s) (drop_item b j y lb yb) ∙ signed-first p n s y (drop (j + 1) b) (IsPolynomial-item p n j b y ib lb yb)

  canonical_a : IsPolynomial p n (x ∷ drop (i + 1) a)
  canonical_a = IsPolynomial-item p n i a x ia la xa

  canonical_b : IsPolynomial p n (term y.0 (signed_residue p s y.1) ∷ signed p s (drop (j + 1) b))
  canonical_b = subst (IsPolynomial p n) whole_b (IsPolynomial-signed p n s (drop j b) (IsPolynomial-drop p n j b ib))

  -- the greater term of the first
  pub turn_greater : monomial_order x.0 y.0 ≡ Greater → out ++ sum_of p (drop i a) (signed p s (drop j b)) ≡ all → (out ++ x ∷ []) ++ sum_of p (drop (i + 1) a) (signed p s (drop j b)) ≡ all
  turn_greater greater h =
      moved out x (sum_of p (drop (i + 1) a) (signed p s (drop j b))) all
      (ap (λ f. out ++ f)
      (sym (ap (λ f. sum_of p f (signed p s (drop j b))) whole_a
      ∙ sum_of-first p n positive x (drop (i + 1) a) (signed p s (drop j b)) canonical_a
      (IsPolynomial-signed p n s (drop j b) (IsPolynomial-drop p n j b ib))
      (subst (StartsBelow x.0) (sym whole_b) (monomial_order_greater x.0 y.0 greater))))
      ∙ h)

  -- the greater term of the second
  pub turn_less : monomial_order x.0 y.0 ≡ Less → out ++ sum_of p (drop i a) (signed p s (drop j b)) ≡ all → (out ++ term y.0 (signed_residue p s y.1) ∷ []) ++ sum_of p (drop i a) (signed p s (drop (j + 1) b)) ≡ all
  turn_less less h =
      moved out (term y.0 (signed_residue p s y.1)) (sum_of p (drop i a) (signed p s (drop (j + 1) b))) all
      (ap (λ f. out ++ f)
      (sym (ap (λ f. sum_of p (drop i a) f) whole_b
      ∙ sum_of-second p n positive (term y.0 (signed_residue p s y.1)) (drop i a) (signed p s (drop (j + 1) b))
      (IsPolynomial-drop p n i a ia) canonical_b
      (subst (StartsBelow y.0) (sym whole_a) less)))
      ∙ h)

  -- the sum of what is left, where both start with one monomial
  both : monomial_order x.0 y.0 ≡ Equal → sum_of p (drop i a) (signed p s (drop j b)) ≡ with_first (term x.0 ((x.1 + signed_residue p s y.1) % p)) (sum_of p (drop (i + 1) a) (signed p s (drop (j + 1) b)))
  both equal =
      ap (λ f. sum_of p f (signed p s (drop j b))) whole_a
      ∙ (ap (λ f. sum_of p (x ∷ drop (i + 1) a) f) (whole_b ∙ ap (λ m. term m (signed_residue p s y.1) ∷ signed p s (drop (j + 1) b)) (sym (monomial_order_same x.0 y.0 equal)))
      ∙ sum_of-both p n positive x.0 x.1 (signed_residue p s y.1) (drop (i + 1) a) (signed p s (drop (j + 1) b)) canonical_a
      (subst (λ m. IsPolynomial p n (term m (signed_residue p s y.1) ∷ signed p s (drop (j + 1) b))) (sym (monomial_order_same x.0 y.0 equal)) canonical_b))

  -- terms of one monomial that add to 0
  pub turn_equal_zero : monomial_order x.0 y.0 ≡ Equal → (x.1 + signed_residue p s y.1) % p ≡ 0 → out ++ sum_of p (drop i a) (signed p s (drop j b)) ≡ all → out ++ sum_of p (drop (i + 1) a) (signed p s (drop (j + 1) b)) ≡ all
  turn_equal_zero equal none h = ap (λ f. out ++ f) (sym (both equal ∙ ap (λ c. with_first (term x.0 c) (sum_of p (drop (i + 1) a) (signed p s (drop (j + 1) b)))) none)) ∙ h

  -- and that don't
  pub turn_equal : (c : ℕ) → monomial_order x.0 y.0 ≡ Equal → c ≡ (x.1 + signed_residue p s y.1) % p → c ≢ 0 → out ++ sum_of p (drop i a) (signed p s (drop j b)) ≡ all → (out ++ term x.0 c ∷ []) ++ sum_of p (drop (i + 1) a) (signed p s (drop (j + 1) b)) ≡ all
  turn_equal zero equal is some h = absurd (some refl)
  turn_equal (suc c) equal is some h =
      moved out (term x.0 (suc c)) (sum_of p (drop (i + 1) a) (signed p s (drop (j + 1) b))) all
      (ap (λ f. out ++ f) (sym (both equal ∙ ap (λ d. with_first (term x.0 d) (sum_of p (drop (i + 1) a) (signed p s (drop (j + 1) b)))) (sym is))) ∙ h)

-- where nothing is left of one of them, the rest of both is the sum of what was left
pub end_of_merge : (p n : ℕ) → 0 < p → (s : Sign) (out a b all : List Term) (i j : ℕ) → IsPolynomial p n a → IsPolynomial p n b → (length a ≤ i) ⊎ (length b ≤ j) → out ++ sum_of p (drop i a) (signed p s (drop j b)) ≡ all → (out ++ drop i a) ++ signed p s (drop j b) ≡ all
end_of_merge p n positive s out a b all i j ia ib (inl done) h =
    append_assoc out (drop i a) (signed p s (drop j b))
    ∙ (ap (λ f. out ++ f)
    (ap (λ f. f ++ signed p s (drop j b)) (drop_of_length-le a done)
    ∙ sym (ap (λ f. sum_of p f (signed p s (drop j b))) (drop_of_length-le a done)
    ∙ zero-sum_of p positive n (signed p s (drop j b)) (IsPolynomial-signed p n s (drop j b) (IsPolynomial-drop p n j b ib))))
    ∙ h)
end_of_merge p n positive s out a b all i j ia ib (inr done) h =
    append_assoc out (drop i a) (signed p s (drop j b))
    ∙ (ap (λ f. out ++ f)
    (ap (λ f. drop i a ++ f) (signed_nothing (drop_of_length-le b done))
    ∙ (append-nil (drop i a)
    ∙ sym (ap (λ f. sum_of p (drop i a) f) (signed_nothing (drop_of_length-le b done))
    ∙ sum_of-zero p positive n (drop i a) (IsPolynomial-drop p n i a ia))))
    ∙ h)
  where
    signed_nothing : drop j b ≡ [] → signed p s (drop j b) ≡ []
    signed_nothing none = ap (signed p s) none ∙ signed-nil p s
