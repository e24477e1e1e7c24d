-- Polynomials with the same weighted sums are the same.
use Rattle.std.proofs.Common.{◌≡◌, ℕ, ◌<◌, List, [], ◌∷◌, refl, sym, ap, ap₂, ◌∙◌, subst, arith}
use native.Mathlib.Bridge.{le_prop}
use Rattle.std.specs.declared.cmp.Ordering.{Ordering}
use Rattle.std.specs.declared.cmp.Ordering.TheVariants.{Less, Equal, Greater}
use Rattle.polynomials.specs.Monomials.{Monomial, monomial_order}
use Rattle.polynomials.specs.MonomialOrders.{monomial_order-refl, monomial_order_same}
use Rattle.polynomials.specs.Polynomials.{Term, term, Polynomial, StartsBelow, IsPolynomial, collected}
use Rattle.polynomials.specs.Rings.{Ring, natural_in, weighted_sum}
use Rattle.polynomials.proofs.RingLaws.{nil-plus, plus-nil, times-one, times-nil, plus_cancel_left}
use Rattle.polynomials.proofs.SumsOfOperations.{weighted_sum-collected}
use Rattle.polynomials.proofs.Residues.{Residue, residues, natural_in-residues_small, residues_characteristic}
use Rattle.polynomials.proofs.Monomialwise.{HaveLength-from_IsPolynomial}
use Rattle.polynomials.proofs.Canonical.{StartsBelow_trans, monomial_order_greater, IsPolynomial-collected}

-- both have the same weighted sums in the residues modulo p
pub record SameSums (p : ℕ) (f g : List Term) : Type 0 where
  pub at : (positive : 0 < p) (h : Monomial → Residue p) → weighted_sum (residues p positive) h f ≡ weighted_sum (residues p positive) h g

-- it is an equivalence, and equal lists have it
pub SameSums-refl : (p : ℕ) (f : List Term) → SameSums p f f
SameSums-refl p f = record { at = λ positive h. refl }

-- turned round
pub SameSums-sym : (p : ℕ) (f g : List Term) → SameSums p f g → SameSums p g f
SameSums-sym p f g e = record { at = λ positive h. sym (e.at positive h) }

-- in two steps
pub SameSums-trans : (p : ℕ) (f g k : List Term) → SameSums p f g → SameSums p g k → SameSums p f k
SameSums-trans p f g k d e = record { at = λ positive h. d.at positive h ∙ e.at positive h }

-- of equal lists
pub SameSums-from_path : (p : ℕ) (f g : List Term) → f ≡ g → SameSums p f g
SameSums-from_path p f g e = record { at = λ positive h. ap (weighted_sum (residues p positive) h) e }

-- sums that are the same for one proof that p is positive are the same for each
pub SameSums-from_one : (p : ℕ) (positive : 0 < p) (f g : List Term) → ((h : Monomial → Residue p) → weighted_sum (residues p positive) h f ≡ weighted_sum (residues p positive) h g) → SameSums p f g
SameSums-from_one p positive f g e = record { at = λ q h. subst (λ (z : 0 < p). weighted_sum (residues p z) h f ≡ weighted_sum (residues p z) h g) (le_prop positive q) (e h) }

-- collecting terms keeps the sums
pub SameSums-collected : (p : ℕ) (ts : List Term) → SameSums p (collected p ts) ts
SameSums-collected p ts = record { at = λ positive h. weighted_sum-collected (residues p positive) p (residues_characteristic p positive) h ts }

-- 1 where the monomials tie, and else 0
abbrev pub one_if_equal : {A : Type 0} → Ring A → Ordering → A
one_if_equal r Less = r.nil
one_if_equal r Equal = r.one
one_if_equal r Greater = r.nil

-- the weight that is 1 at m alone
abbrev pub indicator : {A : Type 0} → Ring A → Monomial → Monomial → A
indicator r m l = one_if_equal r (monomial_order l m)

module _ {A : Type 0} (r : Ring A) (p n : ℕ) where
  open r use {◌⊕◌, ◌⊗◌, nil, one, neg}

  -- the coefficient of a monomial above all of f is 0
  pub weighted_sum-indicator_above : (m : Monomial) (f : Polynomial) → IsPolynomial p n f → StartsBelow m f → weighted_sum r (indicator r m) f ≡ nil
  weighted_sum-indicator_above m [] i h = refl
  weighted_sum-indicator_above m (t ∷ f) i h = ap₂ ◌⊕◌ (ap (λ o. natural_in r t.1 ⊗ one_if_equal r o) h ∙ times-nil r (natural_in r t.1)) (weighted_sum-indicator_above m f i.4 (StartsBelow_trans t.0 m f i.3 h)) ∙ nil-plus r nil

  -- that of the first monomial is the first coefficient
  pub weighted_sum-indicator_first : (t : Term) (f : Polynomial) → IsPolynomial p n (t ∷ f) → weighted_sum r (indicator r t.0) (t ∷ f) ≡ natural_in r t.1
  weighted_sum-indicator_first t f i = ap₂ ◌⊕◌ (ap (λ o. natural_in r t.1 ⊗ one_if_equal r o) (monomial_order-refl t.0) ∙ times-one r (natural_in r t.1)) (weighted_sum-indicator_above t.0 f i.4 i.3) ∙ plus-nil r (natural_in r t.1)

module _ (p n : ℕ) where
  -- a first term that nothing in g answers
  first_without : (t : Term) (f g : Polynomial) → IsPolynomial p n (t ∷ f) → IsPolynomial p n g → StartsBelow t.0 g → SameSums p (t ∷ f) g → ⊥
  first_without t f g i j below same =
      let above = i.1 in
      let small = i.2 in
      let positive : 0 < p = omega arith in
      let value = sym (natural_in-residues_small p positive t.1 small) ∙ ap (λ x. x.0) (sym (weighted_sum-indicator_first (residues p positive) p n t f i) ∙ same.at positive (indicator (residues p positive) t.0) ∙ weighted_sum-indicator_above (residues p positive) p n t.0 g j below) in
      omega (arith, value)

  -- first terms of one monomial have one coefficient
  same_first : (t u : Term) (f g : Polynomial) → IsPolynomial p n (t ∷ f) → IsPolynomial p n (u ∷ g) → t.0 ≡ u.0 → SameSums p (t ∷ f) (u ∷ g) → t ≡ u
  same_first t u f g i j e same =
      let above = i.1 in
      let small = i.2 in
      let positive : 0 < p = omega arith in
      let ring = residues p positive in
      let value : natural_in ring t.1 ≡ natural_in ring u.1 = sym (weighted_sum-indicator_first ring p n t f i) ∙ same.at positive (indicator ring t.0) ∙ ap (λ m. weighted_sum ring (indicator ring m) (u ∷ g)) e ∙ weighted_sum-indicator_first ring p n u g j in
      ap₂ term e (sym (natural_in-residues_small p positive t.1 i.2) ∙ ap (λ x. x.0) value ∙ natural_in-residues_small p positive u.1 j.2)

  -- without equal first terms the sums are still the same
  same_rest : (t u : Term) (f g : List Term) → t ≡ u → SameSums p (t ∷ f) (u ∷ g) → SameSums p f g
  same_rest t u f g e same = record { at = λ positive h. plus_cancel_left (residues p positive) ((residues p positive).◌⊗◌ (natural_in (residues p positive) t.1) (h t.0)) (weighted_sum (residues p positive) h f) (weighted_sum (residues p positive) h g) (same.at positive h ∙ ap (λ w. weighted_sum (residues p positive) h (w ∷ g)) (sym e)) }

  same_by_order : (t u : Term) (f g : Polynomial) (o : Ordering) → monomial_order t.0 u.0 ≡ o → IsPolynomial p n (t ∷ f) → IsPolynomial p n (u ∷ g) → (SameSums p f g → f ≡ g) → SameSums p (t ∷ f) (u ∷ g) → t ∷ f ≡ u ∷ g
  same_by_order t u f g Less e i j later same = absurd (first_without u g (t ∷ f) j i e (SameSums-sym p (t ∷ f) (u ∷ g) same))
  same_by_order t u f g Equal e i j later same =
      let first = same_first t u f g i j (monomial_order_same t.0 u.0 e) same in
      ap₂ ◌∷◌ first (later (same_rest t u f g first same))
  same_by_order t u f g Greater e i j later same = absurd (first_without t f (u ∷ g) i j (monomial_order_greater t.0 u.0 e) same)

  -- canonical polynomials with the same sums are the same
  pub same_from_sums : (f g : Polynomial) → IsPolynomial p n f → IsPolynomial p n g → SameSums p f g → f ≡ g
  same_from_sums [] [] i j same = refl
  same_from_sums [] (u ∷ g) i j same = absurd (first_without u g [] j i tt (SameSums-sym p [] (u ∷ g) same))
  same_from_sums (t ∷ f) [] i j same = absurd (first_without t f [] i j tt same)
  same_from_sums (t ∷ f) (u ∷ g) i j same = same_by_order t u f g (monomial_order t.0 u.0) refl i j (same_from_sums f g i.4 j.4) same

  -- a canonical polynomial is what its terms are collected to
  pub collected_itself : (f : Polynomial) → IsPolynomial p n f → collected p f ≡ f
  collected_itself [] i = refl
  collected_itself (t ∷ f) i =
      let above = i.1 in
      let small = i.2 in
      let positive : 0 < p = omega arith in
      same_from_sums (collected p (t ∷ f)) (t ∷ f) (IsPolynomial-collected p n positive (t ∷ f) (HaveLength-from_IsPolynomial p n (t ∷ f) i)) i (SameSums-collected p (t ∷ f))
