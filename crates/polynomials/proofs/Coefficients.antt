-- The coefficients of the powers of one variable, by weighted sums.
use Rattle.std.proofs.Common.{◌≡◌, ◌≢◌, ℕ, ◌<◌, Bool, true, false, cond, eqb, List, [], ◌∷◌, length, set, refl, sym, ap, ◌∙◌, length-set}
use Rattle.std.specs.declared.cmp.Ordering.TheVariants.{Less}
use Rattle.std.proofs.lemmas.Bool.{cond_both, eqb-true, eqb-false}
use Rattle.polynomials.specs.Monomials.{Monomial, exponent_of, monomial_order}
use Rattle.polynomials.specs.Polynomials.{Term, term, Polynomial, IsPolynomial, collected}
use Rattle.polynomials.specs.Views.{coefficient_in, without_power}
use Rattle.polynomials.specs.Rings.{Ring, natural_in, weighted_sum}
use Rattle.polynomials.proofs.RingLaws.{nil-plus, plus-nil, times-nil}
use Rattle.polynomials.proofs.WeightedSums.{weighted_sum-sum, weighted_sum-same, weighted_sum-nil}
use Rattle.polynomials.proofs.Monomialwise.{EachMonomial, HaveLength}
use Rattle.polynomials.proofs.Canonical.{IsPolynomial-collected}
use Rattle.polynomials.proofs.Residues.{residues}
use Rattle.polynomials.proofs.SamePolynomials.{SameSums-collected, SameSums-from_one, same_from_sums}
use Rattle.polynomials.proofs.FirstTerms.{StartsBelow-from_AreBelow, AreBelow-from_StartsBelow}
use Rattle.polynomials.proofs.Exponents.{monomial_order-set}

-- the weight of the monomial without v, where the power of v is k, and else 0
abbrev pub at_power : {A : Type 0} → Ring A → ℕ → ℕ → (Monomial → A) → Monomial → A
at_power r v k h m = cond (eqb (exponent_of v m) k) (h (set m v 0)) r.nil

-- the weight of the monomial where the power of v isn't k, and else 0
abbrev pub off_power : {A : Type 0} → Ring A → ℕ → ℕ → (Monomial → A) → Monomial → A
off_power r v k h m = cond (eqb (exponent_of v m) k) r.nil (h m)

module _ {A : Type 0} (r : Ring A) where
  open r use {◌⊕◌, ◌⊗◌, nil, one, neg}

  -- a term that a test keeps
  kept_term : (h : Monomial → A) (b : Bool) (m : Monomial) (c : ℕ) (f : List Term) (s : A) → weighted_sum r h f ≡ s → weighted_sum r h (cond b (term m c ∷ f) f) ≡ (natural_in r c ⊗ cond b (h m) nil) ⊕ s
  kept_term h true m c f s e = ap (λ w. (natural_in r c ⊗ h m) ⊕ w) e
  kept_term h false m c f s e = e ∙ sym (ap (λ w. w ⊕ s) (times-nil r (natural_in r c)) ∙ nil-plus r s)

  -- and one that a test drops
  dropped_term : (h : Monomial → A) (b : Bool) (t : Term) (f : List Term) (s : A) → weighted_sum r h f ≡ s → weighted_sum r h (cond b f (t ∷ f)) ≡ (natural_in r t.1 ⊗ cond b nil (h t.0)) ⊕ s
  dropped_term h true t f s e = e ∙ sym (ap (λ w. w ⊕ s) (times-nil r (natural_in r t.1)) ∙ nil-plus r s)
  dropped_term h false t f s e = ap (λ w. (natural_in r t.1 ⊗ h t.0) ⊕ w) e

  -- the sum of a coefficient is a sum of the whole
  pub weighted_sum-coefficient_in : (h : Monomial → A) (v k : ℕ) (f : List Term) → weighted_sum r h (coefficient_in v k f) ≡ weighted_sum r (at_power r v k h) f
  weighted_sum-coefficient_in h v k [] = refl
  weighted_sum-coefficient_in h v k (t ∷ f) = kept_term h (eqb (exponent_of v t.0) k) (set t.0 v 0) t.1 (coefficient_in v k f) (weighted_sum r (at_power r v k h) f) (weighted_sum-coefficient_in h v k f)

  -- so is that of the other powers
  pub weighted_sum-without_power : (h : Monomial → A) (v k : ℕ) (f : List Term) → weighted_sum r h (without_power v k f) ≡ weighted_sum r (off_power r v k h) f
  weighted_sum-without_power h v k [] = refl
  weighted_sum-without_power h v k (t ∷ f) = dropped_term h (eqb (exponent_of v t.0) k) t (without_power v k f) (weighted_sum r (off_power r v k h) f) (weighted_sum-without_power h v k f)

  -- a choice outside a sum
  pub weighted_sum-cond : (b : Bool) (h : Monomial → A) (f : List Term) → weighted_sum r (λ m. cond b (h m) nil) f ≡ cond b (weighted_sum r h f) nil
  weighted_sum-cond true h f = refl
  weighted_sum-cond false h f = weighted_sum-nil r f

  split_weight : (b : Bool) (x : A) → x ≡ cond b x nil ⊕ cond b nil x
  split_weight true x = sym (plus-nil r x)
  split_weight false x = sym (nil-plus r x)

  -- a sum is the part at a power of v and the part off it
  pub weighted_sum-by_power : (h : Monomial → A) (v k : ℕ) (f : List Term) → weighted_sum r h f ≡ weighted_sum r (λ m. cond (eqb (exponent_of v m) k) (h m) nil) f ⊕ weighted_sum r h (without_power v k f)
  weighted_sum-by_power h v k f =
      weighted_sum-same r h (λ m. cond (eqb (exponent_of v m) k) (h m) nil ⊕ off_power r v k h m) (λ m. split_weight (eqb (exponent_of v m) k) (h m)) f
      ∙ weighted_sum-sum r (λ m. cond (eqb (exponent_of v m) k) (h m) nil) (off_power r v k h) f
      ∙ ap (λ w. weighted_sum r (λ m. cond (eqb (exponent_of v m) k) (h m) nil) f ⊕ w) (sym (weighted_sum-without_power h v k f))

module _ (v k : ℕ) where
  -- what a coefficient's monomials have from those of f
  pub EachMonomial-coefficient_in : (P Q : Monomial → Type 0) → ((m : Monomial) → exponent_of v m ≡ k → P m → Q (set m v 0)) → (f : List Term) → EachMonomial P f → EachMonomial Q (coefficient_in v k f)
  EachMonomial-coefficient_in P Q follows [] h = tt
  EachMonomial-coefficient_in P Q follows (t ∷ f) h =
      let rest = EachMonomial-coefficient_in P Q follows f h.1 in
      cond_both (eqb (exponent_of v t.0) k) (term (set t.0 v 0) t.1 ∷ coefficient_in v k f) (coefficient_in v k f) (EachMonomial Q) (λ e. (follows t.0 (eqb-true (exponent_of v t.0) k e) h.0, rest)) (λ e. rest)

  -- and those of the other powers
  pub EachMonomial-without_power : (P Q : Monomial → Type 0) → ((m : Monomial) → exponent_of v m ≢ k → P m → Q m) → (f : List Term) → EachMonomial P f → EachMonomial Q (without_power v k f)
  EachMonomial-without_power P Q follows [] h = tt
  EachMonomial-without_power P Q follows (t ∷ f) h =
      let rest = EachMonomial-without_power P Q follows f h.1 in
      cond_both (eqb (exponent_of v t.0) k) (without_power v k f) (t ∷ without_power v k f) (EachMonomial Q) (λ e. rest) (λ e. (follows t.0 (eqb-false (exponent_of v t.0) k e) h.0, rest))

  -- the monomials keep their length
  pub HaveLength-coefficient_in : (n : ℕ) (f : List Term) → HaveLength n f → HaveLength n (coefficient_in v k f)
  HaveLength-coefficient_in n f h = EachMonomial-coefficient_in (λ m. length m ≡ n) (λ m. length m ≡ n) (λ m e l. length-set m v 0 ∙ l) f h

  module _ (p n : ℕ) where
    -- a coefficient is canonical as it stands
    pub IsPolynomial-coefficient_in : (f : Polynomial) → IsPolynomial p n f → IsPolynomial p n (coefficient_in v k f)
    IsPolynomial-coefficient_in [] i = tt
    IsPolynomial-coefficient_in (t ∷ f) i =
        let rest = IsPolynomial-coefficient_in f i.4 in
        let below = λ (e : exponent_of v t.0 ≡ k). StartsBelow-from_AreBelow (set t.0 v 0) (coefficient_in v k f) (EachMonomial-coefficient_in (λ l. monomial_order l t.0 ≡ Less) (λ l. monomial_order l (set t.0 v 0) ≡ Less) (λ l d h. monomial_order-set v l t.0 (d ∙ sym e) ∙ h) f (AreBelow-from_StartsBelow p n t.0 f i.4 i.3)) in
        cond_both (eqb (exponent_of v t.0) k) (term (set t.0 v 0) t.1 ∷ coefficient_in v k f) (coefficient_in v k f) (IsPolynomial p n) (λ e. (length-set t.0 v 0 ∙ i.0, i.1, i.2, below (eqb-true (exponent_of v t.0) k e), rest)) (λ e. rest)

    -- so are the other powers
    pub IsPolynomial-without_power : (f : Polynomial) → IsPolynomial p n f → IsPolynomial p n (without_power v k f)
    IsPolynomial-without_power [] i = tt
    IsPolynomial-without_power (t ∷ f) i =
        let rest = IsPolynomial-without_power f i.4 in
        let below = StartsBelow-from_AreBelow t.0 (without_power v k f) (EachMonomial-without_power (λ l. monomial_order l t.0 ≡ Less) (λ l. monomial_order l t.0 ≡ Less) (λ l d h. h) f (AreBelow-from_StartsBelow p n t.0 f i.4 i.3)) in
        cond_both (eqb (exponent_of v t.0) k) (without_power v k f) (t ∷ without_power v k f) (IsPolynomial p n) (λ e. rest) (λ e. (i.0, i.1, i.2, below, rest))

    -- the coefficient of collected terms is collected from the terms at the power
    pub coefficient_in-collected : 0 < p → (ts : List Term) → HaveLength n ts → coefficient_in v k (collected p ts) ≡ collected p (coefficient_in v k ts)
    coefficient_in-collected positive ts h = same_from_sums p n (coefficient_in v k (collected p ts)) (collected p (coefficient_in v k ts)) (IsPolynomial-coefficient_in (collected p ts) (IsPolynomial-collected p n positive ts h)) (IsPolynomial-collected p n positive (coefficient_in v k ts) (HaveLength-coefficient_in n ts h)) (SameSums-from_one p positive _ _ (λ w.
        weighted_sum-coefficient_in (residues p positive) w v k (collected p ts)
        ∙ (SameSums-collected p ts).at positive (at_power (residues p positive) v k w)
        ∙ sym (weighted_sum-coefficient_in (residues p positive) w v k ts)
        ∙ sym ((SameSums-collected p (coefficient_in v k ts)).at positive w)))
