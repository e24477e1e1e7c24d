-- Terms in falling order, collected from the first on.
use Rattle.std.proofs.Common.{◌≡◌, ◌≢◌, ◌<◌, ◌%◌, ◌+◌, ℕ, List, ◌∷◌, ap, sym, ◌∙◌, subst, inl, inr}
use Rattle.std.proofs.Math.Nat.{mod-eq_of_lt}
use Rattle.std.specs.declared.cmp.Ordering.TheVariants.{Less}
use Rattle.polynomials.specs.Monomials.{Monomial, monomial_order}
use Rattle.polynomials.specs.MonomialOrders.{monomial_order_trans}
use Rattle.polynomials.specs.Polynomials.{Term, term, with_first, collected}
use Rattle.polynomials.specs.Rings.{Ring, natural_in, weighted_sum}
use Rattle.polynomials.proofs.RingLaws.{plus_assoc, plus-times}
use Rattle.polynomials.proofs.NaturalsInRings.{natural_in-add, natural_in-mod}
use Rattle.polynomials.proofs.SumsOfOperations.{weighted_sum-collected, weighted_sum-reduced_first}
use Rattle.polynomials.proofs.Residues.{Residue, residues, residues_characteristic}
use Rattle.polynomials.proofs.Monomialwise.{EachMonomial, EachMonomial-collected, EachMonomial-implied, HaveLength}
use Rattle.polynomials.proofs.Canonical.{IsPolynomial-collected, IsPolynomial-with_first}
use Rattle.polynomials.proofs.SamePolynomials.{same_from_sums, SameSums-from_one}
use Rattle.sparse_poly.specs.Falling.{IsAtMost, IsFalling}
use Rattle.sparse_poly.proofs.Sums.{IsBelow, starts_below}

-- what is at most t, which is below m, is below m
below_trans : (m k l : Monomial) → IsBelow m k → IsAtMost k l → IsBelow m l
below_trans m k l below (inl less) = monomial_order_trans l k m less below
below_trans m k l below (inr same) = subst (λ x. monomial_order x m ≡ Less) (sym same) below

-- after a first monomial that is below m, each is
pub falling_below : (m : Monomial) (t : Term) (ts : List Term) → IsBelow m t.0 → IsFalling (t ∷ ts) → EachMonomial (IsBelow m) (t ∷ ts)
falling_below m t ts below falling = (below, EachMonomial-implied (IsAtMost t.0) (IsBelow m) (λ l h. below_trans m t.0 l below h) ts falling.0)

-- what is at most m and isn't m is below m
pub below_from_other : (m l : Monomial) → IsAtMost m l → l ≢ m → IsBelow m l
below_from_other m l (inl less) other = less
below_from_other m l (inr same) other = absurd (other same)

module _ (p n : ℕ) (positive : 0 < p) where
  abbrev R : Ring (Residue p)
  R = residues p positive

  -- two terms of one monomial are one
  pub collected-same : (m : Monomial) (a b : ℕ) (ts : List Term) → HaveLength n (term m a ∷ term m b ∷ ts) → collected p (term m a ∷ term m b ∷ ts) ≡ collected p (term m ((a + b) % p) ∷ ts)
  collected-same m a b ts lengths =
      same_from_sums p n _ _
      (IsPolynomial-collected p n positive (term m a ∷ term m b ∷ ts) lengths)
      (IsPolynomial-collected p n positive (term m ((a + b) % p) ∷ ts) (lengths.0, lengths.1.1))
      (SameSums-from_one p positive _ _ (λ h.
      weighted_sum-collected R p (residues_characteristic p positive) h (term m a ∷ term m b ∷ ts)
      ∙ (sym (plus_assoc R (R.◌⊗◌ (natural_in R a) (h m)) (R.◌⊗◌ (natural_in R b) (h m)) (weighted_sum R h ts))
      ∙ (ap (λ w. R.◌⊕◌ w (weighted_sum R h ts))
      (sym (plus-times R (natural_in R a) (natural_in R b) (h m))
      ∙ ap (λ w. R.◌⊗◌ w (h m)) (sym (natural_in-add R a b) ∙ sym (natural_in-mod R p (residues_characteristic p positive) (a + b))))
      ∙ sym (weighted_sum-collected R p (residues_characteristic p positive) h (term m ((a + b) % p) ∷ ts))))))

  -- a first monomial above the others comes first
  pub collected-first : (m : Monomial) (a : ℕ) (ts : List Term) → a < p → HaveLength n (term m a ∷ ts) → EachMonomial (IsBelow m) ts → collected p (term m a ∷ ts) ≡ with_first (term m a) (collected p ts)
  collected-first m a ts small lengths below =
      same_from_sums p n _ _
      (IsPolynomial-collected p n positive (term m a ∷ ts) lengths)
      (IsPolynomial-with_first p n (term m a) (collected p ts) lengths.0 small
      (starts_below m (collected p ts) (EachMonomial-collected (IsBelow m) p ts below))
      (IsPolynomial-collected p n positive ts lengths.1))
      (SameSums-from_one p positive _ _ (λ h.
      weighted_sum-collected R p (residues_characteristic p positive) h (term m a ∷ ts)
      ∙ (ap (λ w. R.◌⊕◌ (R.◌⊗◌ (natural_in R a) (h m)) w) (sym (weighted_sum-collected R p (residues_characteristic p positive) h ts))
      ∙ (sym (weighted_sum-reduced_first R p (residues_characteristic p positive) h m a (collected p ts))
      ∙ ap (λ c. weighted_sum R h (with_first (term m c) (collected p ts))) (mod-eq_of_lt small)))))
