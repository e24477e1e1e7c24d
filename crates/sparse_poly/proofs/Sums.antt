-- A sum by its first terms: what one turn of a merge does.
use Rattle.std.proofs.Common.{◌≡◌, ◌<◌, ◌%◌, ◌+◌, ℕ, [], ◌∷◌, ap, ap₂, sym, ◌∙◌}
use Rattle.std.proofs.Math.Nat.{mod-lt}
use Rattle.std.specs.declared.cmp.Ordering.TheVariants.{Less}
use Rattle.polynomials.specs.Monomials.{Monomial, monomial_order}
use Rattle.polynomials.specs.Polynomials.{Term, term, Polynomial, IsPolynomial, StartsBelow, with_first, sum_of}
use Rattle.polynomials.specs.Rings.{Ring, natural_in, weighted_sum}
use Rattle.polynomials.proofs.RingLaws.{plus_four, plus_assoc, plus-times}
use Rattle.polynomials.proofs.NaturalsInRings.{natural_in-add}
use Rattle.polynomials.proofs.SumsOfOperations.{weighted_sum-sum_of, weighted_sum-reduced_first}
use Rattle.polynomials.proofs.Residues.{Residue, residues, residues_characteristic}
use Rattle.polynomials.proofs.Monomialwise.{EachMonomial, EachMonomial-sum_of}
use Rattle.polynomials.proofs.Canonical.{IsPolynomial-sum_of, IsPolynomial-with_first, StartsBelow_trans}
use Rattle.polynomials.proofs.SamePolynomials.{same_from_sums, SameSums-from_one}
use Rattle.polynomials.proofs.PolynomialLaws.{sum_of_comm}

-- what is below m
abbrev pub IsBelow : Monomial → Monomial → Type 0
IsBelow m l = monomial_order l m ≡ Less

-- where the first monomial is below m, each is
pub all_below : (p n : ℕ) (m : Monomial) (f : Polynomial) → IsPolynomial p n f → StartsBelow m f → EachMonomial (IsBelow m) f
all_below p n m [] i s = tt
all_below p n m (t ∷ f) i s = (s, all_below p n m f i.4 (StartsBelow_trans t.0 m f i.3 s))

-- and the other way round
pub starts_below : (m : Monomial) (f : Polynomial) → EachMonomial (IsBelow m) f → StartsBelow m f
starts_below m [] e = tt
starts_below m (t ∷ f) e = e.0

module _ (p n : ℕ) (positive : 0 < p) where
  abbrev R : Ring (Residue p)
  R = residues p positive

  abbrev W : (Monomial → Residue p) → Polynomial → Residue p
  W h f = weighted_sum R h f

  W-sum_of : (h : Monomial → Residue p) (f g : Polynomial) → W h (sum_of p f g) ≡ R.◌⊕◌ (W h f) (W h g)
  W-sum_of h f g = weighted_sum-sum_of R p (residues_characteristic p positive) h f g

  -- the sum starts below whatever both start below
  starts_below-sum_of : (m : Monomial) (f g : Polynomial) → IsPolynomial p n f → IsPolynomial p n g → StartsBelow m f → StartsBelow m g → StartsBelow m (sum_of p f g)
  starts_below-sum_of m f g i j a b = starts_below m (sum_of p f g) (EachMonomial-sum_of (IsBelow m) p f g (all_below p n m f i a) (all_below p n m g j b))

  -- the greater first term comes first
  pub sum_of-first : (x : Term) (f g : Polynomial) → IsPolynomial p n (x ∷ f) → IsPolynomial p n g → StartsBelow x.0 g → sum_of p (x ∷ f) g ≡ x ∷ sum_of p f g
  sum_of-first x f g i j s =
      same_from_sums p n (sum_of p (x ∷ f) g) (x ∷ sum_of p f g)
      (IsPolynomial-sum_of p n positive (x ∷ f) g i j)
      (i.0, i.1, i.2, starts_below-sum_of x.0 f g i.4 j i.3 s, IsPolynomial-sum_of p n positive f g i.4 j)
      (SameSums-from_one p positive _ _ (λ h.
      W-sum_of h (x ∷ f) g
      ∙ (plus_assoc R (R.◌⊗◌ (natural_in R x.1) (h x.0)) (W h f) (W h g)
      ∙ ap (λ w. R.◌⊕◌ (R.◌⊗◌ (natural_in R x.1) (h x.0)) w) (sym (W-sum_of h f g)))))

  -- on the other side too
  pub sum_of-second : (y : Term) (f g : Polynomial) → IsPolynomial p n f → IsPolynomial p n (y ∷ g) → StartsBelow y.0 f → sum_of p f (y ∷ g) ≡ y ∷ sum_of p f g
  sum_of-second y f g i j s =
      sum_of_comm p positive n f (y ∷ g) i j
      ∙ (sum_of-first y g f j i s ∙ ap (λ h. y ∷ h) (sum_of_comm p positive n g f j.4 i))

  -- equal first monomials are added
  pub sum_of-both : (m : Monomial) (a b : ℕ) (f g : Polynomial) → IsPolynomial p n (term m a ∷ f) → IsPolynomial p n (term m b ∷ g) → sum_of p (term m a ∷ f) (term m b ∷ g) ≡ with_first (term m ((a + b) % p)) (sum_of p f g)
  sum_of-both m a b f g i j =
      same_from_sums p n (sum_of p (term m a ∷ f) (term m b ∷ g)) (with_first (term m ((a + b) % p)) (sum_of p f g))
      (IsPolynomial-sum_of p n positive (term m a ∷ f) (term m b ∷ g) i j)
      (IsPolynomial-with_first p n (term m ((a + b) % p)) (sum_of p f g) i.0 (mod-lt (a + b) positive) (starts_below-sum_of m f g i.4 j.4 i.3 j.3) (IsPolynomial-sum_of p n positive f g i.4 j.4))
      (SameSums-from_one p positive _ _ (λ h.
      W-sum_of h (term m a ∷ f) (term m b ∷ g)
      ∙ (plus_four R (R.◌⊗◌ (natural_in R a) (h m)) (W h f) (R.◌⊗◌ (natural_in R b) (h m)) (W h g)
      ∙ (ap₂ R.◌⊕◌
      (sym (plus-times R (natural_in R a) (natural_in R b) (h m)) ∙ ap (λ w. R.◌⊗◌ w (h m)) (sym (natural_in-add R a b)))
      (sym (W-sum_of h f g))
      ∙ sym (weighted_sum-reduced_first R p (residues_characteristic p positive) h m (a + b) (sum_of p f g))))))
