-- Values at a point of a finite ring, from values in a ring.
use Rattle.std.proofs.Common.{◌≡◌, ◌≢◌, ◌↔◌, ◌<◌, ℕ, ◌*◌, List, [], ◌∷◌, ap, ap₂, sym, ◌∙◌}
use Rattle.polynomials.specs.Primes.{IsPrime, inverse_of}
use Rattle.polynomials.specs.Polynomials.{Polynomial, IsPolynomial, sum_of, difference_of, product_of, scaled, constant_of, monic}
use Rattle.polynomials.specs.Rings.{Ring, natural_in, value}
use Rattle.polynomials.proofs.RingLaws.{plus_assoc, neg-plus, plus-nil, times-nil}
use Rattle.polynomials.proofs.NaturalsInRings.{natural_in-one, natural_in-mul, natural_in-mod, natural_in-nonzero}
use Rattle.polynomials.proofs.InverseLemmas.{inverse_of_is}
use Rattle.polynomials.proofs.Values.{value-sum_of, value-difference_of, value-product_of, value-scaled, value-constant_of}
use Rattle.polynomials.proofs.MonicLemmas.{inverse_positive}
use Rattle.zero_sets.specs.Domains.{Tables, IsFiniteRing, IsPoint, plus_in, times_in, value_at}
use Rattle.zero_sets.proofs.TableRings.{Element, table_ring, has_characteristic, coordinates, value-table, element_path}

module _ (p : ℕ) (r : Tables) (finite : IsFiniteRing p r) (xs : List ℕ) (point : IsPoint r xs) where
  abbrev R : Ring (Element r)
  R = table_ring p r finite

  -- the value in the ring
  abbrev V : Polynomial → Element r
  V f = value R (coordinates p r finite xs point) f

  number : (f : Polynomial) → (V f).0 ≡ value_at r xs f
  number f = value-table p r finite xs point f

  pub value_at-sum_of : (f g : Polynomial) → value_at r xs (sum_of p f g) ≡ plus_in r (value_at r xs f) (value_at r xs g)
  value_at-sum_of f g =
      sym (number (sum_of p f g))
      ∙ (ap (λ u. u.0) (value-sum_of R p (has_characteristic p r finite) (coordinates p r finite xs point) f g)
      ∙ ap₂ (plus_in r) (number f) (number g))

  pub value_at-product_of : (f g : Polynomial) → value_at r xs (product_of p f g) ≡ times_in r (value_at r xs f) (value_at r xs g)
  value_at-product_of f g =
      sym (number (product_of p f g))
      ∙ (ap (λ u. u.0) (value-product_of R p (has_characteristic p r finite) (coordinates p r finite xs point) f g)
      ∙ ap₂ (times_in r) (number f) (number g))

  -- what is taken away and what is left add to the whole
  left_and_taken : (n : ℕ) (f g : Polynomial) → IsPolynomial p n g → R.◌⊕◌ (V (difference_of p f g)) (V g) ≡ V f
  left_and_taken n f g i =
      ap (λ u. R.◌⊕◌ u (V g)) (value-difference_of R p (has_characteristic p r finite) (coordinates p r finite xs point) n f g i)
      ∙ (plus_assoc R (V f) (R.neg (V g)) (V g) ∙ (ap (λ u. R.◌⊕◌ (V f) u) (neg-plus R (V g)) ∙ plus-nil R (V f)))

  pub value_at-difference_of : (n : ℕ) (f g : Polynomial) → IsPolynomial p n g → plus_in r (value_at r xs (difference_of p f g)) (value_at r xs g) ≡ value_at r xs f
  value_at-difference_of n f g i =
      sym (ap₂ (plus_in r) (number (difference_of p f g)) (number g))
      ∙ (ap (λ u. u.0) (left_and_taken n f g i) ∙ number f)

  one_not_nil : R.one ≢ R.nil
  one_not_nil e = finite.one_not_nil (ap (λ u. u.0) e)

  -- a residue other than 0 is not 0 in the ring
  residue_nonzero : (c : ℕ) → IsPrime p → 0 < c → c < p → natural_in R c ≢ R.nil
  residue_nonzero c prime positive below = natural_in-nonzero R p (has_characteristic p r finite) one_not_nil c (inverse_of p c) (inverse_of_is p c prime positive below).1

  pub value_at-constant_of : (n c : ℕ) → IsPrime p → 0 < c → c < p → value_at r xs (constant_of n c) ≢ r.nil
  value_at-constant_of n c prime positive below e =
      residue_nonzero c prime positive below
      (sym (value-constant_of R (coordinates p r finite xs point) n c) ∙ element_path r (number (constant_of n c) ∙ e))

  -- what is 0 in the ring is 0 by the tables, and the other way round
  pub zero_number : (f : Polynomial) → V f ≡ R.nil → value_at r xs f ≡ r.nil
  zero_number f e = sym (number f) ∙ ap (λ u. u.0) e

  pub zero_element : (f : Polynomial) → value_at r xs f ≡ r.nil → V f ≡ R.nil
  zero_element f e = element_path r (number f ∙ e)

  -- a multiple by a residue other than 0 has the same zeros
  scaled_zeros : (c : ℕ) (f : Polynomial) → IsPrime p → 0 < c → c < p → (value_at r xs (scaled p c f) ≡ r.nil) ↔ (value_at r xs f ≡ r.nil)
  scaled_zeros c f prime positive below = (forth, back)
    where
      multiple : V (scaled p c f) ≡ R.◌⊗◌ (natural_in R c) (V f)
      multiple = value-scaled R p (has_characteristic p r finite) (coordinates p r finite xs point) c f

      inverse : R.◌⊗◌ (natural_in R (inverse_of p c)) (natural_in R c) ≡ R.one
      inverse =
          R.mul_comm (natural_in R (inverse_of p c)) (natural_in R c)
          ∙ (sym (natural_in-mul R c (inverse_of p c))
          ∙ (sym (natural_in-mod R p (has_characteristic p r finite) (c * inverse_of p c))
          ∙ (ap (natural_in R) (inverse_of_is p c prime positive below).1 ∙ natural_in-one R)))

      forth : value_at r xs (scaled p c f) ≡ r.nil → value_at r xs f ≡ r.nil
      forth e = zero_number f (
          sym (R.one-mul (V f))
          ∙ (ap (λ u. R.◌⊗◌ u (V f)) (sym inverse)
          ∙ (R.mul_assoc (natural_in R (inverse_of p c)) (natural_in R c) (V f)
          ∙ (ap (R.◌⊗◌ (natural_in R (inverse_of p c))) (sym multiple ∙ zero_element (scaled p c f) e)
          ∙ times-nil R (natural_in R (inverse_of p c)))))
          )

      back : value_at r xs f ≡ r.nil → value_at r xs (scaled p c f) ≡ r.nil
      back e = zero_number (scaled p c f) (multiple ∙ (ap (λ u. R.◌⊗◌ (natural_in R c) u) (zero_element f e) ∙ times-nil R (natural_in R c)))

  pub value_at-monic : (n : ℕ) (f : Polynomial) → IsPrime p → IsPolynomial p n f → (value_at r xs (monic p f) ≡ r.nil) ↔ (value_at r xs f ≡ r.nil)
  value_at-monic n [] prime i = (λ e. e, λ e. e)
  value_at-monic n (t ∷ f) prime i =
      let inverse = inverse_of_is p t.1 prime i.1 i.2 in
      scaled_zeros (inverse_of p t.1) (t ∷ f) prime (inverse_positive p t.1 (inverse_of p t.1) inverse) inverse.0
