-- At a zero of the chain a certified initial vanishes only where the certificate's value does.
use Rattle.std.proofs.Common.{◌≡◌, ℕ, Bool, true, false, List, [], ◌∷◌, refl, ap, ap₂, sym, ◌∙◌}
use Rattle.polynomials.specs.Polynomials.{Polynomial, sum_of, product_of}
use Rattle.polynomials.specs.Rings.{Ring, value}
use Rattle.polynomials.specs.Views.{main_var, initial_of}
use Rattle.polynomials.proofs.RingLaws.{nil-plus, times-nil}
use Rattle.polynomials.proofs.Values.{value-sum_of, value-product_of}
use Rattle.zero_sets.specs.Domains.{Tables, IsFiniteRing, IsPoint, value_at}
use Rattle.zero_sets.specs.ZeroSets.{InZeroSet, members_below, is_variable_below}
use Rattle.zero_sets.specs.Certificates.{Certificate, CertifiesInitial}
use Rattle.polynomials.specs.Sums.{combination}
use Rattle.zero_sets.proofs.TableRings.{Element, table_ring, has_characteristic, coordinates}
use Rattle.zero_sets.proofs.ValueLaws.{zero_number, zero_element}

-- a zero of all is one of those with a smaller main variable
pub InZeroSet-members_below : (r : Tables) (xs : List ℕ) (v : ℕ) (chain : List Polynomial) → InZeroSet r xs chain → InZeroSet r xs (members_below v chain)
InZeroSet-members_below r xs v [] zeros = tt
InZeroSet-members_below r xs v (t ∷ chain) zeros = go (is_variable_below v (main_var t)) (InZeroSet-members_below r xs v chain zeros.1)
  where
    go : (b : Bool) → InZeroSet r xs (members_below v chain) → InZeroSet r xs (elim b [ true ↦ t ∷ members_below v chain | false ↦ members_below v chain ])
    go true later = (zeros.0, later)
    go false later = later

module _ (p n : ℕ) (r : Tables) (finite : IsFiniteRing p r) (xs : List ℕ) (point : IsPoint r xs) where
  abbrev R : Ring (Element r)
  R = table_ring p r finite

  abbrev V : Polynomial → Element r
  V f = value R (coordinates p r finite xs point) f

  value_of_sum : (f g : Polynomial) → V (sum_of p f g) ≡ R.◌⊕◌ (V f) (V g)
  value_of_sum f g = value-sum_of R p (has_characteristic p r finite) (coordinates p r finite xs point) f g

  -- a factor that is 0 makes the product 0
  product_of_zero : (f g : Polynomial) → V g ≡ R.nil → V (product_of p f g) ≡ R.nil
  product_of_zero f g e =
      value-product_of R p (has_characteristic p r finite) (coordinates p r finite xs point) f g
      ∙ (ap (λ u. R.◌⊗◌ (V f) u) e ∙ times-nil R (V f))

  -- a combination of generators that are 0 is 0
  combination_of_zeros : (cs gs : List Polynomial) → InZeroSet r xs gs → V (combination p cs gs) ≡ R.nil
  combination_of_zeros [] gs zeros = refl
  combination_of_zeros (c ∷ cs) [] zeros = refl
  combination_of_zeros (c ∷ cs) (g ∷ gs) zeros =
      value_of_sum (product_of p c g) (combination p cs gs)
      ∙ (ap₂ R.◌⊕◌ (product_of_zero c g (zero_element p r finite xs point g zeros.0)) (combination_of_zeros cs gs zeros.1)
      ∙ nil-plus R R.nil)

  pub certified_value : (chain : List Polynomial) (c : Certificate) (t : Polynomial) → CertifiesInitial p n chain c t → InZeroSet r xs chain → value_at r xs (initial_of t) ≡ r.nil → value_at r xs c.value ≡ r.nil
  certified_value chain c t certifies zeros e =
      ap (value_at r xs) (sym certifies.identity)
      ∙ zero_number p r finite xs point
      (sum_of p (product_of p c.cofactor (initial_of t)) (combination p c.below (members_below c.of chain)))
      (value_of_sum (product_of p c.cofactor (initial_of t)) (combination p c.below (members_below c.of chain))
      ∙ (ap₂ R.◌⊕◌
      (product_of_zero c.cofactor (initial_of t) (zero_element p r finite xs point (initial_of t) e))
      (combination_of_zeros c.below (members_below c.of chain) (InZeroSet-members_below r xs c.of chain zeros))
      ∙ nil-plus R R.nil))
