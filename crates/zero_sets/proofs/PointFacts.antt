-- What is 0 at a point of a finite ring or domain: products, sums, differences, powers, multiples.
use Rattle.std.proofs.Common.{◌≡◌, ◌≢◌, ◌⊎◌, ◌↔◌, ℕ, List, [], ◌∷◌, ◌++◌, sym, ap, ◌∙◌, inl, inr}
use Rattle.std.proofs.lemmas.Bool.{cases_eq}
use Rattle.polynomials.specs.Polynomials.{Polynomial, sum_of, product_of}
use Rattle.polynomials.specs.Rings.{Ring, value}
use Rattle.polynomials.proofs.RingLaws.{nil-plus, times-nil, nil-times}
use Rattle.polynomials.proofs.Values.{value-sum_of, value-product_of}
use Rattle.zero_sets.specs.Domains.{Tables, IsFiniteRing, IsFiniteDomain, IsPoint, value_at}
use Rattle.zero_sets.specs.ZeroSets.{AreNonZero}
use Rattle.zero_sets.proofs.TableRings.{Element, table_ring, has_characteristic, is_integral, coordinates, value-table}
use Rattle.zero_sets.proofs.ValueLaws.{zero_number, zero_element}

-- a value is 0 or not
pub zero_or_not : (r : Tables) (xs : List ℕ) (f : Polynomial) → (value_at r xs f ≡ r.nil) ⊎ (value_at r xs f ≢ r.nil)
zero_or_not r xs f = cases_eq (value_at r xs f) r.nil

module _ (p : ℕ) (r : Tables) (finite : IsFiniteRing p r) (xs : List ℕ) (point : IsPoint r xs) where
  abbrev R : Ring (Element r)
  R = table_ring p r finite

  abbrev place : List (Element r)
  place = coordinates p r finite xs point

  abbrev V : Polynomial → Element r
  V f = value R place f

  number : (f : Polynomial) → (V f).0 ≡ value_at r xs f
  number f = value-table p r finite xs point f

  to_zero : (f : Polynomial) → V f ≡ R.nil → value_at r xs f ≡ r.nil
  to_zero = zero_number p r finite xs point

  from_zero : (f : Polynomial) → value_at r xs f ≡ r.nil → V f ≡ R.nil
  from_zero = zero_element p r finite xs point

  -- a product is 0 where a factor is
  pub product_zero_left : (f g : Polynomial) → value_at r xs f ≡ r.nil → value_at r xs (product_of p f g) ≡ r.nil
  product_zero_left f g e = to_zero (product_of p f g) (value-product_of R p (has_characteristic p r finite) place f g ∙ ap (λ w. R.◌⊗◌ w (V g)) (from_zero f e) ∙ nil-times R (V g))

  -- by either factor
  pub product_zero_right : (f g : Polynomial) → value_at r xs g ≡ r.nil → value_at r xs (product_of p f g) ≡ r.nil
  product_zero_right f g e = to_zero (product_of p f g) (value-product_of R p (has_characteristic p r finite) place f g ∙ ap (R.◌⊗◌ (V f)) (from_zero g e) ∙ times-nil R (V f))

  -- on either side
  pub sum_value_right : (f g : Polynomial) → value_at r xs f ≡ r.nil → value_at r xs (sum_of p f g) ≡ value_at r xs g
  sum_value_right f g e = sym (number (sum_of p f g)) ∙ ap (λ u. u.0) (value-sum_of R p (has_characteristic p r finite) place f g ∙ ap (λ w. R.◌⊕◌ w (V g)) (from_zero f e) ∙ nil-plus R (V g)) ∙ number g

module _ (p : ℕ) (r : Tables) (domain : IsFiniteDomain p r) (xs : List ℕ) (point : IsPoint r xs) where
  abbrev F : Ring (Element r)
  F = table_ring p r domain.ring

  abbrev at : List (Element r)
  at = coordinates p r domain.ring xs point

  abbrev W : Polynomial → Element r
  W f = value F at f

  is_zero_number : (f : Polynomial) → W f ≡ F.nil → value_at r xs f ≡ r.nil
  is_zero_number = zero_number p r domain.ring xs point

  is_zero_element : (f : Polynomial) → value_at r xs f ≡ r.nil → W f ≡ F.nil
  is_zero_element = zero_element p r domain.ring xs point

  -- in a domain a product is 0 only where a factor is
  pub product_zero : (f g : Polynomial) → value_at r xs (product_of p f g) ≡ r.nil → (value_at r xs f ≡ r.nil) ⊎ (value_at r xs g ≡ r.nil)
  product_zero f g e = elim (is_integral p r domain (W f) (W g) (sym (value-product_of F p (has_characteristic p r domain.ring) at f g) ∙ is_zero_element (product_of p f g) e)) [
    | inl left ↦ inl (is_zero_number f left)
    | inr right ↦ inr (is_zero_number g right)
  ]

  -- factors that aren't 0 have a product that isn't
  pub product_nonzero : (f g : Polynomial) → value_at r xs f ≢ r.nil → value_at r xs g ≢ r.nil → value_at r xs (product_of p f g) ≢ r.nil
  product_nonzero f g hf hg e = elim (product_zero f g e) [ inl z ↦ hf z | inr z ↦ hg z ]

-- the same for polynomials that aren't 0
pub AreNonZero-append : (r : Tables) (xs : List ℕ) (fs gs : List Polynomial) → AreNonZero r xs (fs ++ gs) ↔ (AreNonZero r xs fs × AreNonZero r xs gs)
AreNonZero-append r xs [] gs = ((λ h. (tt, h)), (λ h. h.1))
AreNonZero-append r xs (f ∷ fs) gs =
    let rest = AreNonZero-append r xs fs gs in (
      λ h. ((h.0, (rest.0 h.1).0), (rest.0 h.1).1),
      λ h. (h.0.0, rest.1 (h.0.1, h.1)),
    )
