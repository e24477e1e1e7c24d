-- The elements of a finite ring form one, of its characteristic; those of a finite domain have no
-- zero divisors.
use Rattle.std.proofs.Common.{◌≡◌, ◌<◌, ℕ, zero, suc, List, [], ◌∷◌, refl, ap, ◌∙◌, inl, inr}
use Rattle.std.proofs.Math.Bridge.{le_prop}
use mathlib.Core.HLevel.{Σ_prop_path}
use Rattle.polynomials.specs.Monomials.{Monomial}
use Rattle.polynomials.specs.Polynomials.{Polynomial}
use Rattle.polynomials.specs.Rings.{Ring, natural_in, HasCharacteristic, IsIntegral, power_in, monomial_value, value}
use Rattle.zero_sets.specs.Domains.{Tables, IsFiniteRing, IsFiniteDomain, IsPoint, plus_in, times_in, ones_in, power_at, monomial_at, value_at}

-- a number below the size
abbrev pub Element : Tables → Type 0
Element r = (x : ℕ) × (x < r.size)

-- elements are equal where their numbers are
pub element_path : (r : Tables) {x y : Element r} → x.0 ≡ y.0 → x ≡ y
element_path r e = Σ_prop_path (λ n. le_prop) e

module _ (p : ℕ) (r : Tables) (finite : IsFiniteRing p r) where
  abbrev pub plus_of : Element r → Element r → Element r
  plus_of x y = (plus_in r x.0 y.0, finite.sum_below x.0 y.0 x.1 y.1)

  abbrev pub times_of : Element r → Element r → Element r
  times_of x y = (times_in r x.0 y.0, finite.product_below x.0 y.0 x.1 y.1)

  abbrev pub nil_of : Element r
  nil_of = (r.nil, finite.nil_below)

  abbrev pub one_of : Element r
  one_of = (r.one, finite.one_below)

  abbrev pub negative_element : Element r → Element r
  negative_element x = ((finite.negative x.0 x.1).0, (finite.negative x.0 x.1).1)

  -- the ring of the elements
  abbrev pub table_ring : Ring (Element r)
  table_ring = record {
    ◌⊕◌ = plus_of;
    ◌⊗◌ = times_of;
    nil = nil_of;
    one = one_of;
    neg = negative_element;
    add_comm = λ x y. element_path r (finite.add_comm x.0 y.0 x.1 y.1);
    add_assoc = λ x y z. element_path r (finite.add_assoc x.0 y.0 z.0 x.1 y.1 z.1);
    nil-add = λ x. element_path r (finite.nil-add x.0 x.1);
    neg-add = λ x. element_path r ((finite.negative x.0 x.1).2);
    mul_comm = λ x y. element_path r (finite.mul_comm x.0 y.0 x.1 y.1);
    mul_assoc = λ x y z. element_path r (finite.mul_assoc x.0 y.0 z.0 x.1 y.1 z.1);
    one-mul = λ x. element_path r (finite.one-mul x.0 x.1);
    mul-add = λ x y z. element_path r (finite.mul-add x.0 y.0 z.0 x.1 y.1 z.1);
  }

  -- sums of ones are those of the table
  pub natural-table : (n : ℕ) → (natural_in table_ring n).0 ≡ ones_in r n
  natural-table zero = refl
  natural-table (suc n) = ap (λ x. plus_in r r.one x) (natural-table n)

  pub has_characteristic : HasCharacteristic table_ring p
  has_characteristic = element_path r (natural-table p ∙ finite.characteristic)

  -- the elements of a point
  abbrev pub coordinates : (xs : List ℕ) → IsPoint r xs → List (Element r)
  coordinates [] point = []
  coordinates (x ∷ xs) point = (x, point.0) ∷ coordinates xs point.1

  pub power-table : (x : Element r) (e : ℕ) → (power_in table_ring x e).0 ≡ power_at r x.0 e
  power-table x zero = refl
  power-table x (suc e) = ap (λ y. times_in r x.0 y) (power-table x e)

  pub monomial-table : (xs : List ℕ) (point : IsPoint r xs) (m : Monomial) → (monomial_value table_ring (coordinates xs point) m).0 ≡ monomial_at r xs m
  monomial-table [] point m = refl
  monomial-table (x ∷ xs) point [] = refl
  monomial-table (x ∷ xs) point (e ∷ m) =
      ap (λ y. times_in r y (monomial_value table_ring (coordinates xs point.1) m).0) (power-table (x, point.0) e)
      ∙ ap (λ y. times_in r (power_at r x e) y) (monomial-table xs point.1 m)

  -- the value by tables is the value in the ring
  pub value-table : (xs : List ℕ) (point : IsPoint r xs) (f : Polynomial) → (value table_ring (coordinates xs point) f).0 ≡ value_at r xs f
  value-table xs point [] = refl
  value-table xs point (t ∷ f) =
      ap (λ y. plus_in r (times_in r y (monomial_value table_ring (coordinates xs point) t.0).0) (value table_ring (coordinates xs point) f).0) (natural-table t.1)
      ∙ (ap (λ y. plus_in r (times_in r (ones_in r t.1) y) (value table_ring (coordinates xs point) f).0) (monomial-table xs point t.0)
      ∙ ap (λ y. plus_in r (times_in r (ones_in r t.1) (monomial_at r xs t.0)) y) (value-table xs point f))

-- the elements of a finite domain have no zero divisors
pub is_integral : (p : ℕ) (r : Tables) (domain : IsFiniteDomain p r) → IsIntegral (table_ring p r domain.ring)
is_integral p r domain x y e = elim (domain.integral x.0 y.0 x.1 y.1 (ap (λ u. u.0) e)) [
  | inl left ↦ inl (element_path r left)
  | inr right ↦ inr (element_path r right)
]
