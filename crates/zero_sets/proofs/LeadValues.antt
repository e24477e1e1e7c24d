-- The value of a polynomial by its lead and its tail.
use Rattle.std.proofs.Common.{◌≡◌, ◌<◌, ℕ, zero, suc, List, [], ◌∷◌, ◌++◌, replicate, length, length-append, get_or, refl, sym, ap, ap₂, ◌∙◌, subst, arith}
use Rattle.std.proofs.lemmas.List.{length-replicate, get_or-replicate}
use Rattle.polynomials.specs.Monomials.{Monomial}
use Rattle.polynomials.specs.Polynomials.{Polynomial}
use Rattle.polynomials.specs.Views.{degree_in, coefficient_in, without_power, lead_in, tail_in}
use Rattle.polynomials.specs.Rings.{Ring, value}
use Rattle.polynomials.proofs.LeadAndTail.{value-by_power}
use Rattle.zero_sets.specs.Domains.{Tables, IsFiniteRing, IsPoint, plus_in, times_in, ones_in, power_at, monomial_at, value_at}
use Rattle.zero_sets.specs.Laws.{ValueOfLeadAndTail}
use Rattle.zero_sets.proofs.TableRings.{Element, table_ring, coordinates, value-table, power-table}

module _ (p : ℕ) (r : Tables) (finite : IsFiniteRing p r) where
  -- a point has as many elements as coordinates
  pub length-coordinates : (xs : List ℕ) (point : IsPoint r xs) → length (coordinates p r finite xs point) ≡ length xs
  length-coordinates [] point = refl
  length-coordinates (x ∷ xs) point = ap suc (length-coordinates xs point.1)

  -- and they are the coordinates
  pub get_or-coordinates : (xs : List ℕ) (point : IsPoint r xs) (v : ℕ) (d : Element r) → v < length xs → (get_or (coordinates p r finite xs point) v d).0 ≡ get_or xs v 0
  get_or-coordinates [] point v d below = absurd (omega arith)
  get_or-coordinates (x ∷ xs) point zero d below = refl
  get_or-coordinates (x ∷ xs) point (suc v) d below = get_or-coordinates xs point.1 v d (omega arith)

  module _ (xs : List ℕ) (point : IsPoint r xs) where
    abbrev ring : Ring (Element r)
    ring = table_ring p r finite

    abbrev place : List (Element r)
    place = coordinates p r finite xs point

    number : (g : Polynomial) → (value ring place g).0 ≡ value_at r xs g
    number g = value-table p r finite xs point g

    -- the value by a power of a variable and the other powers
    pub value_at-by_power : (v k : ℕ) (f : Polynomial) → v < length xs → value_at r xs f ≡ plus_in r (times_in r (value_at r xs (coefficient_in v k f)) (power_at r (get_or xs v 0) k)) (value_at r xs (without_power v k f))
    value_at-by_power v k f below =
        sym (number f)
        ∙ ap (λ u. u.0) (value-by_power ring place v k f (subst (λ n. v < n) (sym (length-coordinates xs point)) below))
        ∙ ap₂ (plus_in r) (ap₂ (times_in r) (number (coefficient_in v k f)) (power-table p r finite (get_or place v ring.nil) k ∙ ap (λ x. power_at r x k) (get_or-coordinates xs point v ring.nil below))) (number (without_power v k f))

-- a point with ones after it
abbrev padded : Tables → List ℕ → ℕ → List ℕ
padded r xs k = xs ++ replicate k r.one

module _ (p : ℕ) (r : Tables) (finite : IsFiniteRing p r) where
  -- 1 to any power is 1
  power_at-one : (e : ℕ) → power_at r r.one e ≡ r.one
  power_at-one zero = refl
  power_at-one (suc e) = ap (times_in r r.one) (power_at-one e) ∙ finite.one-mul r.one finite.one_below

  -- so a coordinate that is 1 counts as one that is missing
  monomial_at-ones : (k : ℕ) (m : Monomial) → monomial_at r (replicate k r.one) m ≡ r.one
  monomial_at-ones zero m = refl
  monomial_at-ones (suc k) [] = refl
  monomial_at-ones (suc k) (e ∷ m) = ap₂ (times_in r) (power_at-one e) (monomial_at-ones k m) ∙ finite.one-mul r.one finite.one_below

  monomial_at-padded : (xs : List ℕ) (k : ℕ) (m : Monomial) → monomial_at r (padded r xs k) m ≡ monomial_at r xs m
  monomial_at-padded [] k m = monomial_at-ones k m
  monomial_at-padded (x ∷ xs) k [] = refl
  monomial_at-padded (x ∷ xs) k (e ∷ m) = ap (times_in r (power_at r x e)) (monomial_at-padded xs k m)

  value_at-padded : (xs : List ℕ) (k : ℕ) (f : Polynomial) → value_at r (padded r xs k) f ≡ value_at r xs f
  value_at-padded xs k [] = refl
  value_at-padded xs k (t ∷ f) = ap₂ (plus_in r) (ap (times_in r (ones_in r t.1)) (monomial_at-padded xs k t.0)) (value_at-padded xs k f)

  ones_point : (k : ℕ) → IsPoint r (replicate k r.one)
  ones_point zero = tt
  ones_point (suc k) = (finite.one_below, ones_point k)

  padded_point : (xs : List ℕ) (k : ℕ) → IsPoint r xs → IsPoint r (padded r xs k)
  padded_point [] k point = ones_point k
  padded_point (x ∷ xs) k point = (point.0, padded_point xs k point.1)

  get_or-padded : (xs : List ℕ) (k v : ℕ) → v < k → get_or (padded r xs k) v 0 ≡ get_or xs v r.one
  get_or-padded [] k v below = get_or-replicate k v r.one 0 below
  get_or-padded (x ∷ xs) k zero below = refl
  get_or-padded (x ∷ xs) k (suc v) below = get_or-padded xs k v (omega arith)

  within : (xs : List ℕ) (k v : ℕ) → v < k → v < length (padded r xs k)
  within xs k v below =
      let both = length-append xs (replicate k r.one) in
      let more = length-replicate k r.one in
      omega arith

  -- the value by lead and tail, whether the coordinate is there or not
  pub value_at-by_lead : (v : ℕ) (xs : List ℕ) (f : Polynomial) → IsPoint r xs → value_at r xs f ≡ plus_in r (times_in r (value_at r xs (lead_in v f)) (power_at r (get_or xs v r.one) (degree_in v f))) (value_at r xs (tail_in v f))
  value_at-by_lead v xs f point =
      sym (value_at-padded xs (suc v) f)
      ∙ (value_at-by_power p r finite (padded r xs (suc v)) (padded_point xs (suc v) point) v (degree_in v f) f (within xs (suc v) v (omega arith))
      ∙ ap₂ (plus_in r) (ap₂ (times_in r) (value_at-padded xs (suc v) (lead_in v f)) (ap (λ x. power_at r x (degree_in v f)) (get_or-padded xs (suc v) v (omega arith)))) (value_at-padded xs (suc v) (tail_in v f)))

-- the law
pub value_of_lead_and_tail : ValueOfLeadAndTail
value_of_lead_and_tail p v r xs f finite point = value_at-by_lead p r finite v xs f point
