-- Reductions by multiples: factors without variables of the divisors go out of them.
use Rattle.std.proofs.Common.{◌≡◌, ◌≢◌, ℕ, zero, suc, ◌-◌, Bool, true, false, ◌||◌, ltb, List, [], ◌∷◌, map, refl, sym, ap, ap₂, ◌∙◌, subst}
use Rattle.polynomials.proofs.RingLaws.{one-times, times_assoc}
use Rattle.polynomials.proofs.Solver.{var, ◌:-◌, ◌:*◌, solve}
use Rattle.division_rules.specs.Operations.{lead, shifted_lead}
use Rattle.division_rules.specs.Rows.{Row, cross, cross_all, elimination, is_reduced_by, sparse_remainder_by, sparse_remainder, turns, times_row, reduction}
use Rattle.division_rules.proofs.Bounds.{product_not_nil, under-scale}
use Rattle.division_rules.proofs.FreeNonzero.{one_free_nonzero}
use Rattle.division_rules.proofs.Settings.{ViewedRing, operations}
use Rattle.row_laws.proofs.ScaledSteps.{degree-scaled, lead-scaled, sparse_remainder_by-scaled, sparse_remainder-scaled}

module _ {A : Type 0} (P : ViewedRing A) where
  open P.ring use {◌⊗◌, nil, one}
  open P.views use {degree, main}

  -- u isn't 0, and has no variable
  abbrev pub IsFactor : A → Type 0
  IsFactor u = (u ≢ nil) × ((x : ℕ) → P.laws.Under x 1 u)

  -- f is g times such a factor
  abbrev pub IsMultipleOf : Row A → Row A → Type 0
  IsMultipleOf f g = (u : A) × IsFactor u × (f ≡ times_row (operations P) u g)

  one_is_factor : IsFactor one
  one_is_factor = (P.laws.one_not_nil, λ x. (one_free_nonzero P x).1)

  product_is_factor : (k u : A) → IsFactor k → IsFactor u → IsFactor (k ⊗ u)
  product_is_factor k u hk hu = (product_not_nil P k u hk.0 hu.0, λ x. under-scale P x 1 k u (hk.1 x) (hu.1 x))

  all_times_one : (cs : List A) → map (◌⊗◌ one) cs ≡ cs
  all_times_one [] = refl
  all_times_one (c ∷ cs) = ap₂ ◌∷◌ (one-times P.ring c) (all_times_one cs)

  all_times_product : (k u : A) (cs : List A) → map (◌⊗◌ k) (map (◌⊗◌ u) cs) ≡ map (◌⊗◌ (k ⊗ u)) cs
  all_times_product k u [] = refl
  all_times_product k u (c ∷ cs) = ap₂ ◌∷◌ (sym (times_assoc P.ring k u c)) (all_times_product k u cs)

  -- each row is a multiple of itself
  multiple_itself : (f : Row A) → IsMultipleOf f f
  multiple_itself f = (one, one_is_factor, ap₂ (λ x xs. record { first = x; cofactors = xs }) (sym (one-times P.ring f.first)) (sym (all_times_one f.cofactors)))

  -- and a multiple of a multiple is one
  multiple_of_multiple : (k : A) (f g : Row A) → IsFactor k → IsMultipleOf f g → IsMultipleOf (times_row (operations P) k f) g
  multiple_of_multiple k f g hk h = (k ⊗ h.0, product_is_factor k h.0 hk h.1, ap (times_row (operations P) k) h.2 ∙ ap₂ (λ x xs. record { first = x; cofactors = xs }) (sym (times_assoc P.ring k h.0 g.first)) (all_times_product k h.0 g.cofactors))

  module _ (k : A) (factor : IsFactor k) where
    cross-divisor : (l m f g : A) → cross (operations P) (k ⊗ l) m f (k ⊗ g) ≡ k ⊗ cross (operations P) l m f g
    cross-divisor l m f g = solve P.ring (k ∷ l ∷ m ∷ f ∷ g ∷ []) ((var 0 :* var 1) :* var 3 :- var 2 :* (var 0 :* var 4)) (var 0 :* (var 1 :* var 3 :- var 2 :* var 4)) refl

    cross_all-divisor : (l m : A) (cs ds : List A) → cross_all (operations P) (k ⊗ l) m cs (map (◌⊗◌ k) ds) ≡ map (◌⊗◌ k) (cross_all (operations P) l m cs ds)
    cross_all-divisor l m [] ds = refl
    cross_all-divisor l m (c ∷ cs) [] = refl
    cross_all-divisor l m (c ∷ cs) (d ∷ ds) = ap₂ ◌∷◌ (cross-divisor l m c d) (cross_all-divisor l m cs ds)

    -- an elimination by a multiple is the multiple of the elimination
    elimination-divisor : (v : ℕ) (f g : Row A) → elimination (operations P) v f (times_row (operations P) k g) ≡ times_row (operations P) k (elimination (operations P) v f g)
    elimination-divisor v f g = ap₂ (λ a d. record { first = cross (operations P) a (P.ring.◌⊗◌ (P.views.variable_power v (degree v f.first - d)) (lead (operations P) v f.first)) f.first (k ⊗ g.first); cofactors = cross_all (operations P) a (P.ring.◌⊗◌ (P.views.variable_power v (degree v f.first - d)) (lead (operations P) v f.first)) f.cofactors (map (◌⊗◌ k) g.cofactors) }) (lead-scaled P k factor.0 factor.1 v g.first) (degree-scaled P k factor.0 factor.1 v g.first) ∙ ap₂ (λ x xs. record { first = x; cofactors = xs }) (cross-divisor l m f.first g.first) (cross_all-divisor l m f.cofactors g.cofactors)
      where
        l : A
        l = lead (operations P) v g.first

        m : A
        m = shifted_lead (operations P) v f.first g.first

    reduced-divisor : (v : ℕ) (g f : Row A) → is_reduced_by (operations P) v (times_row (operations P) k g) f ≡ is_reduced_by (operations P) v g f
    reduced-divisor v g f = ap (λ d. P.views.is_nil f.first || ltb (degree v f.first) d) (degree-scaled P k factor.0 factor.1 v g.first)

    -- so sparse remainders by a multiple are multiples of those by the row
    sparse_remainder_by-divisor : (v : ℕ) (g : Row A) (e : ℕ) (f : Row A) → IsMultipleOf (sparse_remainder_by (operations P) v (times_row (operations P) k g) e f) (sparse_remainder_by (operations P) v g e f)
    sparse_remainder_by-divisor v g zero f = multiple_itself f
    sparse_remainder_by-divisor v g (suc e) f = subst (λ b. IsMultipleOf (elim b [ true ↦ f | false ↦ sparse_remainder_by (operations P) v divisor e (elimination (operations P) v f divisor) ]) (sparse_remainder_by (operations P) v g (suc e) f)) (sym (reduced-divisor v g f)) (go (is_reduced_by (operations P) v g f) (sparse_remainder_by-divisor v g e next))
      where
        divisor : Row A
        divisor = times_row (operations P) k g

        next : Row A
        next = elimination (operations P) v f g

        go : (b : Bool) → IsMultipleOf (sparse_remainder_by (operations P) v divisor e next) (sparse_remainder_by (operations P) v g e next) → IsMultipleOf (elim b [ true ↦ f | false ↦ sparse_remainder_by (operations P) v divisor e (elimination (operations P) v f divisor) ]) (elim b [ true ↦ f | false ↦ sparse_remainder_by (operations P) v g e next ])
        go true h = multiple_itself f
        go false h = subst (λ y. IsMultipleOf y (sparse_remainder_by (operations P) v g e next)) (sym (ap (sparse_remainder_by (operations P) v divisor e) (elimination-divisor v f g) ∙ sparse_remainder_by-scaled P k factor.0 factor.1 v divisor e next)) (multiple_of_multiple k (sparse_remainder_by (operations P) v divisor e next) (sparse_remainder_by (operations P) v g e next) factor h)

    sparse_remainder-divisor : (v : ℕ) (f g : Row A) → IsMultipleOf (sparse_remainder (operations P) v f (times_row (operations P) k g)) (sparse_remainder (operations P) v f g)
    sparse_remainder-divisor v f g = subst (λ e. IsMultipleOf (sparse_remainder_by (operations P) v (times_row (operations P) k g) e f) (sparse_remainder (operations P) v f g)) (sym (ap (λ d. suc (degree v f.first - d)) (degree-scaled P k factor.0 factor.1 v g.first))) (sparse_remainder_by-divisor v g (turns (operations P) v f.first g.first) f)

  -- the rows are multiples of those at the same places, with the same main variables
  abbrev pub AreMultiplesOf : List (Row A) → List (Row A) → Type 0
  AreMultiplesOf [] [] = Unit {0}
  AreMultiplesOf [] (t ∷ chain) = ⊥
  AreMultiplesOf (s ∷ rows) [] = ⊥
  AreMultiplesOf (s ∷ rows) (t ∷ chain) = (IsMultipleOf s t × (main s.first ≡ main t.first)) × AreMultiplesOf rows chain

  -- one divisor more
  divided_more : (s t : Row A) (rows chain : List (Row A)) (f : Row A) → IsMultipleOf s t → main s.first ≡ main t.first → IsMultipleOf (reduction (operations P) rows f) (reduction (operations P) chain f) → IsMultipleOf (reduction (operations P) (s ∷ rows) f) (reduction (operations P) (t ∷ chain) f)
  divided_more s t rows chain f (k, factor, is) mains (u, unit, rest) = subst (λ h. IsMultipleOf h (reduction (operations P) (t ∷ chain) f)) (sym same) (multiple_of_multiple u (sparse_remainder (operations P) (main t.first) g (times_row (operations P) k t)) (sparse_remainder (operations P) (main t.first) g t) unit (sparse_remainder-divisor k factor (main t.first) g t))
    where
      g : Row A
      g = reduction (operations P) chain f

      same : sparse_remainder (operations P) (main s.first) (reduction (operations P) rows f) s ≡ times_row (operations P) u (sparse_remainder (operations P) (main t.first) g (times_row (operations P) k t))
      same = ap₂ (λ x y. sparse_remainder (operations P) x (reduction (operations P) rows f) y) mains is ∙ ap (λ h. sparse_remainder (operations P) (main t.first) h (times_row (operations P) k t)) rest ∙ sparse_remainder-scaled P u unit.0 unit.1 (main t.first) g (times_row (operations P) k t)

  -- so the reduction by them is a multiple
  pub reduction-divisors : (rows chain : List (Row A)) → AreMultiplesOf rows chain → (f : Row A) → IsMultipleOf (reduction (operations P) rows f) (reduction (operations P) chain f)
  reduction-divisors [] [] are f = multiple_itself f
  reduction-divisors [] (t ∷ chain) are f = absurd are
  reduction-divisors (s ∷ rows) [] are f = absurd are
  reduction-divisors (s ∷ rows) (t ∷ chain) are f = divided_more s t rows chain f are.0.0 are.0.1 (reduction-divisors rows chain are.1 f)
