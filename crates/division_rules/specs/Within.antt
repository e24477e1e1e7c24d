-- The same steps within a width: None where a named product doesn't fit.
use Rattle.std.specs.Prelude.{ℕ, zero, suc, true, false, List, [], ◌∷◌, Option, Some, None, option_and_then}
use Rattle.division_rules.specs.Operations.{Operations, lead, shifted_lead}
use Rattle.division_rules.specs.Rows.{Row, is_reduced_by, turns}

-- the second step, where there is a result of the first
abbrev pub and_then : {B C : Type 0} → Option B → (B → Option C) → Option C
and_then x f = option_and_then f x

module _ {A : Type 0} (o : Operations A) (w : ℕ) where
  -- the product, where it fits
  abbrev pub times_within : A → A → Option A
  times_within a b = elim (o.views.fits w a b) [ true ↦ Some (o.times a b) | false ↦ None ]

  -- l f - m g
  abbrev pub cross_within : A → A → A → A → Option A
  cross_within l m f g =
      and_then (times_within l f) (λ x.
      and_then (times_within m g) (λ y. Some (o.plus x (o.minus y))))

  -- the same of each pair of entries
  abbrev pub cross_all_within : A → A → List A → List A → Option (List A)
  cross_all_within l m [] ds = Some []
  cross_all_within l m (c ∷ cs) [] = Some []
  cross_all_within l m (c ∷ cs) (d ∷ ds) =
      and_then (cross_within l m c d) (λ x.
      and_then (cross_all_within l m cs ds) (λ xs. Some (x ∷ xs)))

  -- the row of a first entry and cofactors, where there are both
  abbrev pub row_within : Option A → Option (List A) → Option (Row A)
  row_within x xs =
      and_then x (λ f. and_then xs (λ cs. Some (record { first = f; cofactors = cs })))

  -- one elimination
  abbrev pub elimination_within : ℕ → Row A → Row A → Option (Row A)
  elimination_within v f g =
      row_within
      (cross_within (lead o v g.first) (shifted_lead o v f.first g.first) f.first g.first)
      (cross_all_within (lead o v g.first) (shifted_lead o v f.first g.first) f.cofactors
      g.cofactors)

  -- at most k eliminations by g, until none is left
  abbrev pub sparse_remainder_by_within : ℕ → Row A → ℕ → Row A → Option (Row A)
  sparse_remainder_by_within v g zero f = Some f
  sparse_remainder_by_within v g (suc k) f =
      elim (is_reduced_by o v g f) [
        | true ↦ Some f
        | false ↦ and_then (elimination_within v f g) (λ h. sparse_remainder_by_within v g k h)
      ]

  -- the sparse pseudo-remainder
  abbrev pub sparse_remainder_within : ℕ → Row A → Row A → Option (Row A)
  sparse_remainder_within v f g = sparse_remainder_by_within v g (turns o v f.first g.first) f

  -- each entry times l
  abbrev pub times_all_within : A → List A → Option (List A)
  times_all_within l [] = Some []
  times_all_within l (c ∷ cs) =
      and_then (times_within l c) (λ x. and_then (times_all_within l cs) (λ xs. Some (x ∷ xs)))

  -- each entry of a row times l
  abbrev pub times_row_within : A → Row A → Option (Row A)
  times_row_within l f = row_within (times_within l f.first) (times_all_within l f.cofactors)

  -- a turn: an elimination by g or, where none is left, a multiplication by its lead
  abbrev pub pseudo_turn_within : ℕ → Row A → Row A → Option (Row A)
  pseudo_turn_within v g f = elim (is_reduced_by o v g f) [
    | true ↦ times_row_within (lead o v g.first) f
    | false ↦ elimination_within v f g
  ]

  -- k turns
  abbrev pub pseudo_remainder_by_within : ℕ → Row A → ℕ → Row A → Option (Row A)
  pseudo_remainder_by_within v g zero f = Some f
  pseudo_remainder_by_within v g (suc k) f =
      and_then (pseudo_turn_within v g f) (λ h. pseudo_remainder_by_within v g k h)

  -- the pseudo-remainder
  abbrev pub pseudo_remainder_within : ℕ → Row A → Row A → Option (Row A)
  pseudo_remainder_within v f g = pseudo_remainder_by_within v g (turns o v f.first g.first) f

  -- the reduction by a chain
  abbrev pub reduction_within : List (Row A) → Row A → Option (Row A)
  reduction_within [] f = Some f
  reduction_within (t ∷ chain) f =
      and_then (reduction_within chain f) (λ g. sparse_remainder_within (o.views.main t.first) g t)

  -- a to the power e
  abbrev pub power_of_within : A → ℕ → Option A
  power_of_within a zero = Some o.one
  power_of_within a (suc zero) = Some a
  power_of_within a (suc (suc e)) = and_then (power_of_within a (suc e)) (λ x. times_within x a)
