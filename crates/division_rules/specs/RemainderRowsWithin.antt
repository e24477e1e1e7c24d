-- Remainder rows within a width: None where a named product doesn't fit.
use Rattle.std.specs.Prelude.{ℕ, zero, suc, ◌-◌, true, false, eqb, List, [], ◌∷◌, Option, Some, None, unwrap_or}
use Rattle.division_rules.specs.Operations.{Operations, lead, sign}
use Rattle.division_rules.specs.Rows.{Row}
use Rattle.division_rules.specs.Within.{and_then, times_within, power_of_within, pseudo_remainder_within, reduction_within}
use Rattle.division_rules.specs.RemainderRows.{LaterRows, with_row, divided, TurnBefore, fall}

module _ {A : Type 0} (o : Operations A) (w : ℕ) where
  -- psi after a turn, for the negative k of the lead of the previous row
  abbrev pub later_psi_within : A → A × ℕ → Option A
  later_psi_within k m =
      and_then (power_of_within o w k m.1) (λ top.
      and_then (power_of_within o w m.0 (m.1 - 1)) (λ low.
      Some (unwrap_or (o.views.quotient w top low) top)))

  -- psi, for the lead l of the previous row
  abbrev pub psi_within : TurnBefore o → A → Option A
  psi_within None l = Some (o.minus o.one)
  psi_within (Some m) l = later_psi_within (o.minus l) m

  -- beta after a turn, for the negative k of the lead of the previous row, psi and the fall d of
  -- degree
  abbrev pub later_beta_within : A → A → ℕ → Option A
  later_beta_within k q d = and_then (power_of_within o w q d) (λ x. times_within o w k x)

  -- beta, for the lead l of the previous row, the new psi and the fall d of degree
  abbrev pub beta_within : TurnBefore o → A → A → ℕ → Option A
  beta_within None l q d = Some (sign o (suc d))
  beta_within (Some m) l q d = later_beta_within (o.minus l) q d

  -- the row after f and g, before its division by beta
  abbrev pub undivided_within : ℕ → List (Row A) → Row A → Row A → Option (Row A)
  undivided_within v chain f g =
      and_then (pseudo_remainder_within o w v f g) (λ h. reduction_within o w chain h)

  -- the rows from the undivided row s on, for psi and beta
  abbrev pub rows_onward :
      ℕ → (TurnBefore o → Row A → Row A → Option (LaterRows A)) → Row A → Row A → Row A → A → A
      → Option (LaterRows A)
  rows_onward v further f g s q b =
      let h = unwrap_or (divided o w b s) s in
      elim (eqb (o.views.degree v h.first) 0) [
        | true ↦ Some (record { later = h ∷ []; last = None })
        | false ↦ and_then (further (Some (q, fall o v f g)) g h) (λ rows. Some (with_row h rows))
      ]

  -- the rows after f and g, in at most k turns
  abbrev pub rows_from_within :
      ℕ → List (Row A) → ℕ → TurnBefore o → Row A → Row A → Option (LaterRows A)
  rows_from_within v chain zero m f g = Some (record { later = []; last = None })
  rows_from_within v chain (suc k) m f g = and_then (undivided_within v chain f g) (λ s.
      elim (o.views.is_nil s.first) [
        | true ↦ Some (record { later = []; last = Some s })
        | false ↦ and_then (psi_within m (lead o v f.first)) (λ q.
            and_then (beta_within m (lead o v f.first) q (fall o v f g)) (λ b.
            rows_onward v (λ n x y. rows_from_within v chain k n x y) f g s q b))
      ])

  -- the remainder rows of t and c in v below the chain: those after t and c
  abbrev pub remainder_rows_within : ℕ → List (Row A) → Row A → Row A → Option (LaterRows A)
  remainder_rows_within v chain t c =
      rows_from_within v chain (suc (o.views.degree v c.first)) None t c
