-- Turns by the outcome of remainder rows are those of the definition.
use Rattle.std.proofs.Common.{◌≡◌, ℕ, List, [], ◌∷◌, true, Option, Some, None, refl}
use Rattle.mono_words.specs.declared.mono.TheConstants.{VARS}
use Rattle.polynomials.specs.Polynomials.{Polynomial}
use Rattle.zero_sets.specs.ZeroSets.{members_below}
use Rattle.division_rules.specs.Rows.{Row}
use Rattle.division_rules.specs.RemainderRows.{LaterRows}
use Rattle.cofactor_laws.specs.RowsWithCofactors.{row_of_c, row_of_t}
use Rattle.tree_laws.specs.Steps.{fitting_then}
use Rattle.subresultants.specs.Ends.{ends_of}
use Rattle.subresultants.specs.Outcomes.{with_leads, ended, outcome_after, remainders_of}
use Rattle.finish_rules.specs.Turns.{IdentitySoFar, Turned, rows_at, turn_by_rows}
use Rattle.regularise.specs.Turns.{turn_by_outcome}

module _ (p w : ℕ) (chain ns : List Polynomial) (further : IdentitySoFar → Turned) (s : IdentitySoFar) where
  module _ (u : ℕ) (t : Polynomial) where
    abbrev below : List Polynomial
    below = members_below u chain

    -- by how the rows end
    ended_turn : (later : List (Row Polynomial)) (last : Option (Row Polynomial)) → turn_by_outcome p w chain ns further s (ends_of (ended (with_leads p u (row_of_t VARS t below ∷ row_of_c VARS s.row.first below ∷ later)) last)) ≡ turn_by_rows p VARS w chain ns u further s later last
    ended_turn later None = refl
    ended_turn later (Some z) = refl

    made_turn : (o : Option (LaterRows Polynomial)) → turn_by_outcome p w chain ns further s (ends_of (outcome_after p u (row_of_t VARS t below ∷ row_of_c VARS s.row.first below ∷ []) o)) ≡ fitting_then o (λ rows. turn_by_rows p VARS w chain ns u further s rows.later rows.last)
    made_turn None = refl
    made_turn (Some rows) = ended_turn rows.later rows.last

    -- by the remainder rows of t and the polynomial so far
    pub outcome_turn : turn_by_outcome p w chain ns further s (ends_of (remainders_of p w u true t s.row.first (members_below u chain))) ≡ fitting_then (rows_at p VARS w chain ns u t s.row.first) (λ rows. turn_by_rows p VARS w chain ns u further s rows.later rows.last)
    outcome_turn = made_turn (rows_at p VARS w chain ns u t s.row.first)
