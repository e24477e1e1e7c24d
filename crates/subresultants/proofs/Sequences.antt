-- The last two of the rows so far, and what is still to come.
use Rattle.std.proofs.Common.{◌≡◌, ◌≢◌, ◌+◌, ◌-◌, ◌<◌, ℕ, suc, List, [], ◌∷◌, ◌++◌, length, drop, Some, None, sym, ap, ap₂, ◌∙◌, append_assoc, arith}
use Rattle.polynomials.specs.Polynomials.{Polynomial}
use Rattle.polynomials.specs.Views.{degree_in}
use Rattle.division_rules.specs.Operations.{lead}
use Rattle.division_rules.specs.Rows.{Row}
use Rattle.division_rules.specs.RemainderRows.{TurnBefore, leads}
use Rattle.division_rules.specs.RemainderRowsWithin.{rows_from_within}
use Rattle.pseudo_division.specs.FieldOperations.{operations}
use Rattle.subresultants.specs.Ends.{last_of, end_of, ends_of}
use Rattle.subresultants.specs.Outcomes.{with_leads, outcome_after, outcome_of}
use Rattle.subresultants.specs.Turns.{turn_within}
use Rattle.subresultants.specs.declared.outcome.RowEnds.{RowEnds}
use Rattle.subresultants.specs.declared.outcome.Remainders.TheVariants.{Coprime, Common, TooWide}
use Rattle.subresultants.specs.declared.turn.NextRow.TheVariants.{Zero, Later}
use Rattle.subresultants.proofs.Ends.{last_of-more}
use Rattle.subresultants.proofs.Outcomes.{outcome-too_wide, outcome-zero, outcome-last, outcome-later, outcome-end, leads-more}
use Rattle.subresultants.proofs.RowTurns.{IsRowTurn, next_row_turn}

-- f and g are the last of the rows so far, with these leads, a turn of theirs follows, and the
-- outcome of t and c is that of the rows so far and those of at most k turns more
pub record IsSequence (p w v : ℕ) (chain : List (Row Polynomial)) (t c : Row Polynomial) (k : ℕ) (m : TurnBefore (operations p)) (f g : Row Polynomial) (ls : List Polynomial) : Type 0 where
  pub made : List (Row Polynomial)
  pub leads_are : ls ≡ leads (operations p) v (drop 1 (made ++ f ∷ g ∷ []))
  pub turn : IsRowTurn p v (length t.cofactors) chain m f g
  pub outcome : outcome_of p w v chain t c ≡ outcome_after p v (made ++ f ∷ g ∷ []) (rows_from_within (operations p) w v chain k m f g)

-- a turn that is left
pub turn_left : (n k : ℕ) → k < n → n - k ≡ suc (n - (k + 1))
turn_left n k h = omega arith

-- rows with two more aren't none
two_rows : (made : List (Row Polynomial)) (f g : Row Polynomial) → made ++ f ∷ g ∷ [] ≢ []
two_rows [] f g e = cc
two_rows (x ∷ made) f g e = cc

-- a last row with leads
abbrev end_with : Row Polynomial → List Polynomial → RowEnds
end_with f ls = record { last = f; leads = ls }

module _ (p w v : ℕ) (chain : List (Row Polynomial)) (t c : Row Polynomial) where
  -- at first there are t and c
  pub sequence_starts : (k : ℕ) (ls : List Polynomial) → k ≡ degree_in v c.first + 1 → ls ≡ lead (operations p) v c.first ∷ [] → IsRowTurn p v (length t.cofactors) chain None t c → IsSequence p w v chain t c (k - 0) None t c ls
  sequence_starts k ls turns d turn = record {
    made = [];
    leads_are = d;
    turn = turn;
    outcome = ap (λ j. outcome_after p v (t ∷ c ∷ []) (rows_from_within (operations p) w v chain j None t c)) all;
  }
    where
      all : suc (degree_in v c.first) ≡ k - 0
      all = omega arith

  module _ (k : ℕ) (m : TurnBefore (operations p)) (f g : Row Polynomial) (ls : List Polynomial) (s : IsSequence p w v chain t c k m f g ls) where
    abbrev rows : List (Row Polynomial)
    rows = s.made ++ f ∷ g ∷ []

    last_is : last_of rows ≡ g
    last_is = ap last_of (sym (append_assoc s.made (f ∷ []) (g ∷ []))) ∙ last_of-more (s.made ++ f ∷ []) g

    kept : end_with g ls ≡ end_of (with_leads p v rows)
    kept = ap₂ end_with (sym last_is) s.leads_are

    -- where no turn is left the rows so far are all
    pub sequence-end : k ≡ 0 → Coprime (end_with g ls) ≡ ends_of (outcome_of p w v chain t c)
    sequence-end none =
        ap Coprime kept
        ∙ ap ends_of (sym (outcome-end p w v chain m f g rows) ∙ ap (λ j. outcome_after p v rows (rows_from_within (operations p) w v chain j m f g)) (sym none) ∙ sym s.outcome)

    module _ (j : ℕ) (left : k ≡ suc j) where
      by_turns : outcome_after p v rows (rows_from_within (operations p) w v chain (suc j) m f g) ≡ outcome_of p w v chain t c
      by_turns = ap (λ i. outcome_after p v rows (rows_from_within (operations p) w v chain i m f g)) (sym left) ∙ sym s.outcome

      -- where a product doesn't fit
      pub sequence-too_wide : turn_within p w v chain m f g ≡ None → TooWide ≡ ends_of (outcome_of p w v chain t c)
      sequence-too_wide e = ap ends_of (sym (outcome-too_wide p w v chain j m f g rows e) ∙ by_turns)

      -- where a zero row follows
      pub sequence-zero : (z : Row Polynomial) → turn_within p w v chain m f g ≡ Some (Zero z) → Common (end_with g ls) z ≡ ends_of (outcome_of p w v chain t c)
      sequence-zero z e = ap (λ r. Common r z) kept ∙ ap ends_of (sym (outcome-zero p w v chain j m f g rows z e) ∙ by_turns)

      module _ (h : Row Polynomial) (next : Polynomial × ℕ) (e : turn_within p w v chain m f g ≡ Some (Later h next)) (more : List Polynomial) (more_is : more ≡ ls ++ lead (operations p) v h.first ∷ []) where
        more_leads : more ≡ leads (operations p) v (drop 1 (rows ++ h ∷ []))
        more_leads =
            more_is
            ∙ ap (λ zs. zs ++ lead (operations p) v h.first ∷ []) s.leads_are
            ∙ sym (leads-more p v rows h (two_rows s.made f g))

        -- where a row of degree 0 follows
        pub sequence-last : degree_in v h.first ≡ 0 → Coprime (end_with h more) ≡ ends_of (outcome_of p w v chain t c)
        sequence-last low =
            ap Coprime (ap₂ end_with (sym (last_of-more rows h)) more_leads)
            ∙ ap ends_of (sym (outcome-last p w v chain j m f g rows h next e low) ∙ by_turns)

        longer : rows ++ h ∷ [] ≡ (s.made ++ f ∷ []) ++ g ∷ h ∷ []
        longer = append_assoc s.made (f ∷ g ∷ []) (h ∷ []) ∙ sym (append_assoc s.made (f ∷ []) (g ∷ h ∷ []))

        -- where another row follows
        pub sequence-later : degree_in v h.first ≢ 0 → IsSequence p w v chain t c j (Some next) g h more
        sequence-later high = record {
          made = s.made ++ f ∷ [];
          leads_are = more_leads ∙ ap (λ rs. leads (operations p) v (drop 1 rs)) longer;
          turn = next_row_turn p v (length t.cofactors) chain m f g s.turn w h next e high;
          outcome = sym by_turns ∙ outcome-later p w v chain j m f g rows h next e high ∙ ap (λ rs. outcome_after p v rs (rows_from_within (operations p) w v chain j (Some next) g h)) longer;
        }
