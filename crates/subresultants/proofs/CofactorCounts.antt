-- Each step gives a row with as many cofactors as the rows that it is made of.
use Rattle.std.proofs.Common.{◌≡◌, ℕ, List, Some, sym, ap, ◌∙◌, length}
use Rattle.division_rules.specs.Operations.{lead, shifted_lead}
use Rattle.division_rules.specs.Rows.{Row, elimination, turns, times_row, pseudo_remainder}
use Rattle.division_rules.specs.Chains.{EachRow}
use Rattle.division_rules.specs.RemainderRows.{quotients, divided, TurnBefore, next_beta, undivided, next_row}
use Rattle.division_rules.proofs.Settings.{ViewedRing, operations}
use Rattle.division_rules.proofs.Combinations.{length-cross_all}
use Rattle.division_rules.proofs.FreeNonzero.{in_option}
use Rattle.division_rules.proofs.Identity.{length-map_by, row_of-some, quotients-times}
use Rattle.division_rules.proofs.Steps.{pseudo_remainder_by-keeps, reduction-keeps, Keeps, EachRow-map}

module _ {A : Type 0} (P : ViewedRing A) (k : ℕ) where
  open P.ring use {◌⊗◌}
  open P.views use {main, quotient}

  -- the row has k cofactors
  abbrev pub HasCount : Row A → Type 0
  HasCount f = length f.cofactors ≡ k

  -- an elimination
  count-elimination : (v : ℕ) (f g : Row A) → HasCount f → HasCount g → HasCount (elimination (operations P) v f g)
  count-elimination v f g hf hg = length-cross_all P.ring P.views (lead (operations P) v g.first) (shifted_lead (operations P) v f.first g.first) f.cofactors g.cofactors (hf ∙ sym hg) ∙ hf

  -- a multiple
  count-times_row : (l : A) (f : Row A) → HasCount f → HasCount (times_row (operations P) l f)
  count-times_row l f hf = length-map_by (◌⊗◌ l) f.cofactors ∙ hf

  -- the row before its division
  pub count-undivided : (v : ℕ) (chain : List (Row A)) (f g : Row A) → EachRow HasCount chain → HasCount f → HasCount g → HasCount (undivided (operations P) v chain f g)
  count-undivided v chain f g each hf hg = reduction-keeps P HasCount chain (EachRow-map HasCount (Keeps P HasCount) chain (λ t ht x e hx. count-elimination (main t.first) x t hx ht) each) (pseudo_remainder (operations P) v f g) (pseudo_remainder_by-keeps P HasCount v g (λ x e hx. count-elimination v x g hx hg) (λ x e hx. count-times_row (lead (operations P) v g.first) x hx) (turns (operations P) v f.first g.first) f hf)

  -- a quotient
  count-divided : (w : ℕ) (b : A) (f h : Row A) → divided (operations P) w b f ≡ Some h → HasCount f → HasCount h
  count-divided w b f h e hf = sym (length-map_by (◌⊗◌ b) h.cofactors) ∙ ap length (quotients-times P f.cofactors w b f.cofactors h.cofactors (row_of-some (quotient w f.first b) (quotients (operations P) w b f.cofactors) h e).1) ∙ hf

  -- the next row
  pub count-next_row : (w v : ℕ) (chain : List (Row A)) (m : TurnBefore (operations P)) (f g : Row A) → EachRow HasCount chain → HasCount f → HasCount g → HasCount (next_row (operations P) w v chain m f g)
  count-next_row w v chain m f g each hf hg = in_option HasCount (divided (operations P) w (next_beta (operations P) w v m f g) (undivided (operations P) v chain f g)) (undivided (operations P) v chain f g) (λ h e. count-divided w (next_beta (operations P) w v m f g) (undivided (operations P) v chain f g) h e before) before
    where
      before : HasCount (undivided (operations P) v chain f g)
      before = count-undivided v chain f g each hf hg
