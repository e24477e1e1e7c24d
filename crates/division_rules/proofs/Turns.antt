-- One turn of remainder rows: the row before its division, the next row, and the next turn.
use Rattle.std.proofs.Common.{◌≡◌, ◌≢◌, ℕ, List, Some, subst, sym}
use Rattle.division_rules.specs.Operations.{lead}
use Rattle.division_rules.specs.Rows.{Row, pseudo_remainder}
use Rattle.division_rules.specs.Chains.{IsLessInMain, IsReduced}
use Rattle.division_rules.specs.RemainderRows.{quotients, divided, TurnBefore, fall, next_psi, next_beta, undivided, next_row}
use Rattle.division_rules.specs.Turns.{IsBase, IsTurn}
use Rattle.division_rules.proofs.Settings.{ViewedRing, operations}
use Rattle.division_rules.proofs.Bounds.{degree_below, under-factor}
use Rattle.division_rules.proofs.Steps.{EachRow-map, pseudo_remainder-under, reduction-other, reduction-reduced}
use Rattle.division_rules.proofs.Identity.{row_of-some}
use Rattle.division_rules.proofs.FreeNonzero.{in_option, IsFreeNonzero, lead_free_nonzero, psi_free_nonzero, beta_free_nonzero, quotient_not_nil}

module _ {A : Type 0} (P : ViewedRing A) (w v : ℕ) (chain : List (Row A)) (base : IsBase P.ring P.views P.laws v chain) where
  open P.ring use {◌⊗◌, nil}
  open P.views use {degree, main}
  open P.laws use {Under}

  module _ (m : TurnBefore (operations P)) (f g : Row A) (turn : IsTurn P.ring P.views P.laws v chain m f g) where
    -- psi and beta of the turn are not 0 and have no v
    pub next_psi_free_nonzero : IsFreeNonzero P v (next_psi (operations P) w v m f)
    next_psi_free_nonzero = psi_free_nonzero P w v m (lead (operations P) v f.first) turn.memory (lead_free_nonzero P v f.first turn.before)

    -- nor is beta, and it has no v
    pub next_beta_free_nonzero : IsFreeNonzero P v (next_beta (operations P) w v m f g)
    next_beta_free_nonzero = beta_free_nonzero P v m (lead (operations P) v f.first) (next_psi (operations P) w v m f) (fall (operations P) v f g) (lead_free_nonzero P v f.first turn.before) next_psi_free_nonzero

    -- before its division the next row has a lesser degree, and is reduced
    pub undivided-under : Under v (degree v g.first) (undivided (operations P) v chain f g).first
    undivided-under = reduction-other P v (degree v g.first) chain base.apart base.free (pseudo_remainder (operations P) v f g) (pseudo_remainder-under P v f g)

    -- and it is reduced by the chain
    pub undivided-reduced : IsReduced P.ring P.views P.laws chain (undivided (operations P) v chain f g).first
    undivided-reduced = reduction-reduced P chain base.increasing (pseudo_remainder (operations P) v f g)

    -- the next row is that one, or its quotient by beta
    pub next_row_is : (Q : Row A → Type 0) → ((h : Row A) → h.first ⊗ next_beta (operations P) w v m f g ≡ (undivided (operations P) v chain f g).first → divided (operations P) w (next_beta (operations P) w v m f g) (undivided (operations P) v chain f g) ≡ Some h → Q h) → Q (undivided (operations P) v chain f g) → Q (next_row (operations P) w v chain m f g)
    next_row_is Q quotient other = in_option Q (divided (operations P) w b s) s (λ h e. quotient h (P.laws.quotient-sound w s.first b h.first (row_of-some (P.views.quotient w s.first b) (quotients (operations P) w b s.cofactors) h e).0) e) other
      where
        b : A
        b = next_beta (operations P) w v m f g

        s : Row A
        s = undivided (operations P) v chain f g

    -- the division keeps bounds
    pub next_row-under : (x d : ℕ) → Under x d (undivided (operations P) v chain f g).first → Under x d (next_row (operations P) w v chain m f g).first
    next_row-under x d h = next_row_is (λ t. Under x d t.first) (λ t e there. under-factor P x d t.first (next_beta (operations P) w v m f g) next_beta_free_nonzero.0 (subst (Under x d) (sym e) h)) h

    -- and what isn't 0 stays so
    pub next_row_not_nil : (undivided (operations P) v chain f g).first ≢ nil → (next_row (operations P) w v chain m f g).first ≢ nil
    next_row_not_nil some = next_row_is (λ t. t.first ≢ nil) (λ t e there. quotient_not_nil P t.first (next_beta (operations P) w v m f g) (undivided (operations P) v chain f g).first e some) some

    -- so the next row makes a turn with g, where it isn't 0
    pub next_turn : (undivided (operations P) v chain f g).first ≢ nil → IsTurn P.ring P.views P.laws v chain (Some (next_psi (operations P) w v m f, fall (operations P) v f g)) g (next_row (operations P) w v chain m f g)
    next_turn some = record {
      before = turn.after;
      after = next_row_not_nil some;
      falls = degree_below P v (degree v g.first) (next_row (operations P) w v chain m f g).first (next_row-under v (degree v g.first) undivided-under) (next_row_not_nil some);
      reduced = EachRow-map (IsLessInMain P.ring P.views P.laws (undivided (operations P) v chain f g).first) (IsLessInMain P.ring P.views P.laws (next_row (operations P) w v chain m f g).first) chain (λ t h. next_row-under (main t.first) (degree (main t.first) t.first) h) undivided-reduced;
      memory = next_psi_free_nonzero;
    }
