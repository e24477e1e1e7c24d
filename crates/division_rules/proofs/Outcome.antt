-- How remainder rows end at a point where the first two and the chain are zero, and no lead is.
use Rattle.std.proofs.Common.{◌≡◌, ◌≢◌, ℕ, zero, suc, ◌<◌, ◌≤◌, List, Some, None, refl, sym, ap, ◌∙◌, arith}
use Rattle.polynomials.proofs.RingLaws.{times-one}
use Rattle.division_rules.specs.Operations.{lead}
use Rattle.division_rules.specs.Rows.{Row}
use Rattle.division_rules.specs.Chains.{EachRow, IsFree}
use Rattle.division_rules.specs.RemainderRows.{LaterRows, TurnBefore, fall, next_psi, undivided, next_row, rows_from, remainder_rows}
use Rattle.division_rules.specs.Turns.{IsBase, IsTurn, last_row}
use Rattle.division_rules.proofs.Settings.{ViewedRing, operations, Evaluation, IsZero, AllZero}
use Rattle.division_rules.proofs.Bounds.{under_degree}
use Rattle.division_rules.proofs.Turns.{next_turn}
use Rattle.division_rules.proofs.RowsShape.{rows_by_turn}
use Rattle.division_rules.proofs.RowsFree.{next_row-free}
use Rattle.division_rules.proofs.Vanish.{AreZero, next_row_zero}
use Rattle.division_rules.proofs.CofactorPoints.{LeadOfRowNotZero}

module _ {A : Type 0} (P : ViewedRing A) where
  open P.ring use {◌⊗◌, one}
  open P.views use {degree, coefficient}
  open P.laws use {Under}

  -- what has no v is its own coefficient at 0
  pub coefficient-zero_free : (v : ℕ) (f : A) → Under v 1 f → coefficient v 0 f ≡ f
  coefficient-zero_free v f free = ap (coefficient v 0) (sym (times-one P.ring f)) ∙ P.laws.coefficient-scale v 0 f one free ∙ ap (λ x. f ⊗ x) (ap (coefficient v 0) (sym (P.laws.power-zero v)) ∙ P.laws.power-coefficient v 0 f (omega arith)) ∙ times-one P.ring f

  -- so the lead of what has the degree 0 is itself
  pub lead-degree_zero : (v : ℕ) (f : A) → degree v f ≡ 0 → lead (operations P) v f ≡ f
  lead-degree_zero v f e = ap (λ d. coefficient v d f) e ∙ coefficient-zero_free v f (under_degree P v 1 f (omega (arith, e)))

module _ {A B : Type 0} (P : ViewedRing A) (E : Evaluation P B) (w v : ℕ) (chain : List (Row A)) (base : IsBase P.ring P.views P.laws v chain) (zeros : AllZero P E chain) (apart : (x : ℕ) → v < x → EachRow (λ t. x ≢ P.views.main t.first) chain) (free : (x : ℕ) → v < x → IsFree P.ring P.views P.laws x chain) where
  open P.ring use {nil}
  open P.views use {degree}
  open P.laws use {Under}

  -- the row has no variable greater than v
  abbrev pub HasNoGreater : Row A → Type 0
  HasNoGreater h = (x : ℕ) → v < x → Under x 1 h.first

  -- a row that can take the place of a member with the main variable v
  pub record IsGoodLast (h : Row A) : Type 0 where
    pub not_nil : h.first ≢ nil
    pub is_zero : IsZero P E h.first
    pub has_variable : 1 ≤ degree v h.first
    pub no_greater : HasNoGreater h
    pub lead_not_zero : LeadOfRowNotZero P E v h

  -- the rows after g end with a zero row, and the last row before it is a good one
  abbrev pub EndsWell : Row A → LaterRows A → Type 0
  EndsWell g rows = (z : Row A) × (rows.last ≡ Some z) × IsGoodLast (last_row g rows.later)

  -- so the rows end where no lead is zero
  pub rows_end_well : (k : ℕ) (m : TurnBefore (operations P)) (f g : Row A) → degree v g.first < k → 1 ≤ degree v g.first → IsTurn P.ring P.views P.laws v chain m f g → AreZero P E w v chain base zeros m f g → HasNoGreater f → HasNoGreater g → LeadOfRowNotZero P E v g → EachRow (LeadOfRowNotZero P E v) (rows_from (operations P) w v chain k m f g).later → EndsWell g (rows_from (operations P) w v chain k m f g)
  rows_end_well zero m f g enough high turn are_zero hf hg lead_g = absurd (omega (arith, enough))
  rows_end_well (suc k) m f g enough high turn are_zero hf hg lead_g = rows_by_turn P w v chain base (λ rows. EachRow (LeadOfRowNotZero P E v) rows.later → EndsWell g rows) k m f g (λ null each. (undivided (operations P) v chain f g, refl, record { not_nil = turn.after; is_zero = are_zero.1; has_variable = high; no_greater = hg; lead_not_zero = lead_g })) (λ some e each. absurd (each.0 (ap E.val (lead-degree_zero P v next.first e) ∙ next_zero))) (λ some e each.
      let after = next_turn P w v chain base m f g turn some in
      let falls : degree v next.first < degree v g.first = after.falls in
      rows_end_well k (Some (next_psi (operations P) w v m f, fall (operations P) v f g)) g next (omega (arith, falls, enough)) (omega (arith, e)) after (are_zero.1, next_zero, lead_g) hg next_no_greater each.0 each.1)
    where
      next : Row A
      next = next_row (operations P) w v chain m f g

      next_zero : IsZero P E next.first
      next_zero = next_row_zero P E w v chain base zeros m f g turn are_zero

      next_no_greater : HasNoGreater next
      next_no_greater x greater = next_row-free P w v chain base x (λ same. different x greater same) (apart x greater) (free x greater) m f g turn (hf x greater) (hg x greater)
        where
          different : (y : ℕ) → v < y → y ≡ v → ⊥
          different y less same = omega (arith, less, same)

  -- the remainder rows of t and c
  pub remainder_rows_end_well : (t c : Row A) → 1 ≤ degree v c.first → IsTurn P.ring P.views P.laws v chain None t c → IsZero P E t.first → IsZero P E c.first → HasNoGreater t → HasNoGreater c → LeadOfRowNotZero P E v c → EachRow (LeadOfRowNotZero P E v) (remainder_rows (operations P) w v chain t c).later → EndsWell c (remainder_rows (operations P) w v chain t c)
  remainder_rows_end_well t c high turn zt zc ht hc lead_c = rows_end_well (suc (degree v c.first)) None t c (omega arith) high turn (zt, zc, tt) ht hc lead_c
