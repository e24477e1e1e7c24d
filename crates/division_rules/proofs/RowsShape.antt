-- Remainder rows: induction over their turns, and the shape that they have.
use Rattle.std.proofs.Common.{◌≡◌, ◌≢◌, ℕ, zero, suc, ◌<◌, ◌≤◌, true, false, eqb, List, [], ◌∷◌, Some, None, arith}
use Rattle.std.proofs.lemmas.Bool.{eqb-true, eqb-false}
use Rattle.division_rules.specs.Rows.{Row, pseudo_remainder}
use Rattle.division_rules.specs.Chains.{EachRow, IfRow, IsReduced}
use Rattle.division_rules.specs.RemainderRows.{LaterRows, with_row, TurnBefore, fall, next_psi, next_beta, undivided, next_row, rows_from, remainder_rows}
use Rattle.division_rules.specs.Turns.{IsBase, IsTurn, DegreesFall, last_row}
use Rattle.division_rules.specs.Units.{IsCombinationOf}
use Rattle.division_rules.specs.Operations.{Operations}
use Rattle.division_rules.proofs.Settings.{ViewedRing, operations}
use Rattle.division_rules.proofs.Steps.{choose}
use Rattle.division_rules.proofs.Identity.{combination-pseudo_remainder, combination-reduction, combination-divided}
use Rattle.division_rules.proofs.Turns.{next_row_is, next_turn, next_beta_free_nonzero}

-- what holds of the first and of each later row holds of the last
pub last_of : {A : Type 0} (Q : Row A → Type 0) (g : Row A) (later : List (Row A)) → Q g → EachRow Q later → Q (last_row g later)
last_of Q g [] h each = h
last_of Q g (f ∷ later) h each = last_of Q f later each.0 each.1

-- where no zero row follows it has the degree 0
pub last_degree : {A : Type 0} (o : Operations A) (v : ℕ) (g : Row A) (later : List (Row A)) → DegreesFall o v g later None → o.views.degree v (last_row g later).first ≡ 0
last_degree o v g [] falls = falls
last_degree o v g (h ∷ later) falls = last_degree o v h later falls.2

-- the row before a zero row has v
pub last_occurs : {A : Type 0} (o : Operations A) (v : ℕ) (g : Row A) (later : List (Row A)) (z : Row A) → DegreesFall o v g later (Some z) → 1 ≤ o.views.degree v (last_row g later).first
last_occurs o v g [] z falls = falls.0
last_occurs o v g (h ∷ later) z falls = last_occurs o v h later z falls.2

module _ {A : Type 0} (P : ViewedRing A) (w v : ℕ) (chain : List (Row A)) (base : IsBase P.ring P.views P.laws v chain) where
  open P.ring use {nil}
  open P.views use {is_nil, degree}

  -- the rows after f and g, by the first turn: a zero row, a last row without v, or more rows
  pub rows_by_turn : (Q : LaterRows A → Type 0) (k : ℕ) (m : TurnBefore (operations P)) (f g : Row A) → ((undivided (operations P) v chain f g).first ≡ nil → Q (record { later = []; last = Some (undivided (operations P) v chain f g) })) → ((undivided (operations P) v chain f g).first ≢ nil → degree v (next_row (operations P) w v chain m f g).first ≡ 0 → Q (record { later = next_row (operations P) w v chain m f g ∷ []; last = None })) → ((undivided (operations P) v chain f g).first ≢ nil → degree v (next_row (operations P) w v chain m f g).first ≢ 0 → Q (with_row (next_row (operations P) w v chain m f g) (rows_from (operations P) w v chain k (Some (next_psi (operations P) w v m f, fall (operations P) v f g)) g (next_row (operations P) w v chain m f g)))) → Q (rows_from (operations P) w v chain (suc k) m f g)
  rows_by_turn Q k m f g common coprime further = choose Q (is_nil s.first) zero_row (elim (eqb (degree v h.first) 0) [ true ↦ last_row | false ↦ more ]) (λ e. common (P.laws.nil_by_test s.first e)) (λ e. choose Q (eqb (degree v h.first) 0) last_row more (λ d. coprime (P.laws.nonzero_by_test s.first e) (eqb-true (degree v h.first) 0 d)) (λ d. further (P.laws.nonzero_by_test s.first e) (eqb-false (degree v h.first) 0 d)))
    where
      s : Row A
      s = undivided (operations P) v chain f g

      h : Row A
      h = next_row (operations P) w v chain m f g

      zero_row : LaterRows A
      zero_row = record { later = []; last = Some s }

      last_row : LaterRows A
      last_row = record { later = h ∷ []; last = None }

      more : LaterRows A
      more = with_row h (rows_from (operations P) w v chain k (Some (next_psi (operations P) w v m f, fall (operations P) v f g)) g h)

  module _ (Q Z : Row A → Type 0) (Holds : TurnBefore (operations P) → Row A → Row A → Type 0) (zero_row : (m : TurnBefore (operations P)) (f g : Row A) → IsTurn P.ring P.views P.laws v chain m f g → Holds m f g → (undivided (operations P) v chain f g).first ≡ nil → Z (undivided (operations P) v chain f g)) (later_row : (m : TurnBefore (operations P)) (f g : Row A) → IsTurn P.ring P.views P.laws v chain m f g → Holds m f g → (undivided (operations P) v chain f g).first ≢ nil → Q (next_row (operations P) w v chain m f g) × Holds (Some (next_psi (operations P) w v m f, fall (operations P) v f g)) g (next_row (operations P) w v chain m f g)) where
    -- what each turn keeps and shows of its row holds of all rows
    pub rows_each : (k : ℕ) (m : TurnBefore (operations P)) (f g : Row A) → IsTurn P.ring P.views P.laws v chain m f g → Holds m f g → EachRow Q (rows_from (operations P) w v chain k m f g).later × IfRow Z (rows_from (operations P) w v chain k m f g).last
    rows_each zero m f g turn i = (tt, tt)
    rows_each (suc k) m f g turn i = rows_by_turn (λ rows. EachRow Q rows.later × IfRow Z rows.last) k m f g (λ null. (tt, zero_row m f g turn i null)) (λ some e. ((((later_row m f g turn i some).0), tt), tt)) (λ some d.
        let next = later_row m f g turn i some in
        let rest = rows_each k (Some (next_psi (operations P) w v m f, fall (operations P) v f g)) g (next_row (operations P) w v chain m f g) (next_turn P w v chain base m f g turn some) next.1 in
        ((next.0, rest.0), rest.1))

  -- only the zero row is 0, and the others are reduced by the chain
  pub rows_reduced : (k : ℕ) (m : TurnBefore (operations P)) (f g : Row A) → IsTurn P.ring P.views P.laws v chain m f g → EachRow (λ h. (h.first ≢ nil) × IsReduced P.ring P.views P.laws chain h.first) (rows_from (operations P) w v chain k m f g).later × IfRow (λ h. h.first ≡ nil) (rows_from (operations P) w v chain k m f g).last
  rows_reduced k m f g turn = rows_each (λ h. (h.first ≢ nil) × IsReduced P.ring P.views P.laws chain h.first) (λ h. h.first ≡ nil) (λ n x y. Unit {0}) (λ n x y t i null. null) (λ n x y t i some.
      let next = next_turn P w v chain base n x y t some in
      ((next.after, next.reduced), tt)) k m f g turn tt

  -- with enough turns the degrees fall to a zero row, or to a last row without v
  pub rows_fall : (k : ℕ) (m : TurnBefore (operations P)) (f g : Row A) → degree v g.first < k → 1 ≤ degree v g.first → IsTurn P.ring P.views P.laws v chain m f g → DegreesFall (operations P) v g (rows_from (operations P) w v chain k m f g).later (rows_from (operations P) w v chain k m f g).last
  rows_fall zero m f g enough high turn = omega arith
  rows_fall (suc k) m f g enough high turn = rows_by_turn (λ rows. DegreesFall (operations P) v g rows.later rows.last) k m f g (λ null. (high, null)) (λ some e. ((next_turn P w v chain base m f g turn some).falls, high, e)) (λ some d.
      let next = next_turn P w v chain base m f g turn some in
      let falls : degree v (next_row (operations P) w v chain m f g).first < degree v g.first = next.falls in
      (falls, high, rows_fall k (Some (next_psi (operations P) w v m f, fall (operations P) v f g)) g (next_row (operations P) w v chain m f g) (omega (arith, falls, enough)) (omega (arith, d)) next))

  -- so the remainder rows of t and c have enough turns
  pub remainder_rows_fall : (t c : Row A) → 1 ≤ degree v c.first → IsTurn P.ring P.views P.laws v chain None t c → DegreesFall (operations P) v c (remainder_rows (operations P) w v chain t c).later (remainder_rows (operations P) w v chain t c).last
  remainder_rows_fall t c high turn = rows_fall (suc (degree v c.first)) None t c (omega arith) high turn

  -- where the first two rows and the chain are combinations of their cofactors and the generators,
  -- each row is
  pub rows_combinations : (gs : List A) → EachRow (IsCombinationOf (operations P) gs) chain → (k : ℕ) (m : TurnBefore (operations P)) (f g : Row A) → IsTurn P.ring P.views P.laws v chain m f g → IsCombinationOf (operations P) gs f → IsCombinationOf (operations P) gs g → EachRow (IsCombinationOf (operations P) gs) (rows_from (operations P) w v chain k m f g).later × IfRow (IsCombinationOf (operations P) gs) (rows_from (operations P) w v chain k m f g).last
  rows_combinations gs each k m f g turn hf hg = rows_each Q Q (λ n x y. Q x × Q y) (λ n x y t i null. before n x y i) (λ n x y t i some.
      let next : Q (next_row (operations P) w v chain n x y) = next_row_is P w v chain base n x y t Q (λ h e there. combination-divided P gs w (next_beta (operations P) w v n x y) (undivided (operations P) v chain x y) h (next_beta_free_nonzero P w v chain base n x y t).0 there (before n x y i)) (before n x y i) in
      (next, (i.1, next))) k m f g turn (hf, hg)
    where
      Q : Row A → Type 0
      Q = IsCombinationOf (operations P) gs

      before : (n : TurnBefore (operations P)) (x y : Row A) → Q x × Q y → Q (undivided (operations P) v chain x y)
      before n x y i = combination-reduction P gs chain each (pseudo_remainder (operations P) v x y) (combination-pseudo_remainder P gs v x y i.0 i.1)
