-- Remainder rows of two polynomials below a chain, with cofactors over all of them.
use Rattle.std.proofs.Common.{◌≡◌, ◌≢◌, ◌⊎◌, ℕ, suc, ◌<◌, List, [], ◌∷◌, length, replicate, Some, None, refl, sym, ap, subst, ◌∙◌, arith}
use Rattle.division_rules.specs.Operations.{lead, initial}
use Rattle.division_rules.specs.Rows.{Row, plain, plains, reduction}
use Rattle.division_rules.specs.Chains.{EachRow, AnyRow, IsChain}
use Rattle.division_rules.specs.RemainderRows.{remainder_rows}
use Rattle.division_rules.specs.Turns.{IsBase, IsTurn}
use Rattle.division_rules.specs.Units.{unit_rows}
use Rattle.division_rules.specs.Cofactors.{first_cofactor, AreCofactorSteps}
use Rattle.division_rules.proofs.Settings.{ViewedRing, operations, Evaluation, IsZero, NotZero, AllZero, InitialsNotZero}
use Rattle.division_rules.proofs.Bounds.{degree_below}
use Rattle.division_rules.proofs.FreeNonzero.{one_free_nonzero}
use Rattle.division_rules.proofs.CofactorReductions.{LacksFirst}
use Rattle.division_rules.proofs.CofactorLeads.{are_cofactor_steps}
use Rattle.division_rules.proofs.CofactorPoints.{lead_zero}
use Rattle.division_rules.proofs.Outcome.{lead-degree_zero}
use Rattle.division_rules.proofs.FirstEntries.{firsts_alone, first-reduction}

module _ {A : Type 0} (P : ViewedRing A) where
  open P.ring use {nil, one}
  open P.views use {degree, main}
  open P.laws use {Under}

  -- the rows of generators without their cofactors
  pub firsts-unit_rows : (before : ℕ) (fs : List A) → firsts_alone (unit_rows (operations P) before fs) ≡ plains fs
  firsts-unit_rows before [] = refl
  firsts-unit_rows before (f ∷ fs) = ap (λ c. plain f ∷ c) (firsts-unit_rows (suc before) fs)

  -- what holds of the polynomials of a chain holds of its rows with cofactors
  pub EachRow-unit_rows : (Q : A → Type 0) (before : ℕ) (fs : List A) → EachRow (λ t. Q t.first) (plains fs) → EachRow (λ t. Q t.first) (unit_rows (operations P) before fs)
  EachRow-unit_rows Q before [] h = tt
  EachRow-unit_rows Q before (f ∷ fs) h = (h.0, EachRow-unit_rows Q (suc before) fs h.1)

  IsChain-unit_rows : (before : ℕ) (fs : List A) → IsChain P.ring P.views P.laws (plains fs) → IsChain P.ring P.views P.laws (unit_rows (operations P) before fs)
  IsChain-unit_rows before [] h = tt
  IsChain-unit_rows before (f ∷ fs) h = (h.0, EachRow-unit_rows (λ u. (main f < main u) × Under (main u) 1 f) (suc before) fs h.1, IsChain-unit_rows (suc before) fs h.2)

  -- so a chain below v is one with cofactors too
  pub IsBase-unit_rows : (v before : ℕ) (fs : List A) → IsBase P.ring P.views P.laws v (plains fs) → IsBase P.ring P.views P.laws v (unit_rows (operations P) before fs)
  IsBase-unit_rows v before fs base = record {
    increasing = IsChain-unit_rows before fs base.increasing;
    apart = EachRow-unit_rows (λ t. v ≢ main t) before fs base.apart;
    free = EachRow-unit_rows (λ t. Under v 1 t) before fs base.free;
  }

  -- and a turn is one with cofactors
  pub IsTurn-unit_rows : (v before : ℕ) (fs : List A) (f g : Row A) → IsTurn P.ring P.views P.laws v (plains fs) None (plain f.first) (plain g.first) → IsTurn P.ring P.views P.laws v (unit_rows (operations P) before fs) None f g
  IsTurn-unit_rows v before fs f g turn = record {
    before = turn.before;
    after = turn.after;
    falls = turn.falls;
    reduced = EachRow-unit_rows (λ t. Under (main t) (degree (main t) t) g.first) before fs turn.reduced;
    memory = tt;
  }

  -- rows behind the first generator lack its cofactor
  pub unit_rows-lack_first : (before : ℕ) (fs : List A) → EachRow (LacksFirst P) (unit_rows (operations P) (suc before) fs)
  unit_rows-lack_first before [] = tt
  unit_rows-lack_first before (f ∷ fs) = ((omega arith, refl), unit_rows-lack_first (suc before) fs)

  -- among the generators c, t and the chain: c as a row, with the cofactor 1 at itself
  abbrev pub row_of_first : A → A → List A → Row A
  row_of_first c t chain = record { first = c; cofactors = one ∷ nil ∷ replicate (length chain) nil }

  -- t as a row, with the cofactor 1 at itself
  abbrev pub row_of_second : A → A → List A → Row A
  row_of_second c t chain = record { first = t; cofactors = nil ∷ one ∷ replicate (length chain) nil }

  -- 1 has the degree 0
  pub degree-one : (v : ℕ) → degree v one ≡ 0
  degree-one v =
      let small : degree v one < 1 = degree_below P v 1 one (one_free_nonzero P v).1 (one_free_nonzero P v).0 in
      omega (arith, small)

  module _ (w v : ℕ) (c t : A) (chain : List A) (base : IsBase P.ring P.views P.laws v (plains chain)) (turn : IsTurn P.ring P.views P.laws v (plains chain) None (plain t) (plain c)) where
    -- the cofactors of c have the degrees and the leads that the steps say
    pub generator_rows_steps : AreCofactorSteps (operations P) w v (unit_rows (operations P) 2 chain) (degree v t) None (row_of_second c t chain) (row_of_first c t chain) (remainder_rows (operations P) w v (unit_rows (operations P) 2 chain) (row_of_second c t chain) (row_of_first c t chain)).later (remainder_rows (operations P) w v (unit_rows (operations P) 2 chain) (row_of_second c t chain) (row_of_first c t chain)).last
    generator_rows_steps = are_cofactor_steps P w v (unit_rows (operations P) 2 chain) (IsBase-unit_rows v 2 chain base) (unit_rows-lack_first 1 chain) (suc (degree v c)) (degree v t) None (row_of_second c t chain) (row_of_first c t chain) (IsTurn-unit_rows v 2 chain (row_of_second c t chain) (row_of_first c t chain) turn) (record { has_before = omega arith; has_after = omega arith; after_not_nil = P.laws.one_not_nil; below = P.laws.under-nil v (degree v one) }) (omega (arith, degree-one v))

module _ {A B : Type 0} (P : ViewedRing A) (E : Evaluation P B) (w v : ℕ) (c t : A) (chain : List A) (base : IsBase P.ring P.views P.laws v (plains chain)) (turn : IsTurn P.ring P.views P.laws v (plains chain) None (plain t) (plain c)) where
  -- where the chain is zero, its initials and the lead of t are not, and the zero row's cofactor of c
  -- reduces to 0, the lead of c or of a later row is zero
  pub generator_rows_lead_zero : ((x : B) → (x ≡ E.values.nil) ⊎ (x ≢ E.values.nil)) → AllZero P E (plains chain) → InitialsNotZero P E (plains chain) → NotZero P E (lead (operations P) v t) → (z : Row A) → (remainder_rows (operations P) w v (unit_rows (operations P) 2 chain) (row_of_second P c t chain) (row_of_first P c t chain)).last ≡ Some z → (reduction (operations P) (plains chain) (plain (first_cofactor (operations P) z))).first ≡ P.ring.nil → AnyRow (λ h. IsZero P E (lead (operations P) v h.first)) (row_of_first P c t chain ∷ (remainder_rows (operations P) w v (unit_rows (operations P) 2 chain) (row_of_second P c t chain) (row_of_first P c t chain)).later)
  generator_rows_lead_zero decide zeros initials lead_t z common null = lead_zero P E v decide w rows (IsBase-unit_rows P v 2 chain base).free (EachRow-unit_rows P (IsZero P E) 2 chain zeros) (EachRow-unit_rows P (λ u. NotZero P E (initial (operations P) u)) 2 chain initials) (P.views.degree v t) None second first (remainder_rows (operations P) w v rows second first).later z (subst (λ last. AreCofactorSteps (operations P) w v rows (P.views.degree v t) None second first (remainder_rows (operations P) w v rows second first).later last) common (generator_rows_steps P w v c t chain base turn)) lead_t (λ e. E.one_not_nil (sym E.is_value.val-one ∙ ap E.val (sym (lead-degree_zero P v P.ring.one (degree-one P v))) ∙ e)) (ap (λ (h : Row A). h.first) (first-reduction (operations P) rows (plain (first_cofactor (operations P) z)) ∙ ap (λ d. reduction (operations P) d (plain (first_cofactor (operations P) z))) (firsts-unit_rows P 2 chain)) ∙ null)
    where
      rows : List (Row A)
      rows = unit_rows (operations P) 2 chain

      second : Row A
      second = row_of_second P c t chain

      first : Row A
      first = row_of_first P c t chain
