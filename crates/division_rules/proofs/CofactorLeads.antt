-- The degrees and leads of the first cofactors of remainder rows.
use Rattle.std.proofs.Common.{◌≡◌, ◌≢◌, ℕ, zero, suc, ◌+◌, ◌<◌, List, [], Option, Some, None, refl, sym, ap, subst, ◌∙◌, arith, unwrap_or}
use Rattle.polynomials.specs.Rings.{power_in}
use Rattle.polynomials.proofs.RingLaws.{one-times, times-one, times_comm, times-neg, power_nonzero}
use Rattle.division_rules.specs.Operations.{lead, power}
use Rattle.division_rules.specs.Rows.{Row, pseudo_remainder}
use Rattle.division_rules.specs.Chains.{EachRow}
use Rattle.division_rules.specs.Points.{product_of_all}
use Rattle.division_rules.specs.RemainderRows.{quotients, divided, TurnBefore, fall, next_psi, next_beta, undivided, next_row, rows_from}
use Rattle.division_rules.specs.Turns.{IsBase, IsTurn}
use Rattle.division_rules.specs.Cofactors.{first_cofactor, divisor_used, next_divisor, IsCofactorStep, AreCofactorSteps}
use Rattle.division_rules.proofs.Settings.{ViewedRing, operations}
use Rattle.division_rules.proofs.Bounds.{product_not_nil, negative_not_nil, under-scale, under_degree}
use Rattle.division_rules.proofs.Identity.{row_of-some, quotients-times}
use Rattle.division_rules.proofs.FreeNonzero.{IsFreeNonzero, one_free_nonzero}
use Rattle.division_rules.proofs.Turns.{next_beta_free_nonzero, next_turn}
use Rattle.division_rules.proofs.RowsShape.{rows_by_turn}
use Rattle.division_rules.proofs.FirstCofactors.{HasCofactor, first_divided, degree-factor}
use Rattle.division_rules.proofs.CofactorRemainders.{HasTop, top-pseudo_remainder}
use Rattle.division_rules.proofs.CofactorReductions.{LacksFirst, IsMultiple, multiple-reduction, initials_not_nil, initials_free}

module _ {A : Type 0} (P : ViewedRing A) where
  open P.ring use {◌⊗◌, nil, one, neg}

  -- the two definitions of powers agree
  pub power_of-power_in : (a : A) (e : ℕ) → power (operations P) a e ≡ power_in P.ring a e
  power_of-power_in a zero = refl
  power_of-power_in a (suc zero) = sym (times-one P.ring a)
  power_of-power_in a (suc (suc e)) = times_comm P.ring (power (operations P) a (suc e)) a ∙ ap (λ x. a ⊗ x) (power_of-power_in a (suc e))

module _ {A : Type 0} (P : ViewedRing A) (w v : ℕ) (chain : List (Row A)) (base : IsBase P.ring P.views P.laws v chain) (lacks : EachRow (LacksFirst P) chain) where
  open P.ring use {◌⊗◌, nil, one, neg}
  open P.views use {degree, coefficient}
  open P.laws use {Under}

  abbrev cofactor : Row A → A
  cofactor = first_cofactor (operations P)

  -- both rows have first cofactors, that of g is not 0, and that of f has a lesser degree
  pub record HasLeads (f g : Row A) : Type 0 where
    pub has_before : HasCofactor f
    pub has_after : HasCofactor g
    pub after_not_nil : cofactor g ≢ nil
    pub below : Under v (degree v (cofactor g)) (cofactor f)

  -- h follows f and g with the divisor u, and its first cofactor is not 0
  abbrev pub Follows : Row A → Row A → A → Row A → Type 0
  Follows f g u h = HasCofactor h × IsCofactorStep (operations P) v chain u f g h × (cofactor h ≢ nil)

  module _ (m : TurnBefore (operations P)) (f g : Row A) (turn : IsTurn P.ring P.views P.laws v chain m f g) (leads : HasLeads f g) where
    -- the first cofactor of the pseudo-remainder
    pseudo_remainder_top : HasTop P v (degree v (cofactor g) + fall (operations P) v f g) (neg (lead (operations P) v f.first ⊗ (power (operations P) (lead (operations P) v g.first) (fall (operations P) v f g) ⊗ lead (operations P) v (cofactor g)))) (pseudo_remainder (operations P) v f g)
    pseudo_remainder_top = subst (λ y. HasTop P v (d + fall (operations P) v f g) (neg (lead (operations P) v f.first ⊗ (y ⊗ lead (operations P) v (cofactor g)))) (pseudo_remainder (operations P) v f g)) (sym (power_of-power_in P (lead (operations P) v g.first) (fall (operations P) v f g))) (top-pseudo_remainder P v g leads.has_after d (P.laws.degree-under v (cofactor g)) f leads.has_before turn.before (omega (arith, turn.falls)) (P.laws.under-more v d (d + fall (operations P) v f g) (cofactor f) (omega arith) leads.below))
      where
        d : ℕ
        d = degree v (cofactor g)

    -- that of the undivided row is a multiple of it
    undivided_multiple : IsMultiple P chain (cofactor (pseudo_remainder (operations P) v f g)) (undivided (operations P) v chain f g)
    undivided_multiple = multiple-reduction P chain lacks (pseudo_remainder (operations P) v f g) pseudo_remainder_top.has

    -- a row whose first cofactor, times u, is that of the undivided row
    follows : (u : A) (h : Row A) → IsFreeNonzero P v u → HasCofactor h → u ⊗ cofactor h ≡ cofactor (undivided (operations P) v chain f g) → Follows f g u h
    follows u h free has same = (has, record { degrees = parts.0; factors = multiple.1; initials = multiple.2; cofactor_lead = parts.1 }, parts.2)
      where
        e : ℕ
        e = degree v (cofactor g) + fall (operations P) v f g

        t : A
        t = lead (operations P) v f.first

        q : A
        q = power (operations P) (lead (operations P) v g.first) (fall (operations P) v f g)

        c : A
        c = lead (operations P) v (cofactor g)

        p : Row A
        p = pseudo_remainder (operations P) v f g

        multiple : IsMultiple P chain (cofactor p) (undivided (operations P) v chain f g)
        multiple = undivided_multiple

        js : A
        js = product_of_all (operations P) multiple.1

        free_js : Under v 1 js
        free_js = initials_free P v chain base.free multiple.1 multiple.2

        x : A
        x = neg (js ⊗ (t ⊗ (q ⊗ c)))

        is : u ⊗ cofactor h ≡ js ⊗ cofactor p
        is = same ∙ multiple.3

        power_some : q ≢ nil
        power_some null = power_nonzero P.ring P.laws.integral P.laws.one_not_nil (lead (operations P) v g.first) (fall (operations P) v f g) (P.laws.degree-top v g.first turn.after) (sym (power_of-power_in P (lead (operations P) v g.first) (fall (operations P) v f g)) ∙ null)

        x_some : x ≢ nil
        x_some = negative_not_nil P (js ⊗ (t ⊗ (q ⊗ c))) (product_not_nil P js (t ⊗ (q ⊗ c)) (initials_not_nil P chain base.increasing multiple.1 multiple.2) (product_not_nil P t (q ⊗ c) (P.laws.degree-top v f.first turn.before) (product_not_nil P q c power_some (P.laws.degree-top v (cofactor g) leads.after_not_nil))))

        parts : (degree v (cofactor h) ≡ e) × (u ⊗ lead (operations P) v (cofactor h) ≡ x) × (cofactor h ≢ nil)
        parts = degree-factor P v e u (cofactor h) x free.0 free.1 (subst (Under v (suc e)) (sym is) (under-scale P v (suc e) js (cofactor p) free_js pseudo_remainder_top.under)) (ap (coefficient v e) is ∙ P.laws.coefficient-scale v e js (cofactor p) free_js ∙ ap (λ y. js ⊗ y) pseudo_remainder_top.top ∙ times-neg P.ring js (t ⊗ (q ⊗ c))) x_some

    has_undivided : HasCofactor (undivided (operations P) v chain f g)
    has_undivided = undivided_multiple.0

    -- the undivided row, and so the zero row
    pub follows_undivided : Follows f g one (undivided (operations P) v chain f g)
    follows_undivided = follows one (undivided (operations P) v chain f g) (one_free_nonzero P v) has_undivided (one-times P.ring (cofactor (undivided (operations P) v chain f g)))

    -- the next row
    pub follows_next : Follows f g (next_divisor (operations P) w v chain m f g) (next_row (operations P) w v chain m f g)
    follows_next = go (divided (operations P) w b s) refl
      where
        b : A
        b = next_beta (operations P) w v m f g

        s : Row A
        s = undivided (operations P) v chain f g

        go : (a : Option (Row A)) → divided (operations P) w b s ≡ a → Follows f g (divisor_used (operations P) a b) (unwrap_or a s)
        go None e = follows_undivided
        go (Some h) e =
            let first = first_divided (operations P) b h.cofactors s.cofactors (quotients-times P [] w b s.cofactors h.cofactors (row_of-some (P.views.quotient w s.first b) (quotients (operations P) w b s.cofactors) h e).1) has_undivided in
            follows b h (next_beta_free_nonzero P w v chain base m f g turn) first.0 first.1

    -- so the next two rows have leads again
    pub next_leads : HasLeads g (next_row (operations P) w v chain m f g)
    next_leads = record {
      has_before = leads.has_after;
      has_after = follows_next.0;
      after_not_nil = follows_next.2;
      below = under_degree P v (degree v (cofactor (next_row (operations P) w v chain m f g))) (cofactor g) higher;
    }
      where
        higher : degree v (cofactor g) < degree v (cofactor (next_row (operations P) w v chain m f g))
        higher =
            let grows = follows_next.1.degrees in
            omega (arith, grows, turn.falls)

    -- and the sum of the degrees of a first cofactor and of the row before it stays
    pub total_stays : (total : ℕ) (u : A) (h : Row A) → IsCofactorStep (operations P) v chain u f g h → degree v (cofactor g) + degree v f.first ≡ total → degree v (cofactor h) + degree v g.first ≡ total
    total_stays total u h step sum = omega (arith, step.degrees, sum, turn.falls)

  -- so it is with all rows
  pub are_cofactor_steps : (k total : ℕ) (m : TurnBefore (operations P)) (f g : Row A) → IsTurn P.ring P.views P.laws v chain m f g → HasLeads f g → degree v (cofactor g) + degree v f.first ≡ total → AreCofactorSteps (operations P) w v chain total m f g (rows_from (operations P) w v chain k m f g).later (rows_from (operations P) w v chain k m f g).last
  are_cofactor_steps zero total m f g turn leads sum = tt
  are_cofactor_steps (suc k) total m f g turn leads sum = rows_by_turn P w v chain base (λ rows. AreCofactorSteps (operations P) w v chain total m f g rows.later rows.last) k m f g (λ null. (zero_step, total_stays m f g turn leads total one (undivided (operations P) v chain f g) zero_step sum)) (λ some e. (next_step, tt)) (λ some e. (next_step, are_cofactor_steps k total (Some (next_psi (operations P) w v m f, fall (operations P) v f g)) g (next_row (operations P) w v chain m f g) (next_turn P w v chain base m f g turn some) (next_leads m f g turn leads) (total_stays m f g turn leads total (next_divisor (operations P) w v chain m f g) (next_row (operations P) w v chain m f g) next_step sum)))
    where
      zero_step : IsCofactorStep (operations P) v chain one f g (undivided (operations P) v chain f g)
      zero_step = (follows_undivided m f g turn leads).1

      next_step : IsCofactorStep (operations P) v chain (next_divisor (operations P) w v chain m f g) f g (next_row (operations P) w v chain m f g)
      next_step = (follows_next m f g turn leads).1
