-- The first cofactor of a pseudo-remainder: its degree, and its lead.
use Rattle.std.proofs.Common.{◌≡◌, ◌≢◌, ℕ, zero, suc, ◌+◌, ◌-◌, ◌<◌, ◌≤◌, true, false, sym, ap, ap₂, subst, ◌∙◌, arith}
use Rattle.polynomials.specs.Rings.{power_in}
use Rattle.polynomials.proofs.RingLaws.{nil-plus, plus-nil, neg-nil, one-times, times-neg, times_assoc, times_left_comm}
use Rattle.division_rules.specs.Operations.{lead, shifted_lead}
use Rattle.division_rules.specs.Rows.{Row, cross, elimination, is_reduced_by, times_row, pseudo_remainder_by, pseudo_remainder}
use Rattle.division_rules.specs.Cofactors.{first_cofactor}
use Rattle.division_rules.proofs.Settings.{ViewedRing, operations}
use Rattle.division_rules.proofs.Bounds.{degree_below, under-scale, under-cross, under-shift, coefficient-shift, coefficient-cross, eliminated-under}
use Rattle.division_rules.proofs.Steps.{choose, going_on}
use Rattle.division_rules.proofs.FirstCofactors.{HasCofactor, has-cross_rows, first_cofactor-cross_rows, has-times_row, first_cofactor-times_row, not_stopped}

module _ {A : Type 0} (P : ViewedRing A) (v : ℕ) where
  open P.ring use {◌⊕◌, ◌⊗◌, nil, neg}
  open P.views use {degree, coefficient}
  open P.laws use {Under}

  abbrev cofactor : Row A → A
  cofactor = first_cofactor (operations P)

  -- h has a first cofactor, of degree at most e, with x as its coefficient there
  pub record HasTop (e : ℕ) (x : A) (h : Row A) : Type 0 where
    pub has : HasCofactor h
    pub under : Under v (suc e) (cofactor h)
    pub top : coefficient v e (cofactor h) ≡ x

  -- multiplication by what has no v
  pub top-times_row : (e : ℕ) (x l : A) (h : Row A) → Under v 1 l → HasTop e x h → HasTop e (l ⊗ x) (times_row (operations P) l h)
  top-times_row e x l h free i = record {
    has = has-times_row (operations P) l h i.has;
    under = subst (Under v (suc e)) (sym is) (under-scale P v (suc e) l (cofactor h) free i.under);
    top = ap (coefficient v e) is ∙ P.laws.coefficient-scale v e l (cofactor h) free ∙ ap (λ w. l ⊗ w) i.top;
  }
    where
      is : cofactor (times_row (operations P) l h) ≡ l ⊗ cofactor h
      is = first_cofactor-times_row (operations P) l h i.has

  module _ (g : Row A) (has_g : HasCofactor g) (d : ℕ) (low : Under v (suc d) (cofactor g)) where
    -- the first elimination brings in the lead of f times the coefficient of the cofactor of g
    top-first : (f : Row A) → HasCofactor f → degree v g.first ≤ degree v f.first → Under v (d + (degree v f.first - degree v g.first)) (cofactor f) → HasTop (d + (degree v f.first - degree v g.first)) (neg (lead (operations P) v f.first ⊗ coefficient v d (cofactor g))) (elimination (operations P) v f g)
    top-first f has_f high below = record {
      has = has-cross_rows (operations P) u m f g has_f has_g;
      under = subst (Under v (suc e)) (sym is) (under-cross P v (suc e) u m (cofactor f) (cofactor g) (P.laws.under-more v e (suc e) (u ⊗ cofactor f) (omega arith) first) second);
      top = ap (coefficient v e) is ∙ coefficient-cross P v e u m (cofactor f) (cofactor g) ∙ ap₂ (λ a b. a ⊕ neg b) (P.laws.coefficient-above v e e (u ⊗ cofactor f) (omega arith) first) second_top ∙ nil-plus P.ring (neg (t ⊗ coefficient v d (cofactor g)));
    }
      where
        k : ℕ
        k = degree v f.first - degree v g.first

        e : ℕ
        e = d + k

        u : A
        u = lead (operations P) v g.first

        t : A
        t = lead (operations P) v f.first

        m : A
        m = shifted_lead (operations P) v f.first g.first

        is : cofactor (elimination (operations P) v f g) ≡ cross (operations P) u m (cofactor f) (cofactor g)
        is = first_cofactor-cross_rows (operations P) u m f g has_f has_g

        first : Under v e (u ⊗ cofactor f)
        first = under-scale P v e u (cofactor f) (P.laws.coefficient-free v (degree v g.first) g.first) below

        shift : Under v (suc k) m
        shift = under-shift P v k t (P.laws.coefficient-free v (degree v f.first) f.first)

        order : k + d ≡ e
        order = omega arith

        second : Under v (suc e) (m ⊗ cofactor g)
        second = subst (λ n. Under v (suc n) (m ⊗ cofactor g)) order (P.laws.under-mul v k d m (cofactor g) shift low)

        second_top : coefficient v e (m ⊗ cofactor g) ≡ t ⊗ coefficient v d (cofactor g)
        second_top = ap (λ n. coefficient v n (m ⊗ cofactor g)) (sym order) ∙ P.laws.coefficient-mul v k d m (cofactor g) shift low ∙ ap (λ w. w ⊗ coefficient v d (cofactor g)) (coefficient-shift P v k t f.first (P.laws.coefficient-free v (degree v f.first) f.first) (omega arith))

    -- a later elimination, of a lesser degree, multiplies the coefficient by the lead of g
    top-elimination : (n : ℕ) (x : A) (h : Row A) → degree v g.first ≤ degree v h.first → degree v h.first < degree v g.first + n → HasTop (d + n) x h → HasTop (d + n) (lead (operations P) v g.first ⊗ x) (elimination (operations P) v h g)
    top-elimination n x h high less i = record {
      has = has-cross_rows (operations P) u m h g i.has has_g;
      under = subst (Under v (suc e)) (sym is) (under-cross P v (suc e) u m (cofactor h) (cofactor g) first (P.laws.under-more v e (suc e) (m ⊗ cofactor g) (omega arith) second));
      top = ap (coefficient v e) is ∙ coefficient-cross P v e u m (cofactor h) (cofactor g) ∙ ap₂ (λ a b. a ⊕ neg b) (P.laws.coefficient-scale v e u (cofactor h) free ∙ ap (λ w. u ⊗ w) i.top) (P.laws.coefficient-above v e e (m ⊗ cofactor g) (omega arith) second) ∙ ap (λ w. u ⊗ x ⊕ w) (neg-nil P.ring) ∙ plus-nil P.ring (u ⊗ x);
    }
      where
        e : ℕ
        e = d + n

        k : ℕ
        k = degree v h.first - degree v g.first

        u : A
        u = lead (operations P) v g.first

        m : A
        m = shifted_lead (operations P) v h.first g.first

        free : Under v 1 u
        free = P.laws.coefficient-free v (degree v g.first) g.first

        is : cofactor (elimination (operations P) v h g) ≡ cross (operations P) u m (cofactor h) (cofactor g)
        is = first_cofactor-cross_rows (operations P) u m h g i.has has_g

        first : Under v (suc e) (u ⊗ cofactor h)
        first = under-scale P v (suc e) u (cofactor h) free i.under

        second : Under v e (m ⊗ cofactor g)
        second = P.laws.under-more v (suc (k + d)) e (m ⊗ cofactor g) (omega arith) (P.laws.under-mul v k d m (cofactor g) (under-shift P v k (lead (operations P) v h.first) (P.laws.coefficient-free v (degree v h.first) h.first)) low)

    -- so k further turns multiply it by the power k of that lead
    top-pseudo_remainder_by : (n k : ℕ) (x : A) (h : Row A) → Under v (degree v g.first + n) h.first → HasTop (d + n) x h → HasTop (d + n) (power_in P.ring (lead (operations P) v g.first) k ⊗ x) (pseudo_remainder_by (operations P) v g k h)
    top-pseudo_remainder_by n zero x h under i = subst (λ y. HasTop (d + n) y h) (sym (one-times P.ring x)) i
    top-pseudo_remainder_by n (suc k) x h under i = subst (λ y. HasTop (d + n) y (pseudo_remainder_by (operations P) v g (suc k) h)) (times_left_comm P.ring (power_in P.ring u k) u x ∙ sym (times_assoc P.ring u (power_in P.ring u k) x)) (top-pseudo_remainder_by n k (u ⊗ x) step (choose (λ y. Under v (degree v g.first + n) y.first) (is_reduced_by (operations P) v g h) scaled eliminated (λ e. under-scale P v (degree v g.first + n) u h.first free under) (λ e. P.laws.under-more v (degree v h.first) (degree v g.first + n) eliminated.first (less e) (eliminated-under P v h.first g.first (going_on P v g h e).1))) (choose (HasTop (d + n) (u ⊗ x)) (is_reduced_by (operations P) v g h) scaled eliminated (λ e. top-times_row (d + n) x u h free i) (λ e. top-elimination n x h (going_on P v g h e).1 (smaller e) i)))
      where
        u : A
        u = lead (operations P) v g.first

        free : Under v 1 u
        free = P.laws.coefficient-free v (degree v g.first) g.first

        scaled : Row A
        scaled = times_row (operations P) u h

        eliminated : Row A
        eliminated = elimination (operations P) v h g

        step : Row A
        step = elim (is_reduced_by (operations P) v g h) [ true ↦ scaled | false ↦ eliminated ]

        smaller : is_reduced_by (operations P) v g h ≡ false → degree v h.first < degree v g.first + n
        smaller e = degree_below P v (degree v g.first + n) h.first under (going_on P v g h e).0

        less : is_reduced_by (operations P) v g h ≡ false → degree v h.first ≤ degree v g.first + n
        less e =
            let small = smaller e in
            omega (arith, small)

    -- the pseudo-remainder of f and g
    pub top-pseudo_remainder : (f : Row A) → HasCofactor f → f.first ≢ nil → degree v g.first ≤ degree v f.first → Under v (d + (degree v f.first - degree v g.first)) (cofactor f) → HasTop (d + (degree v f.first - degree v g.first)) (neg (lead (operations P) v f.first ⊗ (power_in P.ring (lead (operations P) v g.first) (degree v f.first - degree v g.first) ⊗ coefficient v d (cofactor g)))) (pseudo_remainder (operations P) v f g)
    top-pseudo_remainder f has_f some high below = subst (HasTop (d + n) y) (sym starts) (subst (λ z. HasTop (d + n) z (pseudo_remainder_by (operations P) v g n next)) order (top-pseudo_remainder_by n n (neg (t ⊗ c)) next (P.laws.under-more v (degree v f.first) (degree v g.first + n) next.first (omega arith) (eliminated-under P v f.first g.first high)) (top-first f has_f high below)))
      where
        n : ℕ
        n = degree v f.first - degree v g.first

        t : A
        t = lead (operations P) v f.first

        q : A
        q = power_in P.ring (lead (operations P) v g.first) n

        c : A
        c = coefficient v d (cofactor g)

        y : A
        y = neg (t ⊗ (q ⊗ c))

        next : Row A
        next = elimination (operations P) v f g

        starts : pseudo_remainder (operations P) v f g ≡ pseudo_remainder_by (operations P) v g n next
        starts = ap (λ b. pseudo_remainder_by (operations P) v g n (elim b [ true ↦ times_row (operations P) (lead (operations P) v g.first) f | false ↦ next ])) (not_stopped P v g f some high)

        order : q ⊗ neg (t ⊗ c) ≡ y
        order = times-neg P.ring q (t ⊗ c) ∙ ap neg (times_left_comm P.ring q t c)
