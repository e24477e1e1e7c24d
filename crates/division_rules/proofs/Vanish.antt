-- Remainder rows are zero where the first two and the chain are, as far as the leads are not.
use Rattle.std.proofs.Common.{◌≡◌, ◌⊎◌, inl, inr, ℕ, zero, suc, ◌-◌, List, Some, None, sym, ap, ◌∙◌}
use Rattle.polynomials.proofs.RingLaws.{neg-nil, neg-neg, nil-times}
use Rattle.division_rules.specs.Operations.{lead, power, sign}
use Rattle.division_rules.specs.Rows.{Row, pseudo_remainder}
use Rattle.division_rules.specs.RemainderRows.{TurnBefore, psi, beta, fall, next_psi, next_beta, undivided, next_row, rows_from, remainder_rows}
use Rattle.division_rules.specs.Turns.{IsBase, IsTurn}
use Rattle.division_rules.specs.Points.{Vanish}
use Rattle.division_rules.proofs.Settings.{ViewedRing, operations, Evaluation, IsZero, NotZero, AllZero}
use Rattle.division_rules.proofs.Points.{val-neg, product_not_zero, zero-pseudo_remainder, zero-reduction}
use Rattle.division_rules.proofs.FreeNonzero.{in_option}
use Rattle.division_rules.proofs.Turns.{next_row_is, next_turn}
use Rattle.division_rules.proofs.RowsShape.{rows_by_turn}

module _ {A B : Type 0} (P : ViewedRing A) (E : Evaluation P B) where
  open P.ring use {◌⊗◌, one, neg}
  open E use {val}

  -- what is not zero at the point: products, negatives, powers and factors
  pub not_zero_product : (f g : A) → NotZero P E f → NotZero P E g → NotZero P E (f ⊗ g)
  not_zero_product f g hf hg z = product_not_zero P E (val f) (val g) hf hg (sym (E.is_value.val-times f g) ∙ z)

  -- negatives
  pub not_zero_negative : (f : A) → NotZero P E f → NotZero P E (neg f)
  not_zero_negative f h z = h (sym (neg-neg E.values (val f)) ∙ ap E.values.neg (sym (val-neg P E f) ∙ z) ∙ neg-nil E.values)

  -- 1
  pub not_zero_one : NotZero P E one
  not_zero_one z = E.one_not_nil (sym E.is_value.val-one ∙ z)

  -- powers
  pub not_zero_power : (a : A) (e : ℕ) → NotZero P E a → NotZero P E (power (operations P) a e)
  not_zero_power a zero h = not_zero_one
  not_zero_power a (suc zero) h = h
  not_zero_power a (suc (suc e)) h = not_zero_product (power (operations P) a (suc e)) a (not_zero_power a (suc e) h) h

  -- 1 and -1
  pub not_zero_sign : (k : ℕ) → NotZero P E (sign (operations P) k)
  not_zero_sign zero = not_zero_one
  not_zero_sign (suc k) = not_zero_negative (sign (operations P) k) (not_zero_sign k)

  -- factors of what is not zero
  pub not_zero_factor : (q b a : A) → q ⊗ b ≡ a → NotZero P E a → NotZero P E q
  not_zero_factor q b a e h z = h (ap val (sym e) ∙ E.is_value.val-times q b ∙ ap (λ x. E.values.◌⊗◌ x (val b)) z ∙ nil-times E.values (val b))

  -- the lead of the first of two rows is not zero, but in the first turn, which needs no lead
  abbrev pub LeadNotZero : ℕ → TurnBefore (operations P) → A → Type 0
  LeadNotZero v None f = Unit {0}
  LeadNotZero v (Some m) f = NotZero P E (lead (operations P) v f)

  -- then psi and beta are not zero
  pub psi_not_zero : (w v : ℕ) (m : TurnBefore (operations P)) (f : A) → LeadNotZero v m f → NotZero P E (psi (operations P) w m (lead (operations P) v f))
  psi_not_zero w v None f h = not_zero_negative one not_zero_one
  psi_not_zero w v (Some m) f h = in_option (NotZero P E) (P.views.quotient w top low) top (λ q e. not_zero_factor q low top (P.laws.quotient-sound w top low q e) top_not) top_not
    where
      top : A
      top = power (operations P) (neg (lead (operations P) v f)) m.1

      low : A
      low = power (operations P) m.0 (m.1 - 1)

      top_not : NotZero P E top
      top_not = not_zero_power (neg (lead (operations P) v f)) m.1 (not_zero_negative (lead (operations P) v f) h)

  -- and beta is not zero where psi is not
  pub beta_not_zero : (v : ℕ) (m : TurnBefore (operations P)) (f q : A) (d : ℕ) → LeadNotZero v m f → NotZero P E q → NotZero P E (beta (operations P) m (lead (operations P) v f) q d)
  beta_not_zero v None f q d hf hq = not_zero_sign (suc d)
  beta_not_zero v (Some m) f q d hf hq = not_zero_product (neg (lead (operations P) v f)) (power (operations P) q d) (not_zero_negative (lead (operations P) v f) hf) (not_zero_power q d hq)

  module _ (w v : ℕ) (chain : List (Row A)) (base : IsBase P.ring P.views P.laws v chain) (zeros : AllZero P E chain) where
    -- two rows are zero, and the lead that their turn divides by is not
    abbrev pub AreZero : TurnBefore (operations P) → Row A → Row A → Type 0
    AreZero m f g = IsZero P E f.first × IsZero P E g.first × LeadNotZero v m f.first

    -- then the next row is zero
    pub next_row_zero : (m : TurnBefore (operations P)) (f g : Row A) → IsTurn P.ring P.views P.laws v chain m f g → AreZero m f g → IsZero P E (next_row (operations P) w v chain m f g).first
    next_row_zero m f g turn h = next_row_is P w v chain base m f g turn (λ t. IsZero P E t.first) (λ t e there. divides t.first (E.integral (val t.first) (val b) (sym (E.is_value.val-times t.first b) ∙ ap val e ∙ before))) before
      where
        b : A
        b = next_beta (operations P) w v m f g

        before : IsZero P E (undivided (operations P) v chain f g).first
        before = zero-reduction P E chain zeros (pseudo_remainder (operations P) v f g) (zero-pseudo_remainder P E v f g h.0 h.1)

        divides : (q : A) → (val q ≡ E.values.nil) ⊎ (val b ≡ E.values.nil) → IsZero P E q
        divides q (inl z) = z
        divides q (inr z) = absurd (beta_not_zero v m f.first (next_psi (operations P) w v m f) (fall (operations P) v f g) h.2 (psi_not_zero w v m f.first h.2) z)

    -- so each row is zero where the first two are, and no lead but that of the row before it is
    pub rows_vanish : (k : ℕ) (m : TurnBefore (operations P)) (f g : Row A) (H : Type 0) → IsTurn P.ring P.views P.laws v chain m f g → (H → AreZero m f g) → Vanish (operations P) val E.values.nil v H g (rows_from (operations P) w v chain k m f g).later
    rows_vanish zero m f g H turn known = tt
    rows_vanish (suc k) m f g H turn known = rows_by_turn P w v chain base (λ rows. Vanish (operations P) val E.values.nil v H g rows.later) k m f g (λ null. tt) (λ some e. (next_zero, tt)) (λ some d. (next_zero, rows_vanish k (Some (next_psi (operations P) w v m f, fall (operations P) v f g)) g (next_row (operations P) w v chain m f g) (H × NotZero P E (lead (operations P) v g.first)) (next_turn P w v chain base m f g turn some) (λ h. ((known h.0).1, next_zero h.0, h.1))))
      where
        next_zero : H → IsZero P E (next_row (operations P) w v chain m f g).first
        next_zero h = next_row_zero m f g turn (known h)

    -- the remainder rows of t and c
    pub remainder_rows_vanish : (t c : Row A) → IsTurn P.ring P.views P.laws v chain None t c → IsZero P E t.first → IsZero P E c.first → Vanish (operations P) val E.values.nil v (Unit {0}) c (remainder_rows (operations P) w v chain t c).later
    remainder_rows_vanish t c turn zt zc = rows_vanish (suc (P.views.degree v c.first)) None t c (Unit {0}) turn (λ h. (zt, zc, tt))
