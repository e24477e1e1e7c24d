-- Polynomials without a variable that aren't 0: leads, powers, psi and beta.
use Rattle.std.proofs.Common.{◌≡◌, ◌≢◌, ℕ, zero, suc, ◌-◌, Option, Some, None, refl, sym, ap, subst, ◌∙◌, unwrap_or}
use Rattle.polynomials.proofs.RingLaws.{times-nil, times_comm}
use Rattle.division_rules.specs.Operations.{lead, power, sign}
use Rattle.division_rules.specs.RemainderRows.{TurnBefore, psi, beta}
use Rattle.division_rules.specs.Turns.{IsTurnBefore}
use Rattle.division_rules.proofs.Settings.{ViewedRing, operations}
use Rattle.division_rules.proofs.Bounds.{product_not_nil, negative_not_nil, under-scale, under-factor}

-- what holds of what may be there, and of the other, holds of the one that is taken
pub in_option : {B : Type 0} (Q : B → Type 0) (a : Option B) (y : B) → ((x : B) → a ≡ Some x → Q x) → Q y → Q (unwrap_or a y)
in_option Q None y there other = other
in_option Q (Some x) y there other = there x refl

module _ {A : Type 0} (P : ViewedRing A) where
  open P.ring use {◌⊗◌, nil, one, neg}
  open P.laws use {Under}

  -- f is not 0, and has no v
  abbrev pub IsFreeNonzero : ℕ → A → Type 0
  IsFreeNonzero v f = (f ≢ nil) × Under v 1 f

  -- 1
  pub one_free_nonzero : (v : ℕ) → IsFreeNonzero v one
  one_free_nonzero v = (P.laws.one_not_nil, subst (Under v 1) (P.laws.power-zero v) (P.laws.power-under v 0))

  -- the lead of what is not 0
  pub lead_free_nonzero : (v : ℕ) (f : A) → f ≢ nil → IsFreeNonzero v (lead (operations P) v f)
  lead_free_nonzero v f some = (P.laws.degree-top v f some, P.laws.coefficient-free v (P.views.degree v f) f)

  -- negatives, products and powers
  pub negative_free_nonzero : (v : ℕ) (f : A) → IsFreeNonzero v f → IsFreeNonzero v (neg f)
  negative_free_nonzero v f h = (negative_not_nil P f h.0, P.laws.under-neg v 1 f h.1)

  -- products
  pub product_free_nonzero : (v : ℕ) (f g : A) → IsFreeNonzero v f → IsFreeNonzero v g → IsFreeNonzero v (f ⊗ g)
  product_free_nonzero v f g hf hg = (product_not_nil P f g hf.0 hg.0, under-scale P v 1 f g hf.1 hg.1)

  -- powers
  pub power_free_nonzero : (v : ℕ) (a : A) (e : ℕ) → IsFreeNonzero v a → IsFreeNonzero v (power (operations P) a e)
  power_free_nonzero v a zero h = one_free_nonzero v
  power_free_nonzero v a (suc zero) h = h
  power_free_nonzero v a (suc (suc e)) h = product_free_nonzero v (power (operations P) a (suc e)) a (power_free_nonzero v a (suc e) h) h

  -- 1 and -1
  pub sign_free_nonzero : (v k : ℕ) → IsFreeNonzero v (sign (operations P) k)
  sign_free_nonzero v zero = one_free_nonzero v
  sign_free_nonzero v (suc k) = negative_free_nonzero v (sign (operations P) k) (sign_free_nonzero v k)

  -- the factors of what is not 0 are not 0
  pub factor_not_nil : (q b a : A) → q ⊗ b ≡ a → a ≢ nil → b ≢ nil
  factor_not_nil q b a e some null = some (sym e ∙ ap (λ x. q ⊗ x) null ∙ times-nil P.ring q)

  -- the same for the other factor
  pub quotient_not_nil : (q b a : A) → q ⊗ b ≡ a → a ≢ nil → q ≢ nil
  quotient_not_nil q b a e some null = factor_not_nil b q a (times_comm P.ring b q ∙ e) some null

  -- a factor of such a polynomial is one
  pub factor_free_nonzero : (v : ℕ) (q b a : A) → q ⊗ b ≡ a → IsFreeNonzero v a → IsFreeNonzero v q
  factor_free_nonzero v q b a e h = (quotient_not_nil q b a e h.0, under-factor P v 1 q b (factor_not_nil q b a e h.0) (subst (Under v 1) (sym e) h.1))

  -- psi
  pub psi_free_nonzero : (w v : ℕ) (m : TurnBefore (operations P)) (l : A) → IsTurnBefore P.ring P.views P.laws v m → IsFreeNonzero v l → IsFreeNonzero v (psi (operations P) w m l)
  psi_free_nonzero w v None l memory h = negative_free_nonzero v one (one_free_nonzero v)
  psi_free_nonzero w v (Some m) l memory h = in_option (IsFreeNonzero v) (P.views.quotient w top low) top (λ q e. factor_free_nonzero v q low top (P.laws.quotient-sound w top low q e) top_is) top_is
    where
      top : A
      top = power (operations P) (neg l) m.1

      low : A
      low = power (operations P) m.0 (m.1 - 1)

      top_is : IsFreeNonzero v top
      top_is = power_free_nonzero v (neg l) m.1 (negative_free_nonzero v l h)

  -- beta
  pub beta_free_nonzero : (v : ℕ) (m : TurnBefore (operations P)) (l q : A) (d : ℕ) → IsFreeNonzero v l → IsFreeNonzero v q → IsFreeNonzero v (beta (operations P) m l q d)
  beta_free_nonzero v None l q d hl hq = sign_free_nonzero v (suc d)
  beta_free_nonzero v (Some m) l q d hl hq = product_free_nonzero v (neg l) (power (operations P) q d) (negative_free_nonzero v l hl) (power_free_nonzero v q d hq)
