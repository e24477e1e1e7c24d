-- The lead of the zero row's first cofactor at a point.
use Rattle.std.proofs.Common.{◌≡◌, ◌≢◌, ◌⊎◌, inl, inr, ℕ, List, [], ◌∷◌, Option, Some, None, sym, ap, ◌∙◌}
use Rattle.polynomials.proofs.RingLaws.{times-nil}
use Rattle.division_rules.specs.Operations.{lead, power}
use Rattle.division_rules.specs.Rows.{Row, plain, reduction}
use Rattle.division_rules.specs.Chains.{EachRow, AnyRow, IfRow, IsFree}
use Rattle.division_rules.specs.Points.{product_of_all}
use Rattle.division_rules.specs.RemainderRows.{TurnBefore, fall, next_psi}
use Rattle.division_rules.specs.Cofactors.{first_cofactor, next_divisor, IsCofactorStep, AreCofactorSteps}
use Rattle.division_rules.proofs.Settings.{ViewedRing, operations, Evaluation, IsZero, NotZero, AllZero, InitialsNotZero}
use Rattle.division_rules.proofs.Points.{initials_not_zero}
use Rattle.division_rules.proofs.CoefficientPoints.{coefficient_zero}
use Rattle.division_rules.proofs.Vanish.{not_zero_product, not_zero_negative, not_zero_power}

module _ {A B : Type 0} (P : ViewedRing A) (E : Evaluation P B) (v : ℕ) where
  open P.ring use {◌⊗◌, nil, one}

  abbrev cofactor : Row A → A
  cofactor = first_cofactor (operations P)

  -- the lead of a row is not zero at the point
  abbrev pub LeadOfRowNotZero : Row A → Type 0
  LeadOfRowNotZero h = NotZero P E (lead (operations P) v h.first)

  -- nor is that of its first cofactor
  abbrev pub CofactorLeadNotZero : Row A → Type 0
  CofactorLeadNotZero h = NotZero P E (lead (operations P) v (cofactor h))

  -- where no initial of the chain and no lead of the two rows is zero, a step keeps the lead of the
  -- first cofactor other than zero
  pub cofactor_lead_step : (chain : List (Row A)) → InitialsNotZero P E chain → (u : A) (f g h : Row A) → IsCofactorStep (operations P) v chain u f g h → LeadOfRowNotZero f → LeadOfRowNotZero g → CofactorLeadNotZero g → CofactorLeadNotZero h
  cofactor_lead_step chain initials u f g h step hf hg hc z = right (ap E.val (sym step.cofactor_lead) ∙ E.is_value.val-times u (lead (operations P) v (cofactor h)) ∙ ap (λ x. E.values.◌⊗◌ (E.val u) x) z ∙ times-nil E.values (E.val u))
    where
      l : A
      l = power (operations P) (lead (operations P) v g.first) (fall (operations P) v f g)

      c : A
      c = lead (operations P) v (cofactor g)

      t : A
      t = lead (operations P) v f.first

      js : A
      js = product_of_all (operations P) step.factors

      right : NotZero P E (P.ring.neg (js ⊗ (t ⊗ (l ⊗ c))))
      right = not_zero_negative P E (js ⊗ (t ⊗ (l ⊗ c))) (not_zero_product P E js (t ⊗ (l ⊗ c)) (initials_not_zero P E chain initials step.factors step.initials) (not_zero_product P E t (l ⊗ c) hf (not_zero_product P E l c (not_zero_power P E (lead (operations P) v g.first) (fall (operations P) v f g) hg) hc)))

  -- so where no lead of a row is zero, that of the zero row's first cofactor is not
  pub cofactor_lead_not_zero : (w : ℕ) (chain : List (Row A)) → InitialsNotZero P E chain → (total : ℕ) (m : TurnBefore (operations P)) (f g : Row A) (later : List (Row A)) (last : Option (Row A)) → AreCofactorSteps (operations P) w v chain total m f g later last → LeadOfRowNotZero f → LeadOfRowNotZero g → EachRow LeadOfRowNotZero later → CofactorLeadNotZero g → IfRow CofactorLeadNotZero last
  cofactor_lead_not_zero w chain initials total m f g [] None steps hf hg each hc = tt
  cofactor_lead_not_zero w chain initials total m f g [] (Some z) steps hf hg each hc = cofactor_lead_step chain initials one f g z steps.0 hf hg hc
  cofactor_lead_not_zero w chain initials total m f g (h ∷ later) last steps hf hg each hc = cofactor_lead_not_zero w chain initials total (Some (next_psi (operations P) w v m f, fall (operations P) v f g)) g h later last steps.1 hg each.0 each.1 (cofactor_lead_step chain initials (next_divisor (operations P) w v chain m f g) f g h steps.0 hf hg hc)

  -- a lead is zero, or each is not
  pub some_or_each : ((x : B) → (x ≡ E.values.nil) ⊎ (x ≢ E.values.nil)) → (rows : List (Row A)) → AnyRow (λ h. IsZero P E (lead (operations P) v h.first)) rows ⊎ EachRow LeadOfRowNotZero rows
  some_or_each decide [] = inr tt
  some_or_each decide (h ∷ rows) = go (decide (E.val (lead (operations P) v h.first))) (some_or_each decide rows)
    where
      go : IsZero P E (lead (operations P) v h.first) ⊎ LeadOfRowNotZero h → AnyRow (λ t. IsZero P E (lead (operations P) v t.first)) rows ⊎ EachRow LeadOfRowNotZero rows → AnyRow (λ t. IsZero P E (lead (operations P) v t.first)) (h ∷ rows) ⊎ EachRow LeadOfRowNotZero (h ∷ rows)
      go (inl z) others = inl (inl z)
      go (inr not) (inl z) = inl (inr z)
      go (inr not) (inr each) = inr (not, each)

  -- so where the lead of the zero row's first cofactor is zero, the lead of one of the rows is
  pub cofactor_lead_zero : ((x : B) → (x ≡ E.values.nil) ⊎ (x ≢ E.values.nil)) → (w : ℕ) (chain : List (Row A)) → InitialsNotZero P E chain → (total : ℕ) (m : TurnBefore (operations P)) (f g : Row A) (later : List (Row A)) (z : Row A) → AreCofactorSteps (operations P) w v chain total m f g later (Some z) → LeadOfRowNotZero f → CofactorLeadNotZero g → IsZero P E (lead (operations P) v (cofactor z)) → AnyRow (λ h. IsZero P E (lead (operations P) v h.first)) (g ∷ later)
  cofactor_lead_zero decide w chain initials total m f g later z steps hf hc null = go (some_or_each decide (g ∷ later))
    where
      go : AnyRow (λ h. IsZero P E (lead (operations P) v h.first)) (g ∷ later) ⊎ EachRow LeadOfRowNotZero (g ∷ later) → AnyRow (λ h. IsZero P E (lead (operations P) v h.first)) (g ∷ later)
      go (inl found) = found
      go (inr each) = absurd (cofactor_lead_not_zero w chain initials total m f g later (Some z) steps hf each.0 each.1 hc null)

  -- and so where that cofactor reduces to 0
  pub lead_zero : ((x : B) → (x ≡ E.values.nil) ⊎ (x ≢ E.values.nil)) → (w : ℕ) (chain : List (Row A)) → IsFree P.ring P.views P.laws v chain → AllZero P E chain → InitialsNotZero P E chain → (total : ℕ) (m : TurnBefore (operations P)) (f g : Row A) (later : List (Row A)) (z : Row A) → AreCofactorSteps (operations P) w v chain total m f g later (Some z) → LeadOfRowNotZero f → CofactorLeadNotZero g → (reduction (operations P) chain (plain (cofactor z))).first ≡ nil → AnyRow (λ h. IsZero P E (lead (operations P) v h.first)) (g ∷ later)
  lead_zero decide w chain free zeros initials total m f g later z steps hf hc null = cofactor_lead_zero decide w chain initials total m f g later z steps hf hc (coefficient_zero P E v (P.views.degree v (cofactor z)) chain free zeros initials (plain (cofactor z)) null)
