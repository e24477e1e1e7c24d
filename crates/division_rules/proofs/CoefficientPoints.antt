-- Coefficients in a variable that the divisors don't have: their values after eliminations.
use Rattle.std.proofs.Common.{◌≡◌, ℕ, List, ap, ap₂, ◌∙◌, arith}
use Rattle.polynomials.proofs.RingLaws.{neg-nil, plus-nil, nil-times, times_comm}
use Rattle.division_rules.specs.Operations.{lead, shifted_lead, initial}
use Rattle.division_rules.specs.Rows.{Row, elimination, reduction}
use Rattle.division_rules.specs.Chains.{IsFree}
use Rattle.division_rules.specs.Points.{IsInitial}
use Rattle.division_rules.proofs.Settings.{ViewedRing, operations, Evaluation, IsZero, AllZero, InitialsNotZero}
use Rattle.division_rules.proofs.Bounds.{coefficient-cross}
use Rattle.division_rules.proofs.Steps.{reduction-keeps, Keeps, EachRow-zip}
use Rattle.division_rules.proofs.Points.{own_initials, val-neg, IsScaled, scaled-same, scaled-more, scaled_zero}

module _ {A B : Type 0} (P : ViewedRing A) (E : Evaluation P B) where
  open P.views use {coefficient, main}
  open P.laws use {Under}
  open E.values use {◌⊕◌, ◌⊗◌, nil, neg}
  open E use {val}

  -- an elimination by what is zero and has no x multiplies each coefficient in x by the lead
  pub val-coefficient_elimination : (v x e : ℕ) (f g : Row A) → Under x 1 g.first → IsZero P E g.first → val (coefficient x e (elimination (operations P) v f g).first) ≡ val (lead (operations P) v g.first) ⊗ val (coefficient x e f.first)
  val-coefficient_elimination v x e f g free z = ap val (coefficient-cross P x e l m f.first g.first ∙ ap₂ (λ a b. P.ring.◌⊕◌ a (P.ring.neg b)) first second) ∙ E.is_value.val-plus (P.ring.◌⊗◌ l (coefficient x e f.first)) (P.ring.neg (P.ring.◌⊗◌ g.first (coefficient x e m))) ∙ ap₂ ◌⊕◌ (E.is_value.val-times l (coefficient x e f.first)) (val-neg P E (P.ring.◌⊗◌ g.first (coefficient x e m)) ∙ ap neg (E.is_value.val-times g.first (coefficient x e m) ∙ ap (λ w. w ⊗ val (coefficient x e m)) z ∙ nil-times E.values (val (coefficient x e m))) ∙ neg-nil E.values) ∙ plus-nil E.values (val l ⊗ val (coefficient x e f.first))
    where
      l : A
      l = lead (operations P) v g.first

      m : A
      m = shifted_lead (operations P) v f.first g.first

      first : coefficient x e (P.ring.◌⊗◌ l f.first) ≡ P.ring.◌⊗◌ l (coefficient x e f.first)
      first = P.laws.coefficient-scale x e l f.first (P.laws.under-coefficient x 1 v (P.views.degree v g.first) g.first free)

      second : coefficient x e (P.ring.◌⊗◌ m g.first) ≡ P.ring.◌⊗◌ g.first (coefficient x e m)
      second = ap (coefficient x e) (times_comm P.ring m g.first) ∙ P.laws.coefficient-scale x e g.first m free

  -- so a reduction by a chain that is zero and has no x multiplies it by initials
  pub val-coefficient_reduction : (x e : ℕ) (chain : List (Row A)) → IsFree P.ring P.views P.laws x chain → AllZero P E chain → (f : Row A) → IsScaled P E chain (val (coefficient x e f.first)) (val (coefficient x e (reduction (operations P) chain f).first))
  val-coefficient_reduction x e chain free zeros f = reduction-keeps P Q chain (EachRow-zip (λ t. Under x 1 t.first × IsZero P E t.first) (λ t. IsInitial (operations P) chain (initial (operations P) t.first)) (Keeps P Q) chain (λ t both i h stop scaled. scaled-more P E chain (val (coefficient x e f.first)) (val (coefficient x e h.first)) (val (coefficient x e (elimination (operations P) (main t.first) h t).first)) (initial (operations P) t.first) i (val-coefficient_elimination (main t.first) x e h t both.0 both.1) scaled) (EachRow-zip (λ t. Under x 1 t.first) (λ t. IsZero P E t.first) (λ t. Under x 1 t.first × IsZero P E t.first) chain (λ t a b. (a, b)) free zeros) (own_initials P chain)) f (scaled-same P E chain (val (coefficient x e f.first)))
    where
      Q : Row A → Type 0
      Q h = IsScaled P E chain (val (coefficient x e f.first)) (val (coefficient x e h.first))

  -- where the initials are not zero and f reduces to 0, each coefficient of f in x is zero
  pub coefficient_zero : (x e : ℕ) (chain : List (Row A)) → IsFree P.ring P.views P.laws x chain → AllZero P E chain → InitialsNotZero P E chain → (f : Row A) → (reduction (operations P) chain f).first ≡ P.ring.nil → IsZero P E (coefficient x e f.first)
  coefficient_zero x e chain free zeros each f null = scaled_zero P E chain each (val (coefficient x e f.first)) (val (coefficient x e (reduction (operations P) chain f).first)) (val-coefficient_reduction x e chain free zeros f) (ap (λ g. val (coefficient x e g)) null ∙ ap val (P.laws.coefficient-above x 0 e P.ring.nil (omega arith) (P.laws.under-nil x 0)) ∙ E.is_value.val-nil)
