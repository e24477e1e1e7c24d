-- The first cofactor of a reduction by a chain whose members lack it: a multiple by initials.
use Rattle.std.proofs.Common.{◌≡◌, ◌≢◌, inl, inr, ℕ, ◌≤◌, List, [], ◌∷◌, sym, ap, subst, ◌∙◌, arith}
use Rattle.polynomials.proofs.RingLaws.{plus-nil, times-nil, neg-nil, one-times, times_assoc}
use Rattle.division_rules.specs.Operations.{shifted_lead, initial}
use Rattle.division_rules.specs.Rows.{Row, elimination, reduction}
use Rattle.division_rules.specs.Chains.{EachRow, IsChain, IsFree}
use Rattle.division_rules.specs.Points.{product_of_all, IsInitial, AreInitials}
use Rattle.division_rules.specs.Cofactors.{first_cofactor}
use Rattle.division_rules.proofs.Settings.{ViewedRing, operations}
use Rattle.division_rules.proofs.Bounds.{product_not_nil, under-scale}
use Rattle.division_rules.proofs.Steps.{reduction-keeps, Keeps, EachRow-zip}
use Rattle.division_rules.proofs.Points.{own_initials}
use Rattle.division_rules.proofs.FreeNonzero.{one_free_nonzero}
use Rattle.division_rules.proofs.FirstCofactors.{HasCofactor, has-cross_rows, first_cofactor-cross_rows}

module _ {A : Type 0} (P : ViewedRing A) where
  open P.ring use {◌⊕◌, ◌⊗◌, nil, one, neg}
  open P.laws use {Under}

  -- the first cofactor of a row is 0
  abbrev pub LacksFirst : Row A → Type 0
  LacksFirst t = HasCofactor t × (first_cofactor (operations P) t ≡ nil)

  -- the first cofactor of h is a multiplied by initials of the chain
  abbrev pub IsMultiple : List (Row A) → A → Row A → Type 0
  IsMultiple chain a h = HasCofactor h × (js : List A) × AreInitials (operations P) chain js × (first_cofactor (operations P) h ≡ product_of_all (operations P) js ⊗ a)

  -- an elimination by a member multiplies it by the initial of the member
  pub multiple-elimination : (chain : List (Row A)) (a : A) (t h : Row A) → LacksFirst t → IsInitial (operations P) chain (initial (operations P) t.first) → IsMultiple chain a h → IsMultiple chain a (elimination (operations P) (P.views.main t.first) h t)
  multiple-elimination chain a t h lacks i multiple = (has-cross_rows (operations P) l m h t multiple.0 lacks.0, l ∷ multiple.1, (i, multiple.2), first_cofactor-cross_rows (operations P) l m h t multiple.0 lacks.0 ∙ ap (λ c. l ⊗ first_cofactor (operations P) h ⊕ neg (m ⊗ c)) lacks.1 ∙ ap (λ c. l ⊗ first_cofactor (operations P) h ⊕ c) (ap neg (times-nil P.ring m) ∙ neg-nil P.ring) ∙ plus-nil P.ring (l ⊗ first_cofactor (operations P) h) ∙ ap (λ c. l ⊗ c) multiple.3 ∙ sym (times_assoc P.ring l (product_of_all (operations P) multiple.1) a))
    where
      l : A
      l = initial (operations P) t.first

      m : A
      m = shifted_lead (operations P) (P.views.main t.first) h.first t.first

  -- so the reduction multiplies it by initials
  pub multiple-reduction : (chain : List (Row A)) → EachRow LacksFirst chain → (f : Row A) → HasCofactor f → IsMultiple chain (first_cofactor (operations P) f) (reduction (operations P) chain f)
  multiple-reduction chain lacks f has = reduction-keeps P (IsMultiple chain a) chain (EachRow-zip LacksFirst (λ t. IsInitial (operations P) chain (initial (operations P) t.first)) (Keeps P (IsMultiple chain a)) chain (λ t lack i h e multiple. multiple-elimination chain a t h lack i multiple) lacks (own_initials P chain)) f (has, [], tt, sym (one-times P.ring a))
    where
      a : A
      a = first_cofactor (operations P) f

  -- the members of a chain are not 0
  pub member_not_nil : (t : Row A) → 1 ≤ P.views.degree (P.views.main t.first) t.first → t.first ≢ nil
  member_not_nil t high e =
      let low : P.views.degree (P.views.main t.first) t.first ≡ 0 = ap (P.views.degree (P.views.main t.first)) e ∙ P.laws.degree-nil (P.views.main t.first) in
      omega (arith, high, low)

  -- nor are their initials
  pub initial_not_nil : (chain : List (Row A)) → IsChain P.ring P.views P.laws chain → (a : A) → IsInitial (operations P) chain a → a ≢ nil
  initial_not_nil [] increasing a h = absurd h
  initial_not_nil (t ∷ chain) increasing a (inl e) = λ null. P.laws.degree-top (P.views.main t.first) t.first (member_not_nil t increasing.0) (sym e ∙ null)
  initial_not_nil (t ∷ chain) increasing a (inr h) = initial_not_nil chain increasing.2 a h

  -- nor a product of them
  pub initials_not_nil : (chain : List (Row A)) → IsChain P.ring P.views P.laws chain → (js : List A) → AreInitials (operations P) chain js → product_of_all (operations P) js ≢ nil
  initials_not_nil chain increasing [] h = P.laws.one_not_nil
  initials_not_nil chain increasing (a ∷ js) h = product_not_nil P a (product_of_all (operations P) js) (initial_not_nil chain increasing a h.0) (initials_not_nil chain increasing js h.1)

  -- and it has no variable that the members don't have
  pub initial_free : (x : ℕ) (chain : List (Row A)) → IsFree P.ring P.views P.laws x chain → (a : A) → IsInitial (operations P) chain a → Under x 1 a
  initial_free x [] free a h = absurd h
  initial_free x (t ∷ chain) free a (inl e) = subst (Under x 1) (sym e) (P.laws.under-coefficient x 1 (P.views.main t.first) (P.views.degree (P.views.main t.first) t.first) t.first free.0)
  initial_free x (t ∷ chain) free a (inr h) = initial_free x chain free.1 a h

  -- nor has a product of them
  pub initials_free : (x : ℕ) (chain : List (Row A)) → IsFree P.ring P.views P.laws x chain → (js : List A) → AreInitials (operations P) chain js → Under x 1 (product_of_all (operations P) js)
  initials_free x chain free [] h = (one_free_nonzero P x).1
  initials_free x chain free (a ∷ js) h = under-scale P x 1 a (product_of_all (operations P) js) (initial_free x chain free a h.0) (initials_free x chain free js h.1)
