-- Values of polynomials in a ring, products of initials, and rows that are zero at a point.
use Rattle.std.specs.Prelude.{◌≡◌, ◌≢◌, ℕ, List, [], ◌∷◌}
use Rattle.polynomials.specs.Rings.{Ring}
use Rattle.division_rules.specs.Operations.{Operations, lead, initial}
use Rattle.division_rules.specs.Rows.{Row}
use Rattle.division_rules.specs.Chains.{AnyRow}

-- val is a homomorphism of rings: it takes 0 to 0, 1 to 1, sums to sums and products to products
pub record IsValue {A B : Type 0} (r : Ring A) (k : Ring B) (val : A → B) : Type 0 where
  pub val-nil : val r.nil ≡ k.nil
  pub val-one : val r.one ≡ k.one
  pub val-plus : (f g : A) → val (r.◌⊕◌ f g) ≡ k.◌⊕◌ (val f) (val g)
  pub val-times : (f g : A) → val (r.◌⊗◌ f g) ≡ k.◌⊗◌ (val f) (val g)

module _ {A : Type 0} (o : Operations A) where
  -- the product of a list
  abbrev pub product_of_all : List A → A
  product_of_all [] = o.one
  product_of_all (a ∷ js) = o.times a (product_of_all js)

  -- a is the initial of a member of the chain
  abbrev pub IsInitial : List (Row A) → A → Type 0
  IsInitial chain a = AnyRow (λ t. a ≡ initial o t.first) chain

  -- each of the list is the initial of a member of the chain
  abbrev pub AreInitials : List (Row A) → List A → Type 0
  AreInitials chain [] = Unit {0}
  AreInitials chain (a ∷ js) = IsInitial chain a × AreInitials chain js

  -- for the rows later that follow g: where H holds, each has the value 0 unless the lead in v of a
  -- row from g on, but of the last row before it, has the value 0
  abbrev pub Vanish : {B : Type 0} → (A → B) → B → ℕ → Type 0 → Row A → List (Row A) → Type 0
  Vanish val null v H g [] = Unit {0}
  Vanish val null v H g (h ∷ later) =
      (H → val h.first ≡ null) × Vanish val null v (H × (val (lead o v g.first) ≢ null)) h later
