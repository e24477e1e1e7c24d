-- Commutative rings, weighted sums of terms, and the value of a polynomial in a ring.
use Rattle.std.specs.Prelude.{◌≡◌, ◌⊎◌, ℕ, zero, suc, List, [], ◌∷◌}
use Rattle.polynomials.specs.Monomials.{Monomial}
use Rattle.polynomials.specs.Polynomials.{Term, Polynomial}

-- a commutative ring with 1
pub record Ring (A : Type 0) : Type 0 where
  infixl 65 ◌⊕◌
  infixl 70 ◌⊗◌
  pub ◌⊕◌ : A → A → A
  pub ◌⊗◌ : A → A → A
  pub nil : A
  pub one : A
  pub neg : A → A
  pub add_comm : (x y : A) → x ⊕ y ≡ y ⊕ x
  pub add_assoc : (x y z : A) → (x ⊕ y) ⊕ z ≡ x ⊕ (y ⊕ z)
  pub nil-add : (x : A) → nil ⊕ x ≡ x
  pub neg-add : (x : A) → neg x ⊕ x ≡ nil
  pub mul_comm : (x y : A) → x ⊗ y ≡ y ⊗ x
  pub mul_assoc : (x y z : A) → (x ⊗ y) ⊗ z ≡ x ⊗ (y ⊗ z)
  pub one-mul : (x : A) → one ⊗ x ≡ x
  pub mul-add : (x y z : A) → x ⊗ (y ⊕ z) ≡ (x ⊗ y) ⊕ (x ⊗ z)

-- 1 added n times
abbrev pub natural_in : {A : Type 0} → Ring A → ℕ → A
natural_in r zero = r.nil
natural_in r (suc n) = r.◌⊕◌ r.one (natural_in r n)

-- the sum of p ones is 0
abbrev pub HasCharacteristic : {A : Type 0} → Ring A → ℕ → Type 0
HasCharacteristic r p = natural_in r p ≡ r.nil

-- a product is 0 only where a factor is
abbrev pub IsIntegral : {A : Type 0} → Ring A → Type 0
IsIntegral {A} r = (x y : A) → r.◌⊗◌ x y ≡ r.nil → (x ≡ r.nil) ⊎ (y ≡ r.nil)

-- x to the power e
abbrev pub power_in : {A : Type 0} → Ring A → A → ℕ → A
power_in r x zero = r.one
power_in r x (suc e) = r.◌⊗◌ x (power_in r x e)

-- the sum over the terms of f of the coefficient times the weight of the monomial
abbrev pub weighted_sum : {A : Type 0} → Ring A → (Monomial → A) → List Term → A
weighted_sum r weight [] = r.nil
weighted_sum r weight (t ∷ f) =
    r.◌⊕◌ (r.◌⊗◌ (natural_in r t.1) (weight t.0)) (weighted_sum r weight f)

-- the product of the powers of the coordinates
abbrev pub monomial_value : {A : Type 0} → Ring A → List A → Monomial → A
monomial_value r [] m = r.one
monomial_value r (x ∷ xs) [] = r.one
monomial_value r (x ∷ xs) (e ∷ m) = r.◌⊗◌ (power_in r x e) (monomial_value r xs m)

-- the value of f at a point of the ring
abbrev pub value : {A : Type 0} → Ring A → List A → Polynomial → A
value r xs f = weighted_sum r (monomial_value r xs) f
