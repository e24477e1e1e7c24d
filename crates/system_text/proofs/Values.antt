-- Each value of a tree is a canonical polynomial in the variables that have a name.
use Rattle.std.proofs.Common.{◌≡◌, ℕ, suc, ◌+◌, ◌%◌, ◌<◌, Bool, true, false, cond, List, [], ◌∷◌, length, Option, Some, None, refl, sym, ◌∙◌, subst, mod-lt, arith}
use Rattle.std.specs.Str.{bytes_eq}
use Rattle.std.specs.Str.Parse.{digits_value}
use Rattle.polynomials.specs.Polynomials.{Polynomial, sum_of, difference_of, negative_of, constant_of, variable_power}
use Rattle.polynomials.specs.Fits.{product_within, power_within}
use Rattle.polynomials.proofs.Canonical.{IsPolynomial-sum_of, IsPolynomial-product_of, IsPolynomial-negative_of, IsPolynomial-constant_of}
use Rattle.polynomials.proofs.LeadAndTail.{IsPolynomial-variable_power}
use Rattle.polynomials.proofs.Powers.{IsPolynomial-power_of, power_is_free, power_within_is_power}
use Rattle.polynomials.proofs.ConstantLemmas.{constant_of_free}
use Rattle.polynomials.proofs.VariablePowers.{variable_power_is_free}
use Rattle.polynomials.proofs.Degrees.{degree_in-negative_of}
use Rattle.polynomials.proofs.DegreesOfProducts.{sum_is_free, product_is_free}
use Rattle.polynomials.proofs.FitsLemmas.{product_within_is}
use Rattle.system_text.specs.Limits.{text_width}
use Rattle.system_text.specs.Readings.{Setting}
use Rattle.system_text.specs.Factors.{place_of_name}
use Rattle.system_text.specs.Grammar.{Sum, TermTree, Factor, Base, First, FirstNegative, Added, TakenAway, Single, Multiplied, Bare, Raised, Numeral, Variable, Parenthesis, of_both, of_one, variable_of, sum_value, term_value, factor_value, base_value}
use Rattle.system_text.specs.Laws.{IsNamedPolynomial}

-- what an operation on two values makes, it makes of values that are there
pub record OfBoth {A : Type 0} (g : A → A → Option A) (a b : Option A) (c : A) : Type 0 where
  pub left : A
  pub right : A
  pub left_is : a ≡ Some left
  pub right_is : b ≡ Some right
  pub result : g left right ≡ Some c

pub of_both_parts : {A : Type 0} (g : A → A → Option A) (a b : Option A) (c : A) → of_both g a b ≡ Some c → OfBoth g a b c
of_both_parts g None b c e = absurd cc
of_both_parts g (Some x) None c e = absurd cc
of_both_parts g (Some x) (Some y) c e = record { left = x; right = y; left_is = refl; right_is = refl; result = e }

-- what an operation on one value makes, it makes of a value that is there
pub record OfOne {A : Type 0} (g : A → Option A) (a : Option A) (c : A) : Type 0 where
  pub operand : A
  pub operand_is : a ≡ Some operand
  pub result : g operand ≡ Some c

pub of_one_parts : {A : Type 0} (g : A → Option A) (a : Option A) (c : A) → of_one g a ≡ Some c → OfOne g a c
of_one_parts g None c e = absurd cc
of_one_parts g (Some x) c e = record { operand = x; operand_is = refl; result = e }

-- a name's variable is below the number of names
place_if : (b : Bool) (i n v : ℕ) (later : Option ℕ) → (later ≡ Some v → v < suc i + n) → cond b (Some i) later ≡ Some v → v < i + suc n
place_if true i n v later h e = let same : i ≡ v = cc in omega arith
place_if false i n v later h e = let below = h e in omega arith

pub place_of_name_below : (i : ℕ) (names : List (List ℕ)) (x : List ℕ) (v : ℕ) → place_of_name i names x ≡ Some v → v < i + length names
place_of_name_below i [] x v e = absurd cc
place_of_name_below i (name ∷ names) x v e = place_if (bytes_eq name x) i (length names) v (place_of_name (suc i) names x) (place_of_name_below (suc i) names x v) e

-- a canonical polynomial in the variables that have a name
abbrev pub IsNamed : Setting → Polynomial → Type 0
IsNamed s f = IsNamedPolynomial s.modulus s.variables s.names f

module _ (s : Setting) (many : 1 < s.modulus) where
  abbrev positive : 0 < s.modulus
  positive = omega arith

  pub sum_is_named : (f g : Polynomial) → IsNamed s f → IsNamed s g → IsNamed s (sum_of s.modulus f g)
  sum_is_named f g i j = (IsPolynomial-sum_of s.modulus s.variables positive f g i.0 j.0, λ v h. sum_is_free s.modulus v f g (i.1 v h) (j.1 v h))

  pub negative_is_named : (f : Polynomial) → IsNamed s f → IsNamed s (negative_of s.modulus f)
  negative_is_named f i = (IsPolynomial-negative_of s.modulus s.variables f i.0, λ v h. degree_in-negative_of v s.modulus f ∙ i.1 v h)

  pub product_is_named : (f g h : Polynomial) → IsNamed s f → IsNamed s g → product_within s.modulus text_width f g ≡ Some h → IsNamed s h
  product_is_named f g h i j e = subst (IsNamed s) (product_within_is s.modulus text_width f g h e).1 (IsPolynomial-product_of s.modulus s.variables positive f g i.0 j.0, λ v k. product_is_free s.modulus v f g (i.1 v k) (j.1 v k))

  pub power_is_named : (f g : Polynomial) (e : ℕ) → IsNamed s f → power_within s.modulus s.variables text_width f e ≡ Some g → IsNamed s g
  power_is_named f g e i d = subst (IsNamed s) (sym (power_within_is_power s.modulus s.variables text_width e f g d)) (IsPolynomial-power_of s.modulus s.variables many f e i.0, λ v k. power_is_free s.modulus s.variables v f e (i.1 v k))

  constant_is_named : (c : ℕ) → IsNamed s (constant_of s.variables (c % s.modulus))
  constant_is_named c = (IsPolynomial-constant_of s.modulus s.variables (c % s.modulus) (mod-lt c positive), λ v h. constant_of_free v s.variables (c % s.modulus))

  variable_is_named : (place : Option ℕ) (f : Polynomial) → ((v : ℕ) → place ≡ Some v → v < length s.names) → variable_of s.variables place ≡ Some f → IsNamed s f
  variable_is_named None f h e = absurd cc
  variable_is_named (Some v) f h e =
      let below = h v refl in
      let same : variable_power s.variables v 1 ≡ f = cc in
      subst (IsNamed s) same (IsPolynomial-variable_power s.modulus s.variables v 1 many, λ w k. variable_power_is_free s.variables v 1 w (omega arith))

  name_below : (x : List ℕ) (v : ℕ) → place_of_name 0 s.names x ≡ Some v → v < length s.names
  name_below x v e = let below = place_of_name_below 0 s.names x v e in omega arith

  mutual
    -- the value of a sum is one
    pub sum_value_is_named : (tree : Sum) (f : Polynomial) → sum_value s tree ≡ Some f → IsNamed s f
    sum_value_is_named (First t) f e = term_value_is_named t f e
    sum_value_is_named (FirstNegative t) f e =
        let parts = of_one_parts (λ x. Some (negative_of s.modulus x)) (term_value s t) f e in
        let same : negative_of s.modulus parts.operand ≡ f = cc parts.result in
        subst (IsNamed s) same (negative_is_named parts.operand (term_value_is_named t parts.operand parts.operand_is))
    sum_value_is_named (Added g t) f e =
        let parts = of_both_parts (λ x y. Some (sum_of s.modulus x y)) (sum_value s g) (term_value s t) f e in
        let same : sum_of s.modulus parts.left parts.right ≡ f = cc parts.result in
        subst (IsNamed s) same (sum_is_named parts.left parts.right (sum_value_is_named g parts.left parts.left_is) (term_value_is_named t parts.right parts.right_is))
    sum_value_is_named (TakenAway g t) f e =
        let parts = of_both_parts (λ x y. Some (difference_of s.modulus x y)) (sum_value s g) (term_value s t) f e in
        let same : difference_of s.modulus parts.left parts.right ≡ f = cc parts.result in
        subst (IsNamed s) same (sum_is_named parts.left (negative_of s.modulus parts.right) (sum_value_is_named g parts.left parts.left_is) (negative_is_named parts.right (term_value_is_named t parts.right parts.right_is)))

    -- of a term
    pub term_value_is_named : (t : TermTree) (f : Polynomial) → term_value s t ≡ Some f → IsNamed s f
    term_value_is_named (Single g) f e = factor_value_is_named g f e
    term_value_is_named (Multiplied t g) f e =
        let parts = of_both_parts (λ x y. product_within s.modulus text_width x y) (term_value s t) (factor_value s g) f e in
        product_is_named parts.left parts.right f (term_value_is_named t parts.left parts.left_is) (factor_value_is_named g parts.right parts.right_is) parts.result

    -- of a factor
    pub factor_value_is_named : (g : Factor) (f : Polynomial) → factor_value s g ≡ Some f → IsNamed s f
    factor_value_is_named (Bare b) f e = base_value_is_named b f e
    factor_value_is_named (Raised b digits) f e =
        let parts = of_one_parts (λ x. power_within s.modulus s.variables text_width x (digits_value 10 digits)) (base_value s b) f e in
        power_is_named parts.operand f (digits_value 10 digits) (base_value_is_named b parts.operand parts.operand_is) parts.result

    -- of a base
    pub base_value_is_named : (b : Base) (f : Polynomial) → base_value s b ≡ Some f → IsNamed s f
    base_value_is_named (Numeral digits) f e =
        let same : constant_of s.variables (digits_value 10 digits % s.modulus) ≡ f = cc in
        subst (IsNamed s) same (constant_is_named (digits_value 10 digits))
    base_value_is_named (Variable x) f e = variable_is_named (place_of_name 0 s.names x) f (name_below x) e
    base_value_is_named (Parenthesis g) f e = sum_value_is_named g f e
