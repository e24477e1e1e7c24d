-- Identities of commutative rings, decided by computing with polynomials over the natural numbers.
use Rattle.std.proofs.Common.{◌≡◌, ℕ, zero, suc, List, [], ◌∷◌, get_or, refl, sym, ap, ap₂, ◌∙◌}
use Rattle.polynomials.specs.Monomials.{Monomial}
use Rattle.polynomials.specs.Polynomials.{term, Polynomial, with_first, sum_of, product_of}
use Rattle.polynomials.specs.Rings.{Ring, natural_in, monomial_value, value}
use Rattle.polynomials.proofs.RingLaws.{plus_comm, plus_assoc, plus-nil, one-times, times-one, plus_four, neg-plus-plus, plus_cancel_right, neg-nil, neg-neg, neg-sum, neg-times, times-neg, plus-times, times-plus}
use Rattle.polynomials.proofs.SumsOfOperations.{weighted_sum-with_first, weighted_sum-monomial}
use Rattle.polynomials.proofs.Values.{value-sum_of, value-product_of}

-- a term of the language of rings
pub data Expression : Type 0 where
  var : ℕ → Expression
  number : ℕ → Expression
  plus : Expression → Expression → Expression
  times : Expression → Expression → Expression
  minus : Expression → Expression

infixl 65 ◌:+◌
infixl 65 ◌:-◌
infixl 70 ◌:*◌
-- sum, difference and product, written as usual
abbrev pub ◌:+◌ : Expression → Expression → Expression
a :+ b = plus a b

abbrev pub ◌:-◌ : Expression → Expression → Expression
a :- b = plus a (minus b)

abbrev pub ◌:*◌ : Expression → Expression → Expression
a :* b = times a b

-- what an expression means, with the variables at xs
abbrev pub meaning : {A : Type 0} → Ring A → List A → Expression → A
meaning r xs (var i) = get_or xs i r.one
meaning r xs (number c) = natural_in r c
meaning r xs (plus a b) = r.◌⊕◌ (meaning r xs a) (meaning r xs b)
meaning r xs (times a b) = r.◌⊗◌ (meaning r xs a) (meaning r xs b)
meaning r xs (minus a) = r.neg (meaning r xs a)

-- the variable i as a monomial
abbrev pub variable_monomial : ℕ → Monomial
variable_monomial zero = 1 ∷ []
variable_monomial (suc i) = 0 ∷ variable_monomial i

-- two polynomials, the second to be taken from the first
abbrev pub Parts : Type 0
Parts = Polynomial × Polynomial

-- the parts of a sum
abbrev pub sum_parts : Parts → Parts → Parts
sum_parts s t = (sum_of 0 s.0 t.0, sum_of 0 s.1 t.1)

-- the parts of a product
abbrev pub product_parts : Parts → Parts → Parts
product_parts s t = (sum_of 0 (product_of 0 s.0 t.0) (product_of 0 s.1 t.1), sum_of 0 (product_of 0 s.0 t.1) (product_of 0 s.1 t.0))

-- the parts of a negative
abbrev pub swapped_parts : Parts → Parts
swapped_parts s = (s.1, s.0)

-- an expression, multiplied out
abbrev pub parts : Expression → Parts
parts (var i) = (term (variable_monomial i) 1 ∷ [], [])
parts (number c) = (with_first (term [] c) [], [])
parts (plus a b) = sum_parts (parts a) (parts b)
parts (times a b) = product_parts (parts a) (parts b)
parts (minus a) = swapped_parts (parts a)

module _ {A : Type 0} (r : Ring A) where
  open r use {◌⊕◌, ◌⊗◌, nil, one, neg}

  sum_of_differences : (a b c d : A) → (a ⊕ b) ⊕ neg (c ⊕ d) ≡ (a ⊕ neg c) ⊕ (b ⊕ neg d)
  sum_of_differences a b c d = ap (λ w. (a ⊕ b) ⊕ w) (neg-sum r c d) ∙ plus_four r a b (neg c) (neg d)

  product_of_differences : (a b c d : A) → ((a ⊗ b) ⊕ (c ⊗ d)) ⊕ neg ((a ⊗ d) ⊕ (c ⊗ b)) ≡ (a ⊕ neg c) ⊗ (b ⊕ neg d)
  product_of_differences a b c d = sum_of_differences (a ⊗ b) (c ⊗ d) (a ⊗ d) (c ⊗ b) ∙ ap₂ ◌⊕◌ first second ∙ sym (plus-times r a (neg c) (b ⊕ neg d))
    where
      first : (a ⊗ b) ⊕ neg (a ⊗ d) ≡ a ⊗ (b ⊕ neg d)
      first = ap (λ w. (a ⊗ b) ⊕ w) (sym (times-neg r a d)) ∙ sym (times-plus r a b (neg d))

      second : (c ⊗ d) ⊕ neg (c ⊗ b) ≡ neg c ⊗ (b ⊕ neg d)
      second = plus_comm r (c ⊗ d) (neg (c ⊗ b)) ∙ ap₂ ◌⊕◌ (sym (neg-times r c b)) (sym (neg-neg r (c ⊗ d)) ∙ ap neg (sym (times-neg r c d)) ∙ sym (neg-times r c (neg d))) ∙ sym (times-plus r (neg c) b (neg d))

  same_differences : (a b c d : A) → a ⊕ d ≡ c ⊕ b → a ⊕ neg b ≡ c ⊕ neg d
  same_differences a b c d e = plus_cancel_right r (b ⊕ d) (a ⊕ neg b) (c ⊕ neg d) (plus_assoc r a (neg b) (b ⊕ d) ∙ ap (λ w. a ⊕ w) (neg-plus-plus r b d) ∙ e ∙ sym (ap (λ w. (c ⊕ neg d) ⊕ w) (plus_comm r b d) ∙ plus_assoc r c (neg d) (d ⊕ b) ∙ ap (λ w. c ⊕ w) (neg-plus-plus r d b)))

  monomial_value_empty : (xs : List A) → monomial_value r xs [] ≡ one
  monomial_value_empty [] = refl
  monomial_value_empty (x ∷ xs) = refl

  monomial_value-variable : (xs : List A) (i : ℕ) → monomial_value r xs (variable_monomial i) ≡ get_or xs i one
  monomial_value-variable [] i = refl
  monomial_value-variable (x ∷ xs) zero = ap₂ ◌⊗◌ (times-one r x) (monomial_value_empty xs) ∙ times-one r x
  monomial_value-variable (x ∷ xs) (suc i) = one-times r (monomial_value r xs (variable_monomial i)) ∙ monomial_value-variable xs i

  module _ (xs : List A) where
    -- the value of two parts
    abbrev worth : Parts → A
    worth s = value r xs s.0 ⊕ neg (value r xs s.1)

    minus-nil : (x : A) → x ⊕ neg nil ≡ x
    minus-nil x = ap (λ w. x ⊕ w) (neg-nil r) ∙ plus-nil r x

    -- multiplying out keeps the meaning
    worth-parts : (e : Expression) → worth (parts e) ≡ meaning r xs e
    worth-parts (var i) = minus-nil (value r xs (term (variable_monomial i) 1 ∷ [])) ∙ weighted_sum-monomial r (monomial_value r xs) (variable_monomial i) ∙ monomial_value-variable xs i
    worth-parts (number c) = minus-nil (value r xs (with_first (term [] c) [])) ∙ weighted_sum-with_first r (monomial_value r xs) (term [] c) [] ∙ plus-nil r (natural_in r c ⊗ monomial_value r xs []) ∙ ap (λ w. natural_in r c ⊗ w) (monomial_value_empty xs) ∙ times-one r (natural_in r c)
    worth-parts (plus a b) =
        let s = parts a in
        let t = parts b in
        ap₂ (λ x y. x ⊕ neg y) (value-sum_of r 0 refl xs s.0 t.0) (value-sum_of r 0 refl xs s.1 t.1)
        ∙ sum_of_differences (value r xs s.0) (value r xs t.0) (value r xs s.1) (value r xs t.1)
        ∙ ap₂ ◌⊕◌ (worth-parts a) (worth-parts b)
    worth-parts (times a b) =
        let s = parts a in
        let t = parts b in
        let product = value-product_of r 0 refl xs in
        ap₂ (λ x y. x ⊕ neg y) (value-sum_of r 0 refl xs (product_of 0 s.0 t.0) (product_of 0 s.1 t.1) ∙ ap₂ ◌⊕◌ (product s.0 t.0) (product s.1 t.1)) (value-sum_of r 0 refl xs (product_of 0 s.0 t.1) (product_of 0 s.1 t.0) ∙ ap₂ ◌⊕◌ (product s.0 t.1) (product s.1 t.0))
        ∙ product_of_differences (value r xs s.0) (value r xs t.0) (value r xs s.1) (value r xs t.1)
        ∙ ap₂ ◌⊗◌ (worth-parts a) (worth-parts b)
    worth-parts (minus a) =
        let s = parts a in
        plus_comm r (value r xs s.1) (neg (value r xs s.0))
        ∙ ap (λ w. neg (value r xs s.0) ⊕ w) (sym (neg-neg r (value r xs s.1)))
        ∙ sym (neg-sum r (value r xs s.0) (neg (value r xs s.1)))
        ∙ ap neg (worth-parts a)

    -- an identity holds where both sides, multiplied out, are the same
    pub solve : (a b : Expression) → sum_of 0 (parts a).0 (parts b).1 ≡ sum_of 0 (parts b).0 (parts a).1 → meaning r xs a ≡ meaning r xs b
    solve a b same =
        let s = parts a in
        let t = parts b in
        sym (worth-parts a)
        ∙ same_differences (value r xs s.0) (value r xs s.1) (value r xs t.0) (value r xs t.1) (sym (value-sum_of r 0 refl xs s.0 t.1) ∙ ap (value r xs) same ∙ value-sum_of r 0 refl xs t.0 s.1)
        ∙ worth-parts b
