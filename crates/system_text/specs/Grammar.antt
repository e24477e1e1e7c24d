-- The grammar of sums: syntax trees, how they are spelled, their values, and their limits.
use Rattle.std.specs.Prelude.{ℕ, suc, ◌%◌, ◌<◌, ◌≤◌, List, [], ◌∷◌, ◌++◌, length, Option, Some, None}
use Rattle.std.specs.Str.Parse.{digits_value}
use Rattle.polynomials.specs.Polynomials.{Polynomial, sum_of, difference_of, negative_of, constant_of, variable_power}
use Rattle.polynomials.specs.Fits.{most_exponent, product_within, power_within}
use Rattle.system_text.specs.Tokens.{Token, Name, Number}
use Rattle.system_text.specs.Limits.{most_digits, most_power, most_depth, text_width}
use Rattle.system_text.specs.Readings.{Setting}
use Rattle.system_text.specs.Factors.{place_of_name}

mutual
  -- terms that are added or taken away, the first with a sign before it or not
  pub data Sum : Type 0 where
    First : TermTree → Sum
    FirstNegative : TermTree → Sum
    Added : Sum → TermTree → Sum
    TakenAway : Sum → TermTree → Sum

  -- factors that are multiplied
  pub data TermTree : Type 0 where
    Single : Factor → TermTree
    Multiplied : TermTree → Factor → TermTree

  -- a base, or a power of it
  pub data Factor : Type 0 where
    Bare : Base → Factor
    Raised : Base → List ℕ → Factor

  -- a number, a name, or a sum in parentheses
  pub data Base : Type 0 where
    Numeral : List ℕ → Base
    Variable : List ℕ → Base
    Parenthesis : Sum → Base

-- the tokens of a tree, from left to right
abbrev mutual
  pub sum_tokens : Sum → List Token
  sum_tokens (First t) = term_tokens t
  sum_tokens (FirstNegative t) = Token.Minus ∷ term_tokens t
  sum_tokens (Added f t) = sum_tokens f ++ Token.Plus ∷ term_tokens t
  sum_tokens (TakenAway f t) = sum_tokens f ++ Token.Minus ∷ term_tokens t

  pub term_tokens : TermTree → List Token
  term_tokens (Single f) = factor_tokens f
  term_tokens (Multiplied t f) = term_tokens t ++ Token.Times ∷ factor_tokens f

  pub factor_tokens : Factor → List Token
  factor_tokens (Bare b) = base_tokens b
  factor_tokens (Raised b digits) = base_tokens b ++ Token.Power ∷ Number digits ∷ []

  pub base_tokens : Base → List Token
  base_tokens (Numeral digits) = Number digits ∷ []
  base_tokens (Variable x) = Name x ∷ []
  base_tokens (Parenthesis f) = Token.Open ∷ (sum_tokens f ++ Token.Close ∷ [])

-- what an operation makes of two values, where there are both
abbrev pub of_both : {A : Type 0} → (A → A → Option A) → Option A → Option A → Option A
of_both f None y = None
of_both f (Some x) None = None
of_both f (Some x) (Some y) = f x y

-- what an operation makes of a value, where there is one
abbrev pub of_one : {A : Type 0} → (A → Option A) → Option A → Option A
of_one f None = None
of_one f (Some x) = f x

-- the variable of a name, where it has one
abbrev pub variable_of : ℕ → Option ℕ → Option Polynomial
variable_of n None = None
variable_of n (Some v) = Some (variable_power n v 1)

module _ (s : Setting) where
  -- the values of trees: None where a product on the way doesn't fit the width or a name is unknown
  abbrev mutual
    pub sum_value : Sum → Option Polynomial
    sum_value (First t) = term_value t
    sum_value (FirstNegative t) = of_one (λ f. Some (negative_of s.modulus f)) (term_value t)
    sum_value (Added f t) =
        of_both (λ x y. Some (sum_of s.modulus x y)) (sum_value f) (term_value t)
    sum_value (TakenAway f t) =
        of_both (λ x y. Some (difference_of s.modulus x y)) (sum_value f) (term_value t)

    pub term_value : TermTree → Option Polynomial
    term_value (Single f) = factor_value f
    term_value (Multiplied t f) =
        of_both (λ x y. product_within s.modulus text_width x y) (term_value t) (factor_value f)

    pub factor_value : Factor → Option Polynomial
    factor_value (Bare b) = base_value b
    factor_value (Raised b digits) =
        of_one (λ x. power_within s.modulus s.variables text_width x (digits_value 10 digits))
        (base_value b)

    pub base_value : Base → Option Polynomial
    base_value (Numeral digits) =
        Some (constant_of s.variables (digits_value 10 digits % s.modulus))
    base_value (Variable x) = variable_of s.variables (place_of_name 0 s.names x)
    base_value (Parenthesis f) = sum_value f

-- the greatest exponent that a base may have
abbrev pub most_of : Base → ℕ
most_of (Numeral digits) = most_exponent
most_of (Variable x) = most_exponent
most_of (Parenthesis f) = most_power

-- within depth open parentheses: numbers have at most 18 digits, exponents pass no limit, and no
-- more than 64 parentheses are open
abbrev mutual
  pub IsSumWithin : ℕ → Sum → Type 0
  IsSumWithin depth (First t) = IsTermWithin depth t
  IsSumWithin depth (FirstNegative t) = IsTermWithin depth t
  IsSumWithin depth (Added f t) = IsSumWithin depth f × IsTermWithin depth t
  IsSumWithin depth (TakenAway f t) = IsSumWithin depth f × IsTermWithin depth t

  pub IsTermWithin : ℕ → TermTree → Type 0
  IsTermWithin depth (Single f) = IsFactorWithin depth f
  IsTermWithin depth (Multiplied t f) = IsTermWithin depth t × IsFactorWithin depth f

  pub IsFactorWithin : ℕ → Factor → Type 0
  IsFactorWithin depth (Bare b) = IsBaseWithin depth b
  IsFactorWithin depth (Raised b digits) =
      IsBaseWithin depth b × (length digits ≤ most_digits) × (digits_value 10 digits ≤ most_of b)

  pub IsBaseWithin : ℕ → Base → Type 0
  IsBaseWithin depth (Numeral digits) = length digits ≤ most_digits
  IsBaseWithin depth (Variable x) = Unit {0}
  IsBaseWithin depth (Parenthesis f) = (depth < most_depth) × IsSumWithin (suc depth) f
