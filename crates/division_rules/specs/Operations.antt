-- What division asks of polynomials: ring operations without their laws, and views in a variable.
use Rattle.std.specs.Prelude.{ℕ, zero, suc, ◌-◌, Bool, Option}
use Rattle.polynomials.specs.Rings.{Ring}
use Rattle.polynomials.specs.Sums.{power_by}

-- what a polynomial shows: whether it is 0, degree and coefficients in a variable, its main
-- variable, powers of variables, products that fit a width, and quotients that fit it
pub record Views (A : Type 0) : Type 0 where
  pub is_nil : A → Bool
  pub degree : ℕ → A → ℕ
  pub coefficient : ℕ → ℕ → A → A
  pub variable_power : ℕ → ℕ → A
  pub main : A → ℕ
  pub fits : ℕ → A → A → Bool
  pub quotient : ℕ → A → A → Option A

-- 0, 1, sum, product, negative, and the views
pub record Operations (A : Type 0) : Type 0 where
  pub nil : A
  pub one : A
  pub plus : A → A → A
  pub times : A → A → A
  pub minus : A → A
  pub views : Views A

-- those of a ring
abbrev pub operations_of : {A : Type 0} → Ring A → Views A → Operations A
operations_of r s =
    record { nil = r.nil; one = r.one; plus = r.◌⊕◌; times = r.◌⊗◌; minus = r.neg; views = s }

module _ {A : Type 0} (o : Operations A) where
  -- the lead in v
  abbrev pub lead : ℕ → A → A
  lead v f = o.views.coefficient v (o.views.degree v f) f

  -- the initial: the lead in the main variable
  abbrev pub initial : A → A
  initial f = lead (o.views.main f) f

  -- the lead of f in v, times v to the power by which its degree passes that of g
  abbrev pub shifted_lead : ℕ → A → A → A
  shifted_lead v f g =
      o.times (o.views.variable_power v (o.views.degree v f - o.views.degree v g)) (lead v f)

  -- a to the power e
  abbrev pub power : A → ℕ → A
  power a e = power_by o.one o.times a e

  -- 1 where k is even, -1 where it is odd
  abbrev pub sign : ℕ → A
  sign zero = o.one
  sign (suc k) = o.minus (sign k)
