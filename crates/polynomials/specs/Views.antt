-- A polynomial seen as one in a single variable: degree, coefficients, lead, tail, main variable.
use Rattle.std.specs.Prelude.{◌≡◌, ℕ, max, Bool, true, false, cond, eqb, List, [], ◌∷◌, set, Option, Some, None}
use Rattle.std.specs.List.{AllByRecursion}
use Rattle.polynomials.specs.Monomials.{exponent_of, greatest_variable}
use Rattle.polynomials.specs.Polynomials.{term, Polynomial}

-- the degree in v, and 0 for the zero polynomial
abbrev pub degree_in : ℕ → Polynomial → ℕ
degree_in v [] = 0
degree_in v (t ∷ f) = max (exponent_of v t.0) (degree_in v f)

-- the coefficient of v to the power k, a polynomial without v
abbrev pub coefficient_in : ℕ → ℕ → Polynomial → Polynomial
coefficient_in v k [] = []
coefficient_in v k (t ∷ f) =
    cond (eqb (exponent_of v t.0) k) (term (set t.0 v 0) t.1 ∷ coefficient_in v k f)
    (coefficient_in v k f)

-- the terms of f whose power of v isn't k
abbrev pub without_power : ℕ → ℕ → Polynomial → Polynomial
without_power v k [] = []
without_power v k (t ∷ f) =
    cond (eqb (exponent_of v t.0) k) (without_power v k f) (t ∷ without_power v k f)

-- the lead in v: the coefficient of the greatest power of v
abbrev pub lead_in : ℕ → Polynomial → Polynomial
lead_in v f = coefficient_in v (degree_in v f) f

-- the tail in v: f without the terms of the greatest power of v
abbrev pub tail_in : ℕ → Polynomial → Polynomial
tail_in v f = without_power v (degree_in v f) f

-- the greater of two variables, where there are any
abbrev pub greater_variable : Option ℕ → Option ℕ → Option ℕ
greater_variable None w = w
greater_variable (Some v) None = Some v
greater_variable (Some v) (Some w) = Some (max v w)

-- the main variable: the greatest that occurs, None for a constant
abbrev pub main_var : Polynomial → Option ℕ
main_var [] = None
main_var (t ∷ f) = greater_variable (greatest_variable t.0) (main_var f)

-- there is none
abbrev pub is_no_variable : Option ℕ → Bool
is_no_variable None = true
is_no_variable (Some v) = false

-- no variable occurs in f
abbrev pub is_constant : Polynomial → Bool
is_constant f = is_no_variable (main_var f)

-- v doesn't occur in f
abbrev pub IsFreeOf : ℕ → Polynomial → Type 0
IsFreeOf v f = degree_in v f ≡ 0

-- v occurs in none of them
abbrev pub AreFreeOf : ℕ → List Polynomial → Type 0
AreFreeOf v fs = AllByRecursion (IsFreeOf v) fs

-- the lead in v, where v is the main variable of f; f itself where f is constant
abbrev pub lead_in_main : Polynomial → Option ℕ → Polynomial
lead_in_main f None = f
lead_in_main f (Some v) = lead_in v f

-- the initial: the lead in the main variable
abbrev pub initial_of : Polynomial → Polynomial
initial_of f = lead_in_main f (main_var f)
