-- The main variable is the greatest variable of the first term.
use Rattle.std.proofs.Common.{◌≡◌, ℕ, ◌∷◌, Option, Some, None, refl, arith}
use Rattle.polynomials.specs.Monomials.{exponent_of, greatest_variable}
use Rattle.polynomials.specs.Polynomials.{Term, Polynomial, IsPolynomial}
use Rattle.polynomials.specs.Views.{main_var, greater_variable}
use Rattle.polynomials.proofs.MainVariables.{IsGreatest_unique, greatest_variable_is, degree_in_main_var, free_above_main_var}
use Rattle.polynomials.proofs.InitialLemmas.{first_exponent}

-- where no variable is the greater of two, there is no first
no_first : (a b : Option ℕ) → greater_variable a b ≡ None → a ≡ None
no_first None b e = refl
no_first (Some v) None e = cc
no_first (Some v) (Some w) e = cc

-- no later term has a greater variable than the first
pub main_var-first : (p n : ℕ) (t : Term) (f : Polynomial) → IsPolynomial p n (t ∷ f) → greatest_variable t.0 ≡ main_var (t ∷ f)
main_var-first p n t f i = go (main_var (t ∷ f)) refl
  where
    go : (o : Option ℕ) → main_var (t ∷ f) ≡ o → greatest_variable t.0 ≡ o
    go None e = no_first (greatest_variable t.0) (main_var f) e
    go (Some v) e =
        IsGreatest_unique v (greatest_variable t.0) (λ w. exponent_of w t.0) (
          (let some = degree_in_main_var v (t ∷ f) e in let same = first_exponent p n v t f i e in omega arith),
          (λ w up. (let free = free_above_main_var v w (t ∷ f) e up in omega arith)),
        )
        (greatest_variable_is t.0)
