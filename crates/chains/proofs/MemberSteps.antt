-- The first polynomial of a list, and whether it is below or above a variable, or has it as its main one.
use Rattle.std.proofs.Common.{◌≡◌, ◌⊎◌, inl, inr, ℕ, ◌<◌, ◌≤◌, Bool, true, false, List, [], ◌∷◌, Option, Some, ap, arith}
use Rattle.std.proofs.lemmas.Bool.{cases_lt}
use Rattle.std.specs.List.{AllByRecursion}
use Rattle.polynomials.specs.Polynomials.{Polynomial, IsPolynomial}
use Rattle.polynomials.specs.Views.{main_var}
use Rattle.polynomials.proofs.ExponentsBelow.{degree_in-past}
use Rattle.polynomials.proofs.MainVariables.{degree_in_main_var}
use Rattle.zero_sets.specs.ZeroSets.{is_variable, member_in, is_variable_below, members_below}
use Rattle.impose_rules.specs.Chains.{is_variable_above, members_above}
use Rattle.impose_rules.proofs.ChainParts.{member_of_chain}

module _ (v : ℕ) (t : Polynomial) (rest : List Polynomial) where
  -- by the test for those below
  pub below_by : (b : Bool) → is_variable_below v (main_var t) ≡ b → members_below v (t ∷ rest) ≡ elim b as (λ _. List Polynomial) [ true ↦ t ∷ members_below v rest | false ↦ members_below v rest ]
  below_by b e = ap (λ x. elim x as (λ _. List Polynomial) [ true ↦ t ∷ members_below v rest | false ↦ members_below v rest ]) e

  -- and for those above
  pub above_by : (b : Bool) → is_variable_above v (main_var t) ≡ b → members_above v (t ∷ rest) ≡ elim b as (λ _. List Polynomial) [ true ↦ t ∷ members_above v rest | false ↦ members_above v rest ]
  above_by b e = ap (λ x. elim x as (λ _. List Polynomial) [ true ↦ t ∷ members_above v rest | false ↦ members_above v rest ]) e

  -- and for the one with the main variable
  pub member_by : (b : Bool) → is_variable v (main_var t) ≡ b → member_in v (t ∷ rest) ≡ elim b as (λ _. Option Polynomial) [ true ↦ Some t | false ↦ member_in v rest ]
  member_by b e = ap (λ x. elim x as (λ _. Option Polynomial) [ true ↦ Some t | false ↦ member_in v rest ]) e

each_anything : (chain : List Polynomial) → AllByRecursion (λ u. Unit {0}) chain
each_anything [] = tt
each_anything (t ∷ chain) = (tt, each_anything chain)

-- the member for v has the main variable v
pub member_main : (v : ℕ) (chain : List Polynomial) (t : Polynomial) → member_in v chain ≡ Some t → main_var t ≡ Some v
member_main v chain t found = (member_of_chain (λ u. Unit {0}) v chain t found (each_anything chain)).1

-- which is one of the variables
pub main_variable_small : (p n v : ℕ) (t : Polynomial) → IsPolynomial p n t → main_var t ≡ Some v → v < n
main_variable_small p n v t i main = small (cases_lt v n)
  where
    small : (v < n) ⊎ (n ≤ v) → v < n
    small (inl less) = less
    small (inr past) =
        let none = degree_in-past p n v t past i in
        let some = degree_in_main_var v t main in
        omega arith
