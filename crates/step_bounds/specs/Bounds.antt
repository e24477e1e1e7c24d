-- Systems for which limits that are known in advance are enough.
use Rattle.std.specs.Prelude.{◌≡◌, ℕ, ◌<◌, ◌≤◌, length, None}
use Rattle.std.specs.List.{AllByRecursion}
use Rattle.polynomials.specs.Polynomials.{Polynomial}
use Rattle.polynomials.specs.Views.{degree_in}
use Rattle.zero_sets.specs.Systems.{PolynomialSystem}
use Rattle.case_laws.specs.Lawful.{IsLawfulSystem}
use Rattle.case_laws.specs.Laws.{answer_to}
use Rattle.step_bounds.specs.Terms.{total_degree}

-- no branch lacks one of so many steps, and none has a product that doesn't fit the width w
abbrev pub IsNeverStopped : ℕ → ℕ → ℕ → PolynomialSystem → Type 0
IsNeverStopped n w steps system = (answer_to n w steps system).stop ≡ None

-- what holds of each input, and of each polynomial that must not vanish
pub record EachPolynomial (Q : Polynomial → Type 0) (system : PolynomialSystem) : Type 0 where
  pub inputs : AllByRecursion Q system.inputs
  pub nonzero : AllByRecursion Q system.nonzero

-- a system in k variables with total degrees of at most 1 isn't stopped with a step more than it
-- has inputs and a width of more than k
abbrev pub LinearSystemsAreNeverStopped : Type 0
LinearSystemsAreNeverStopped =
    (n k w steps : ℕ) (system : PolynomialSystem)
    → IsLawfulSystem n k system
    → EachPolynomial (λ f. total_degree f ≤ 1) system
    → length system.inputs < steps
    → k < w
    → IsNeverStopped n w steps system

-- a system in one variable with degrees of at most d isn't stopped with a step more than it has
-- inputs and a width of more than d
abbrev pub SystemsInOneVariableAreNeverStopped : Type 0
SystemsInOneVariableAreNeverStopped =
    (n d w steps : ℕ) (system : PolynomialSystem)
    → IsLawfulSystem n 1 system
    → EachPolynomial (λ f. degree_in 0 f ≤ d) system
    → length system.inputs < steps
    → d < w
    → IsNeverStopped n w steps system
