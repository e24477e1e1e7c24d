-- Systems for which the limits of a command are known to be enough.
use Rattle.std.specs.Prelude.{◌≡◌, ◌<◌, ◌≤◌, ◌⊎◌, ℕ, length}
use Rattle.polynomials.specs.Views.{degree_in}
use Rattle.system_text.specs.Lines.{TextSystem}
use Rattle.step_bounds.specs.Bounds.{EachPolynomial}
use Rattle.step_bounds.specs.Terms.{total_degree}
use Rattle.case_tree.specs.Systems.{polynomial_system_of}
use Rattle.tri_io.specs.Commands.{Options}

-- a linear system of fewer variables than the width
pub record IsLinearWithin (width : ℕ) (system : TextSystem) : Type 0 where
  pub linear : EachPolynomial (λ f. total_degree f ≤ 1) (polynomial_system_of system)
  pub names : length system.names < width

-- a system in one variable, of degrees less than the width
pub record IsInOneVariableWithin (width : ℕ) (system : TextSystem) : Type 0 where
  pub name : length system.names ≡ 1
  pub most : ℕ
  pub degrees : EachPolynomial (λ f. degree_in 0 f ≤ most) (polynomial_system_of system)
  pub less : most < width

-- the steps are more than the inputs, and the system is of one of these two kinds
abbrev pub AreEnough : Options → TextSystem → Type 0
AreEnough options system =
    (length system.inputs < options.steps)
    × (IsLinearWithin options.width system ⊎ IsInOneVariableWithin options.width system)
