-- The chain is the greatest common divisor of what was imposed.
use Rattle.step_bounds.proofs.OneVariableSteps.{systems_in_one_variable_are_never_stopped}
use Rattle.step_bounds.proofs.laws.systems_in_one_variable_are_never_stopped.Goals as goal

pub returns : goal.returns
returns c = systems_in_one_variable_are_never_stopped
