-- Linear systems are never stopped.
use Rattle.step_bounds.proofs.LinearSteps.{linear_systems_are_never_stopped}
use Rattle.step_bounds.proofs.laws.linear_systems_are_never_stopped.Goals as goal

pub returns : goal.returns
returns c = linear_systems_are_never_stopped
