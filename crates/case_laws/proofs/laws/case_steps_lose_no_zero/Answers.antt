-- Children cover the task, and a reduction by the triangular set has the zeros of what is reduced.
use Rattle.case_laws.proofs.StepsLoseNoZero.{case_steps_lose_no_zero}
use Rattle.case_laws.proofs.laws.case_steps_lose_no_zero.Goals as goal

pub returns : goal.returns
returns c = case_steps_lose_no_zero
