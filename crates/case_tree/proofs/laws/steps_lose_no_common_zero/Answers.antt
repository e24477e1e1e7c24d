-- The law of the steps of all lawful tasks, at a system's.
use Rattle.std.proofs.Common.{length}
use Rattle.mono_words.specs.declared.mono.TheConstants.{VARS}
use Rattle.case_laws.proofs.StepsLoseNoZero.{case_steps_lose_no_zero}
use Rattle.case_tree.specs.Systems.{polynomial_system_of}
use Rattle.case_tree.proofs.laws.steps_lose_no_common_zero.Goals as goal

pub returns : goal.returns
returns c cases task r xs lawful at zeros inside = case_steps_lose_no_zero VARS (length cases.system.names) cases.width (polynomial_system_of cases.system) task r xs lawful.0 lawful.1 at zeros inside
