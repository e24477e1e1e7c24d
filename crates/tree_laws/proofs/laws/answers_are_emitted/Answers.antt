-- A leaf of the answer is that of an event, and each event's leaf was emitted by a step.
use Rattle.tree_laws.proofs.Emitted.{answers_are_emitted}
use Rattle.tree_laws.proofs.laws.answers_are_emitted.Goals as goal

pub returns : goal.returns
returns g c step = answers_are_emitted step _ _ _
