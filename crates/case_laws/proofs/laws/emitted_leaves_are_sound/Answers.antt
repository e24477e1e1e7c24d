-- All inputs reduce to 0 by what is emitted.
use Rattle.case_laws.proofs.EmittedLeaves.{emitted_leaves_are_sound}
use Rattle.case_laws.proofs.laws.emitted_leaves_are_sound.Goals as goal

pub returns : goal.returns
returns c = emitted_leaves_are_sound
