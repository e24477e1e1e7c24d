-- What holds of each emitted triangular set holds of those of the answer.
use Rattle.case_laws.proofs.AnswersOfSystems.{answers_are_sound}
use Rattle.case_laws.proofs.laws.answers_are_sound.Goals as goal

pub returns : goal.returns
returns c = answers_are_sound
