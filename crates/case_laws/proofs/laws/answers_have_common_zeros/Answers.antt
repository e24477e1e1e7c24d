-- Steps lose no common zero, and the answer is sound.
use Rattle.case_laws.proofs.AnswersOfSystems.{answers_have_common_zeros}
use Rattle.case_laws.proofs.laws.answers_have_common_zeros.Goals as goal

pub returns : goal.returns
returns c = answers_have_common_zeros
