-- What holds of each emitted leaf holds of those of the answer.
use Rattle.case_laws.proofs.AnswersOfSystems.{answers_are_lawful}
use Rattle.case_laws.proofs.laws.answers_are_lawful.Goals as goal

pub returns : goal.returns
returns c = answers_are_lawful
