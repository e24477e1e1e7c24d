use Rattle.split_paths.proofs.Answers.{answer_of-append}
use Rattle.split_paths.proofs.laws.answers_join.Goals as goal

pub returns : goal.returns
returns g c = answer_of-append
