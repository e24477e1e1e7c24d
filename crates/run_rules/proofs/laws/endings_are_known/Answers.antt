-- No words are two commands, and a source tells one input.
use Rattle.run_rules.proofs.Endings.{endings_are_known}
use Rattle.run_rules.proofs.laws.endings_are_known.Goals as goal

pub returns : goal.returns
returns g c known words bytes = endings_are_known _ known words bytes
