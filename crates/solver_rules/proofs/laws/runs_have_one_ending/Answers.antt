-- No words are two commands.
use Rattle.mono_words.specs.declared.mono.TheConstants.{VARS}
use Rattle.tri_io.proofs.KnownCommands.{commands_known}
use Rattle.run_rules.proofs.Endings.{endings_are_known}
use Rattle.solver_rules.specs.Solver.{solver}
use Rattle.solver_rules.proofs.laws.runs_have_one_ending.Goals as goal

pub returns : goal.returns
returns c with_workers words bytes = endings_are_known (solver with_workers VARS) (commands_known with_workers) words bytes
