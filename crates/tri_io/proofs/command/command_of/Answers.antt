-- The rules' names are plain, and no two are one.
use Rattle.std.proofs.Common.{true, false, rules}
use Rattle.tri_io.proofs.KnownCommands.{rules_are, usual_workers}
use Rattle.tri_io.proofs.command.command_of.Goals as goal

pub numbers_of-requires : goal.numbers_of-requires
numbers_of-requires c = rules_are true

pub numbers_of-requires-else-with_workers : goal.numbers_of-requires-else-with_workers
numbers_of-requires-else-with_workers c = rules_are false

pub returns-in-Some-as_slice-clause-command : goal.returns-in-Some-as_slice-clause-command
returns-in-Some-as_slice-clause-command c = search (rules, usual_workers)
