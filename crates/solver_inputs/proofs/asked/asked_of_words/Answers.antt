-- Words that are no command have the usage line, and nothing is read, as where a system is made.
use Rattle.std.proofs.Common.{map, string_bytes, ap, Err}
use Rattle.mono_words.specs.declared.mono.TheConstants.{VARS}
use Rattle.report_text.specs.declared.status.Status.TheVariants.{ReadFault, OutOfMemory}
use Rattle.run_rules.proofs.Inputs.{unread_leaves}
use Rattle.solver_rules.specs.Solver.{solver}
use Rattle.solver_rules.proofs.Statuses.{of_two}
use Rattle.solver_rules.proofs.Usages.{no_reader, unread_leaves_all, unread_leaves_all_fault}
use Rattle.solver_inputs.proofs.Asks.{usage_asked}
use Rattle.solver_inputs.proofs.asked.asked_of_words.Goals as goal

pub returns-in-Err-NotACommand-clause-asked : goal.returns-in-Err-NotACommand-clause-asked
returns-in-Err-NotACommand-clause-asked g c = usage_asked c.args.with_workers (map string_bytes c.args.words.now) _ _ (c.in-Err-NotACommand.ensures.refused (ap Err c.in-Err-NotACommand.field-0-is)) c.usage.ensures.usage

pub returns-in-Err-NotACommand-clause-leaves : goal.returns-in-Err-NotACommand-clause-leaves
returns-in-Err-NotACommand-clause-leaves g c = unread_leaves_all c.args.with_workers (map string_bytes c.args.words.now) _ _ (no_reader c.args.with_workers (map string_bytes c.args.words.now) (c.in-Err-NotACommand.ensures.refused (ap Err c.in-Err-NotACommand.field-0-is)))

pub returns-in-Err-NotACommand-clause-leaves_fault : goal.returns-in-Err-NotACommand-clause-leaves_fault
returns-in-Err-NotACommand-clause-leaves_fault g c = unread_leaves_all_fault c.args.with_workers (map string_bytes c.args.words.now) _ _ (no_reader c.args.with_workers (map string_bytes c.args.words.now) (c.in-Err-NotACommand.ensures.refused (ap Err c.in-Err-NotACommand.field-0-is)))

-- without memory for the words nothing was read
pub returns-in-Err-Memory-clause-leaves_fault : goal.returns-in-Err-Memory-clause-leaves_fault
returns-in-Err-Memory-clause-leaves_fault g c status h = unread_leaves (solver c.args.with_workers VARS) (map string_bytes c.args.words.now) _ status (of_two ReadFault OutOfMemory status h)

-- a system is made, and nothing is read
pub returns-in-Some-clause-leaves : goal.returns-in-Some-clause-leaves
returns-in-Some-clause-leaves g c = unread_leaves_all c.args.with_workers (map string_bytes c.args.words.now) _ _ c.asked_of_number.ensures.unread

pub returns-in-Some-clause-leaves_fault : goal.returns-in-Some-clause-leaves_fault
returns-in-Some-clause-leaves_fault g c = unread_leaves_all_fault c.args.with_workers (map string_bytes c.args.words.now) _ _ c.asked_of_number.ensures.unread
