-- What is asked by what was read, and what is left of the input.
use Rattle.std.proofs.Common.{ℕ, ◌≤◌, map, string_bytes, ap, sym, subst}
use Rattle.std.specs.Prelude.{is_none}
use Rattle.mono_words.specs.declared.mono.TheConstants.{VARS}
use Rattle.report_text.specs.declared.status.Status.TheVariants.{ReadFault, OutOfMemory}
use Rattle.tri_io.specs.Commands.{Options}
use Rattle.tri_io.specs.declared.input.ReadFail.TheVariants.{Fault}
use Rattle.run_rules.proofs.Inputs.{input_leaves, failure_leaves}
use Rattle.solver_rules.specs.Solver.{solver}
use Rattle.solver_rules.proofs.Statuses.{of_two}
use Rattle.solver_rules.proofs.Ranges.{command_has_width}
use Rattle.solver_inputs.proofs.Readings.{input_asked}
use Rattle.solver_inputs.proofs.asked.asked_of_input.Goals as goal

pub reading_of-requires-clause-some : goal.reading_of-requires-clause-some
reading_of-requires-clause-some g c = subst (λ (o : Options). 1 ≤ o.width) (sym c.command.view_is) (command_has_width c.args.with_workers _ c.args.command c.requires.command).0

pub reading_of-requires-clause-most : goal.reading_of-requires-clause-most
reading_of-requires-clause-most g c = subst (λ (o : Options). o.width ≤ 1000000) (sym c.command.view_is) (command_has_width c.args.with_workers _ c.args.command c.requires.command).1

pub returns-in-Ok-System-clause-asked : goal.returns-in-Ok-System-clause-asked
returns-in-Ok-System-clause-asked g c = input_asked c.args.with_workers (map string_bytes c.args.words.now) _ _ c.args.command c.requires.command c.requires.reads _ _ _ _ c.command.view_is c.in-Ok-System.field-0-is c.in-Ok.ensures.bytes c.in-Ok-System.ensures

pub returns-in-Ok-Refused-clause-asked : goal.returns-in-Ok-Refused-clause-asked
returns-in-Ok-Refused-clause-asked g c = input_asked c.args.with_workers (map string_bytes c.args.words.now) _ _ c.args.command c.requires.command c.requires.reads _ _ _ _ c.command.view_is c.in-Ok-Refused.field-0-is c.in-Ok.ensures.bytes c.in-Ok-Refused.ensures

pub returns-in-Ok-System-clause-leaves : goal.returns-in-Ok-System-clause-leaves
returns-in-Ok-System-clause-leaves g c status = input_leaves (solver c.args.with_workers VARS) (map string_bytes c.args.words.now) _ _ _ status (c.args.command, c.requires.command, ap is_none c.requires.reads) c.in-Ok.ensures.bytes

pub returns-in-Ok-Refused-clause-leaves : goal.returns-in-Ok-Refused-clause-leaves
returns-in-Ok-Refused-clause-leaves g c status = input_leaves (solver c.args.with_workers VARS) (map string_bytes c.args.words.now) _ _ _ status (c.args.command, c.requires.command, ap is_none c.requires.reads) c.in-Ok.ensures.bytes

-- without memory for what is asked
pub returns-clause-leaves_fault : goal.returns-clause-leaves_fault
returns-clause-leaves_fault g c status h = input_leaves (solver c.args.with_workers VARS) (map string_bytes c.args.words.now) _ _ _ status (c.args.command, c.requires.command, ap is_none c.requires.reads) c.in-Ok.ensures.bytes

-- a read failed, or there was no memory for what was read
pub returns-in-Err-Fault-clause-leaves_fault : goal.returns-in-Err-Fault-clause-leaves_fault
returns-in-Err-Fault-clause-leaves_fault g c status h = failure_leaves (solver c.args.with_workers VARS) (map string_bytes c.args.words.now) _ _ Fault status (c.args.command, c.requires.command, ap is_none c.requires.reads) (of_two ReadFault OutOfMemory status h) c.in-Err-Fault.ensures.bytes

pub returns-in-Err-Memory-clause-leaves_fault : goal.returns-in-Err-Memory-clause-leaves_fault
returns-in-Err-Memory-clause-leaves_fault g c status h = failure_leaves (solver c.args.with_workers VARS) (map string_bytes c.args.words.now) _ _ Fault status (c.args.command, c.requires.command, ap is_none c.requires.reads) (of_two ReadFault OutOfMemory status h) c.in-Err-Memory.ensures.bytes
