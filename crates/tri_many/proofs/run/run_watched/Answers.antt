-- A line is written whole or in part, and an answer as it comes.
use Rattle.std.proofs.Common.{map, string_bytes, ap, refl, true, lit≤, Err}
use Rattle.report_text.specs.declared.status.Status.TheVariants.{ReadFault, OutOfMemory}
use Rattle.run_rules.proofs.Written.{written_ends, read_fault_ends, reader_is_one}
use Rattle.solver_rules.proofs.Asked.{are_of_command, ends_with_usage, line_answered}
use Rattle.solver_rules.proofs.Ranges.{command_has_workers}
use Rattle.solver_rules.proofs.Solved.{written_solved}
use Rattle.solver_rules.proofs.Usages.{written_usage, written_words}
use Rattle.tri_many.specs.Many.{many}
use Rattle.solver_inputs.proofs.Asks.{line_asked, cases_asked}
use Rattle.tri_many.proofs.Runs.{early_ends, early_fault, early_not_read_fault, early_not_usage, early_solved, line_fault, line_not_read_fault}
use Rattle.tri_many.proofs.run.run_watched.Goals as goal

pub write_answer-requires-clause-workers : goal.write_answer-requires-clause-workers
write_answer-requires-clause-workers g c lifetimes outlives = command_has_workers _ _ (cases_asked true (map string_bytes c.args.words.now) _ _ _ _ c.in-Ok-System.field-0-is c.in-Ok-System.ensures.asked).of_command.command

-- a line
pub returns-in-Ok-Line-clause-ends : goal.returns-in-Ok-Line-clause-ends
returns-in-Ok-Line-clause-ends g c = written_ends many (map string_bytes c.args.words.now) _ _ _ _ _ _ _ (line_asked true (map string_bytes c.args.words.now) _ _ _ c.in-Ok-Line.field-0-is c.in-Ok-Line.ensures.asked).expected (c.written.ensures.writes true)

pub returns-in-Ok-Line-clause-leaves : goal.returns-in-Ok-Line-clause-leaves
returns-in-Ok-Line-clause-leaves g c = c.in-Ok-Line.ensures.leaves _

pub returns-in-Ok-Line-clause-solved : goal.returns-in-Ok-Line-clause-solved
returns-in-Ok-Line-clause-solved g c of = written_solved true (map string_bytes c.args.words.now) _ _ _ _ _ _ (line_answered true (map string_bytes c.args.words.now) _ _ (line_asked true (map string_bytes c.args.words.now) _ _ _ c.in-Ok-Line.field-0-is c.in-Ok-Line.ensures.asked)) (c.written.ensures.writes true) of

pub returns-in-Ok-Line-clause-usage : goal.returns-in-Ok-Line-clause-usage
returns-in-Ok-Line-clause-usage g c e = written_usage true (map string_bytes c.args.words.now) _ _ _ _ _ (line_asked true (map string_bytes c.args.words.now) _ _ _ c.in-Ok-Line.field-0-is c.in-Ok-Line.ensures.asked).usage (c.written.ensures.writes true) e

pub returns-in-Ok-Line-clause-words : goal.returns-in-Ok-Line-clause-words
returns-in-Ok-Line-clause-words g c none = written_words true _ _ _ _ _ (ends_with_usage true (map string_bytes c.args.words.now) _ _ (line_asked true (map string_bytes c.args.words.now) _ _ _ c.in-Ok-Line.field-0-is c.in-Ok-Line.ensures.asked).expected none) (c.written.ensures.writes true)

pub returns-in-Ok-Line-clause-write_fault : goal.returns-in-Ok-Line-clause-write_fault
returns-in-Ok-Line-clause-write_fault g c e = line_fault _ _ _ _ _ (line_asked true (map string_bytes c.args.words.now) _ _ _ c.in-Ok-Line.field-0-is c.in-Ok-Line.ensures.asked).kind (c.written.ensures.writes true) e

pub returns-in-Ok-Line-clause-read_fault : goal.returns-in-Ok-Line-clause-read_fault
returns-in-Ok-Line-clause-read_fault g c e = line_not_read_fault _ _ _ _ _ (line_asked true (map string_bytes c.args.words.now) _ _ _ c.in-Ok-Line.field-0-is c.in-Ok-Line.ensures.asked).kind (c.written.ensures.writes true) e

pub returns-in-Ok-Line-clause-unwritten : goal.returns-in-Ok-Line-clause-unwritten
returns-in-Ok-Line-clause-unwritten g c e = line_not_read_fault _ _ _ _ _ (line_asked true (map string_bytes c.args.words.now) _ _ _ c.in-Ok-Line.field-0-is c.in-Ok-Line.ensures.asked).kind (c.written.ensures.writes true) e

-- the answer of a system
pub returns-in-Ok-System-clause-ends : goal.returns-in-Ok-System-clause-ends
returns-in-Ok-System-clause-ends g c = early_ends (map string_bytes c.args.words.now) _ _ _ (cases_asked true (map string_bytes c.args.words.now) _ _ _ _ c.in-Ok-System.field-0-is c.in-Ok-System.ensures.asked) _ _ _ _ c.write_answer.ensures.writes _

pub returns-in-Ok-System-clause-leaves : goal.returns-in-Ok-System-clause-leaves
returns-in-Ok-System-clause-leaves g c = c.in-Ok-System.ensures.leaves _

pub returns-in-Ok-System-clause-solved : goal.returns-in-Ok-System-clause-solved
returns-in-Ok-System-clause-solved g c of = early_solved (map string_bytes c.args.words.now) _ _ _ (cases_asked true (map string_bytes c.args.words.now) _ _ _ _ c.in-Ok-System.field-0-is c.in-Ok-System.ensures.asked) _ _ _ _ c.write_answer.ensures.writes of

pub returns-in-Ok-System-clause-usage : goal.returns-in-Ok-System-clause-usage
returns-in-Ok-System-clause-usage g c e = absurd (early_not_usage (map string_bytes c.args.words.now) _ _ _ (cases_asked true (map string_bytes c.args.words.now) _ _ _ _ c.in-Ok-System.field-0-is c.in-Ok-System.ensures.asked) _ _ _ _ c.write_answer.ensures.writes e)

pub returns-in-Ok-System-clause-words : goal.returns-in-Ok-System-clause-words
returns-in-Ok-System-clause-words g c none = absurd (are_of_command true (map string_bytes c.args.words.now) _ _ _ (cases_asked true (map string_bytes c.args.words.now) _ _ _ _ c.in-Ok-System.field-0-is c.in-Ok-System.ensures.asked) none)

pub returns-in-Ok-System-clause-write_fault : goal.returns-in-Ok-System-clause-write_fault
returns-in-Ok-System-clause-write_fault g c e = early_fault (map string_bytes c.args.words.now) _ _ _ (cases_asked true (map string_bytes c.args.words.now) _ _ _ _ c.in-Ok-System.field-0-is c.in-Ok-System.ensures.asked) _ _ _ _ c.write_answer.ensures.writes e

pub returns-in-Ok-System-clause-read_fault : goal.returns-in-Ok-System-clause-read_fault
returns-in-Ok-System-clause-read_fault g c e = absurd (early_not_read_fault (map string_bytes c.args.words.now) _ _ _ (cases_asked true (map string_bytes c.args.words.now) _ _ _ _ c.in-Ok-System.field-0-is c.in-Ok-System.ensures.asked) _ _ _ _ c.write_answer.ensures.writes e)

pub returns-in-Ok-System-clause-unwritten : goal.returns-in-Ok-System-clause-unwritten
returns-in-Ok-System-clause-unwritten g c e = absurd (early_not_read_fault (map string_bytes c.args.words.now) _ _ _ (cases_asked true (map string_bytes c.args.words.now) _ _ _ _ c.in-Ok-System.field-0-is c.in-Ok-System.ensures.asked) _ _ _ _ c.write_answer.ensures.writes e)

-- a read failed
pub returns-in-Err-ReadFault-clause-ends : goal.returns-in-Err-ReadFault-clause-ends
returns-in-Err-ReadFault-clause-ends g c =
    let failed = ap Err c.in-Err-ReadFault.field-0-is in
    read_fault_ends many (map string_bytes c.args.words.now) _ _ _ _ (c.in-Err-ReadFault.ensures.command failed) (c.in-Err-ReadFault.ensures.fault failed)

pub returns-in-Err-ReadFault-clause-leaves : goal.returns-in-Err-ReadFault-clause-leaves
returns-in-Err-ReadFault-clause-leaves g c = c.in-Err-ReadFault.ensures.leaves_fault ReadFault (0, lit≤ tt, refl)

pub returns-in-Err-ReadFault-clause-words : goal.returns-in-Err-ReadFault-clause-words
returns-in-Err-ReadFault-clause-words g c none = reader_is_one many (map string_bytes c.args.words.now) (c.in-Err-ReadFault.ensures.command (ap Err c.in-Err-ReadFault.field-0-is)) none

-- there was no memory
pub returns-clause-leaves : goal.returns-clause-leaves
returns-clause-leaves g c = c.in-Err-OutOfMemory.ensures.leaves_fault OutOfMemory (1, lit≤ tt, refl)

pub returns-clause-words : goal.returns-clause-words
returns-clause-words g c none = (2, lit≤ tt, refl)
