-- The ending was written, whole or in part, and its chains have the solutions of what was read.
use Rattle.std.proofs.Common.{rules, map, string_bytes, ap, refl, lit≤, Err, false}
use Rattle.report_text.specs.declared.status.Status.TheVariants.{ReadFault, OutOfMemory}
use Rattle.run_rules.proofs.Written.{written_ends, silent_ends, read_fault_ends, reader_is_one}
use Rattle.tri_alone.specs.Alone.{alone}
use Rattle.solver_rules.proofs.Solved.{written_solved}
use Rattle.solver_rules.proofs.Usages.{written_usage, written_words}
use Rattle.tri_alone.proofs.run.run_alone.Goals as goal

pub returns-in-Ok-clause-ends : goal.returns-in-Ok-clause-ends
returns-in-Ok-clause-ends g c = written_ends alone (map string_bytes c.args.words.now) _ _ _ _ _ _ _ c.in-Ok.ensures.expected (c.written.ensures.writes false)

pub returns-in-Ok-clause-leaves : goal.returns-in-Ok-clause-leaves
returns-in-Ok-clause-leaves g c = c.in-Ok.ensures.leaves _

pub returns-in-Ok-clause-solved : goal.returns-in-Ok-clause-solved
returns-in-Ok-clause-solved g c h = written_solved false (map string_bytes c.args.words.now) _ _ _ _ _ _ c.in-Ok.ensures.answered (c.written.ensures.writes false) h

pub returns-in-Ok-clause-usage : goal.returns-in-Ok-clause-usage
returns-in-Ok-clause-usage g c e = written_usage false (map string_bytes c.args.words.now) _ _ _ _ _ c.in-Ok.ensures.usage (c.written.ensures.writes false) e

pub returns-in-Ok-clause-words : goal.returns-in-Ok-clause-words
returns-in-Ok-clause-words g c none = written_words false _ _ _ _ _ (c.in-Ok.ensures.words none) (c.written.ensures.writes false)

pub returns-in-Ok-clause-read_fault : goal.returns-in-Ok-clause-read_fault
returns-in-Ok-clause-read_fault g c = let writes = c.written.ensures.writes false in search rules

pub returns-in-Ok-clause-write_fault : goal.returns-in-Ok-clause-write_fault
returns-in-Ok-clause-write_fault g c = let writes = c.written.ensures.writes false in search rules

pub returns-in-Ok-clause-unwritten : goal.returns-in-Ok-clause-unwritten
returns-in-Ok-clause-unwritten g c = let writes = c.written.ensures.writes false in search rules

pub returns-in-Ok-clause-silent : goal.returns-in-Ok-clause-silent
returns-in-Ok-clause-silent g c = let writes = c.written.ensures.writes false in search rules

-- a read failed
pub returns-in-Err-ReadFault-clause-ends : goal.returns-in-Err-ReadFault-clause-ends
returns-in-Err-ReadFault-clause-ends g c =
    let failed = ap Err c.in-Err-ReadFault.field-0-is in
    read_fault_ends alone (map string_bytes c.args.words.now) _ _ _ _ (c.in-Err-ReadFault.ensures.command failed) (c.in-Err-ReadFault.ensures.fault failed)

pub returns-in-Err-ReadFault-clause-leaves : goal.returns-in-Err-ReadFault-clause-leaves
returns-in-Err-ReadFault-clause-leaves g c = c.in-Err-ReadFault.ensures.leaves_fault ReadFault (0, lit≤ tt, refl)

pub returns-in-Err-ReadFault-clause-words : goal.returns-in-Err-ReadFault-clause-words
returns-in-Err-ReadFault-clause-words g c none = reader_is_one alone (map string_bytes c.args.words.now) (c.in-Err-ReadFault.ensures.command (ap Err c.in-Err-ReadFault.field-0-is)) none

-- there was no memory
pub returns-in-Err-OutOfMemory-clause-ends : goal.returns-in-Err-OutOfMemory-clause-ends
returns-in-Err-OutOfMemory-clause-ends g c = silent_ends alone (map string_bytes c.args.words.now) _ _ _ _

pub returns-in-Err-OutOfMemory-clause-leaves : goal.returns-in-Err-OutOfMemory-clause-leaves
returns-in-Err-OutOfMemory-clause-leaves g c = c.in-Err-OutOfMemory.ensures.leaves_fault OutOfMemory (1, lit≤ tt, refl)

pub returns-in-Err-OutOfMemory-clause-words : goal.returns-in-Err-OutOfMemory-clause-words
returns-in-Err-OutOfMemory-clause-words g c none = (2, lit≤ tt, refl)
