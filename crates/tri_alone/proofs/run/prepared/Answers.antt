-- A line is handed on, and cases end with the answer of their system.
use Rattle.std.proofs.Common.{map, string_bytes, false}
use Rattle.solver_rules.proofs.Asked.{line_answered, ends_with_usage, are_of_command, cases_expected, cases_answered, cases_not_usage}
use Rattle.solver_inputs.proofs.Asks.{line_asked, cases_asked}
use Rattle.tri_alone.proofs.run.prepared.Goals as goal

pub returns-in-Ok-Line-clause-expected : goal.returns-in-Ok-Line-clause-expected
returns-in-Ok-Line-clause-expected g c = (line_asked false (map string_bytes c.args.words.now) _ _ _ c.in-Ok-Line.field-0-is c.in-Ok-Line.ensures.asked).expected

pub returns-in-Ok-Line-clause-answered : goal.returns-in-Ok-Line-clause-answered
returns-in-Ok-Line-clause-answered g c = line_answered false (map string_bytes c.args.words.now) _ _ (line_asked false (map string_bytes c.args.words.now) _ _ _ c.in-Ok-Line.field-0-is c.in-Ok-Line.ensures.asked)

pub returns-in-Ok-Line-clause-usage : goal.returns-in-Ok-Line-clause-usage
returns-in-Ok-Line-clause-usage g c = (line_asked false (map string_bytes c.args.words.now) _ _ _ c.in-Ok-Line.field-0-is c.in-Ok-Line.ensures.asked).usage

pub returns-in-Ok-Line-clause-words : goal.returns-in-Ok-Line-clause-words
returns-in-Ok-Line-clause-words g c = ends_with_usage false (map string_bytes c.args.words.now) _ _ (line_asked false (map string_bytes c.args.words.now) _ _ _ c.in-Ok-Line.field-0-is c.in-Ok-Line.ensures.asked).expected

pub ending_of_cases-requires-clause-lawful : goal.ending_of_cases-requires-clause-lawful
ending_of_cases-requires-clause-lawful g c = (cases_asked false (map string_bytes c.args.words.now) _ _ _ _ c.in-Ok-System.field-0-is c.in-Ok-System.ensures.asked).lawful

pub ending_of_cases-requires-clause-width : goal.ending_of_cases-requires-clause-width
ending_of_cases-requires-clause-width g c = (cases_asked false (map string_bytes c.args.words.now) _ _ _ _ c.in-Ok-System.field-0-is c.in-Ok-System.ensures.asked).width

pub returns-in-Ok-clause-expected : goal.returns-in-Ok-clause-expected
returns-in-Ok-clause-expected g c = cases_expected false (map string_bytes c.args.words.now) _ _ _ (cases_asked false (map string_bytes c.args.words.now) _ _ _ _ c.in-Ok-System.field-0-is c.in-Ok-System.ensures.asked) _ c.in-Ok.ensures

pub returns-in-Ok-clause-answered : goal.returns-in-Ok-clause-answered
returns-in-Ok-clause-answered g c = λ status. cases_answered false (map string_bytes c.args.words.now) _ _ _ (cases_asked false (map string_bytes c.args.words.now) _ _ _ _ c.in-Ok-System.field-0-is c.in-Ok-System.ensures.asked) _ c.in-Ok.ensures

pub returns-in-Ok-clause-usage : goal.returns-in-Ok-clause-usage
returns-in-Ok-clause-usage g c = λ e. absurd (cases_not_usage false (map string_bytes c.args.words.now) _ _ _ (cases_asked false (map string_bytes c.args.words.now) _ _ _ _ c.in-Ok-System.field-0-is c.in-Ok-System.ensures.asked) _ c.in-Ok.ensures e)

pub returns-in-Ok-clause-words : goal.returns-in-Ok-clause-words
returns-in-Ok-clause-words g c = λ none. absurd (are_of_command false (map string_bytes c.args.words.now) _ _ _ (cases_asked false (map string_bytes c.args.words.now) _ _ _ _ c.in-Ok-System.field-0-is c.in-Ok-System.ensures.asked) none)

pub returns-in-Ok-System-clause-leaves_fault : goal.returns-in-Ok-System-clause-leaves_fault
returns-in-Ok-System-clause-leaves_fault g c = λ status h. c.in-Ok-System.ensures.leaves status
