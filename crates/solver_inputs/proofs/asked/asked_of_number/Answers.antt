-- What is asked of a system that is made.
use Rattle.std.proofs.Common.{rules, ℕ, ◌≤◌, map, string_bytes, ap, sym, subst, ◌∙◌}
use Rattle.mono_words.specs.declared.mono.TheConstants.{VARS}
use Rattle.system_text.specs.Laws.{IsSystem}
use Rattle.tri_io.specs.Commands.{Options}
use Rattle.case_tree.specs.Systems.{IsSolvable}
use Rattle.solver_rules.proofs.Made.{reads_none}
use Rattle.solver_rules.proofs.Ranges.{command_has_width, command_makes_few}
use Rattle.solver_inputs.proofs.Asks.{made_asked}
use Rattle.solver_inputs.proofs.asked.asked_of_number.Goals as goal

pub made-requires : goal.made-requires
made-requires c = command_makes_few c.args.with_workers _ c.args.command c.args.k c.requires.command c.requires.made

pub new-cases-requires-clause-some : goal.new-cases-requires-clause-some
new-cases-requires-clause-some c = subst (λ (o : Options). 1 ≤ o.width) (sym c.command.view_is) (command_has_width c.args.with_workers _ c.args.command c.requires.command).0

pub new-cases-requires-clause-most : goal.new-cases-requires-clause-most
new-cases-requires-clause-most c = subst (λ (o : Options). o.width ≤ 1000000) (sym c.command.view_is) (command_has_width c.args.with_workers _ c.args.command c.requires.command).1

-- what was made can be solved
solvable : (c : goal.After-new-cases) → IsSolvable c.new-cases.result.system
solvable c = search rules

pub returns-in-Ok-clause-asked : goal.returns-in-Ok-clause-asked
returns-in-Ok-clause-asked c told = made_asked c.args.with_workers (map string_bytes c.args.words.now) told c.args.command c.args.k _ c.requires.command c.requires.made (c.new-cases.ensures.system ∙ c.in-Ok.ensures.value) (c.new-cases.ensures.width ∙ ap (λ (o : Options). o.width) c.command.view_is) (subst (IsSystem VARS) (sym c.new-cases.ensures.system) c.in-Ok.ensures.lawful) (solvable c)

pub returns-in-Ok-clause-unread : goal.returns-in-Ok-clause-unread
returns-in-Ok-clause-unread c = reads_none c.args.with_workers (map string_bytes c.args.words.now) c.args.command c.requires.command c.args.k c.requires.made

pub returns-in-Err-clause-unread : goal.returns-in-Err-clause-unread
returns-in-Err-clause-unread c = reads_none c.args.with_workers (map string_bytes c.args.words.now) c.args.command c.requires.command c.args.k c.requires.made
