-- The numbers of a command are in their ranges.
use Rattle.std.proofs.Common.{◌≡◌, ℕ, ◌≤◌, Bool, true, false, List, Some, refl, sym, ◌∙◌, lit≤}
use Rattle.tri_io.specs.Commands.{Options, IsCommand, made_rule, rules_of, width_rule, workers_rule}
use Rattle.tri_io.proofs.KnownCommands.{number_in_range, rules_are}
use Rattle.solver_rules.specs.Ranges.{HasWidth}

pub command_has_width : (with_workers : Bool) (words : List (List ℕ)) (options : Options) → IsCommand with_workers words options → HasWidth options
command_has_width true words options command =
    number_in_range (rules_of true) words command.items width_rule options.width (rules_are true) command.lawful
    (2, width_rule, lit≤ tt, refl, refl) (lit≤ tt, lit≤ tt) command.width
command_has_width false words options command =
    number_in_range (rules_of false) words command.items width_rule options.width (rules_are false) command.lawful
    (1, width_rule, lit≤ tt, refl, refl) (lit≤ tt, lit≤ tt) command.width

-- few polynomials are made
pub command_makes_few : (with_workers : Bool) (words : List (List ℕ)) (options : Options) (k : ℕ) → IsCommand with_workers words options → options.made ≡ Some k → k ≤ 9000
command_makes_few true words options k command made =
    (number_in_range (rules_of true) words command.items made_rule k (rules_are true) command.lawful
    (3, made_rule, lit≤ tt, refl, refl) tt (sym made ∙ command.made)).1
command_makes_few false words options k command made =
    (number_in_range (rules_of false) words command.items made_rule k (rules_are false) command.lawful
    (2, made_rule, lit≤ tt, refl, refl) tt (sym made ∙ command.made)).1

-- from 1 to 16 workers
pub command_has_workers : (words : List (List ℕ)) (options : Options) → IsCommand true words options → (1 ≤ options.workers) × (options.workers ≤ 16)
command_has_workers words options command =
    number_in_range (rules_of true) words command.items workers_rule options.workers (rules_are true) command.lawful
    (0, workers_rule, lit≤ tt, refl, refl) (lit≤ tt, lit≤ tt) command.workers
