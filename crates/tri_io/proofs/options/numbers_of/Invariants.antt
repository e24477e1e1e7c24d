-- The numbers so far, each one that its option takes.
use Rattle.std.proofs.Common.{◌≡◌, ℕ, ◌<◌, map, take, get_or, IfSome}
use Rattle.clap.specs.Words.{first_value, found_of}
use Rattle.tri_io.specs.Commands.{Rule, IsNumberOf}
use Rattle.tri_io.proofs.Chosen.{number_by}
use Rattle.tri_io.proofs.options.numbers_of.Given as goal

abbrev pub invariant-loop-option : goal.invariant-loop-option
invariant-loop-option l =
    (l.numbers.items ≡ map (number_by (first_value (found_of l.matches))) (take l.option-index l.options))
    × ((k : ℕ) (d : Rule) → k < l.option-index → IfSome (first_value (found_of l.matches) (get_or l.options k d).name) (IsNumberOf (get_or l.options k d)))
