-- What was written so far: the first number, and then each of the others behind a point.
use Rattle.std.proofs.Common.{◌≡◌, ◌∷◌, ◌++◌, take}
use Rattle.std.specs.Fmt.{decimal}
use Rattle.std.specs.List.{flat_map}
use Rattle.std.specs.String.{string_bytes}
use Rattle.split_paths.proofs.path.Path.text.Given as goal

abbrev pub invariant-loop-number : goal.invariant-loop-number
invariant-loop-number l =
    string_bytes l.text
    ≡ string_bytes l.initial.text ++ flat_map (λ j. 46 ∷ decimal j) (take l.number-index l.others)
