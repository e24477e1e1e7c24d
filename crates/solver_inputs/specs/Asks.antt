-- What was found to be asked.
use Rattle.std.specs.Prelude.{ℕ, Bool, List, Option}
use Rattle.solver_rules.specs.Asked.{IsLine, AreCases}
use Rattle.solver_inputs.specs.declared.asked.Asked.{Asked}
use Rattle.solver_inputs.specs.declared.asked.Asked.TheVariants.{Line, System}

-- this is asked by the words, where the source tells this
abbrev pub IsAsked : Bool → List (List ℕ) → Option (List ℕ) → Asked → Type 0
IsAsked with_workers words told (Line ending) = IsLine with_workers words told ending
IsAsked with_workers words told (System options cases) =
    AreCases with_workers words told options cases
