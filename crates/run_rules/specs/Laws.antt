-- The law of runs: each has one ending that is expected.
use Rattle.std.specs.Prelude.{◌≡◌, ℕ, List, Some}
use Rattle.run_rules.specs.Programs.{Ending, Program, IsExpected}

-- no words are two commands of the program
abbrev pub HasKnownCommands : {O S : Type 0} → Program O S → Type 0
HasKnownCommands {O = O} program =
    (words : List (List ℕ)) (a b : O)
    → program.IsCommand words a → program.IsCommand words b → a ≡ b

-- of words and the bytes of an input the program has one ending
abbrev pub HasKnownEndings : {O S : Type 0} → Program O S → Type 0
HasKnownEndings {S = S} program =
    (words : List (List ℕ)) (bytes : List ℕ) (a b : Ending S)
    → IsExpected program words (Some bytes) a → IsExpected program words (Some bytes) b → a ≡ b
