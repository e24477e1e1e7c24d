-- A program as those see it who run it: its words, and how a run is expected to end.
use Rattle.std.specs.Prelude.{◌≡◌, ◌⊎◌, ℕ, ltb, Bool, true, false, cond, List, [], length, Option, IfSome}
use Rattle.tri_io.specs.declared.input.Input.{Input}
use Rattle.tri_io.specs.declared.input.Input.TheVariants.{Whole, TooLong}

-- how a run ends: its status, and the text that is written with it
pub record Ending (S : Type 0) : Type 0 where
  pub status : S
  pub text : List ℕ

-- a program, with options of the kind O and statuses of the kind S
pub record Program (O S : Type 0) : Type 1 where
  -- the words are a command with these options
  pub IsCommand : List (List ℕ) → O → Type 0
  -- a command with these options reads an input
  pub reads : O → Bool
  -- how a command ends whose input has these bytes, where they aren't too many
  pub ending : O → List ℕ → Ending S
  -- how a command ends whose input has too many
  pub too_long : Ending S
  -- how a run ends whose words are no command
  pub usage : Ending S
  -- the statuses of a read that failed, of a write that failed, and of memory that ran out
  pub read_fault : S
  pub write_fault : S
  pub out_of_memory : S

-- the most bytes that an input may have
abbrev pub most_bytes : ℕ
most_bytes = 1048576

module _ {O S : Type 0} (program : Program O S) where
  -- how a command with these options ends, by the bytes of its input
  abbrev pub ending_of : O → List ℕ → Ending S
  ending_of options bytes =
      cond (ltb most_bytes (length bytes)) program.too_long (program.ending options bytes)

  -- how it ends by what was read of its input
  abbrev pub ending_of_input : O → Input → Ending S
  ending_of_input options (Whole bytes) = program.ending options bytes.items
  ending_of_input options TooLong = program.too_long

  -- the words are no command
  abbrev pub IsNoCommand : List (List ℕ) → Type 0
  IsNoCommand words = (options : O) → program.IsCommand words options → ⊥

  -- the words are a command that reads an input
  abbrev pub IsReader : List (List ℕ) → Type 0
  IsReader words = (options : O) × program.IsCommand words options × (program.reads options ≡ true)

-- the bytes are the input of a command: where it reads one, what its source tells, if that tells
-- them; and none where it reads none
abbrev pub IsInput : Bool → Option (List ℕ) → List ℕ → Type 0
IsInput true told bytes = IfSome told (λ left. left ≡ bytes)
IsInput false told bytes = bytes ≡ []

-- the words are a command, and this is how it ends
pub record IsCommandEnding {O S : Type 0} (program : Program O S)
    (words : List (List ℕ)) (told : Option (List ℕ)) (ending : Ending S) : Type 0 where
  pub options : O
  pub command : program.IsCommand words options
  pub bytes : List ℕ
  pub input : IsInput (program.reads options) told bytes
  pub same : ending ≡ ending_of program options bytes

-- this is how a run with these words is expected to end, where its source tells these bytes
abbrev pub IsExpected : {O S : Type 0} → Program O S
    → List (List ℕ) → Option (List ℕ) → Ending S → Type 0
IsExpected program words told ending =
    IsCommandEnding program words told ending
    ⊎ (IsNoCommand program words × (ending ≡ program.usage))
