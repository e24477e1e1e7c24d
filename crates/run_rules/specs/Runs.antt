-- What a run does to its source and to its sink, and with which status it ends.
use Rattle.std.specs.Prelude.{◌≡◌, ◌≢◌, ◌⊎◌, ℕ, ◌+◌, ◌≤◌, List, [], drop, Option, Some}
use Rattle.std.specs.Io.KnownBytes.{Appends}
use Rattle.tri_io.specs.Transfers.{AppendsPart}
use Rattle.run_rules.specs.Programs.{Ending, Program, IsExpected, IsReader, most_bytes}

-- a run of the program with these words, whose source tells these bytes at the start; `old` and
-- `new` are what its sink tells at the start and at the end
module _ {O S : Type 0} (program : Program O S)
    (words : List (List ℕ)) (told : Option (List ℕ)) where
  -- the status is expected, and the text that goes with it was written whole
  abbrev pub WritesWhole : Option (List ℕ) → Option (List ℕ) → S → Type 0
  WritesWhole old new status =
      (text : List ℕ)
      × IsExpected program words told (record { status = status; text = text })
      × Appends old new text

  -- a front of the text that is expected was written, and not all of it
  abbrev pub WritesPart : Option (List ℕ) → Option (List ℕ) → Type 0
  WritesPart old new =
      (ending : Ending S) × IsExpected program words told ending × AppendsPart old new ending.text

  -- a read failed: a fault of the source was counted, and nothing is written
  abbrev pub EndsAtRead : Type 0 → Option (List ℕ) → Option (List ℕ) → S → Type 0
  EndsAtRead source_rose old new status =
      (status ≡ program.read_fault) × IsReader program words × source_rose × Appends old new []

  -- a write failed: a fault of the sink was counted, and a part of the text is written
  abbrev pub EndsAtWrite : Type 0 → Option (List ℕ) → Option (List ℕ) → S → Type 0
  EndsAtWrite sink_rose old new status =
      (status ≡ program.write_fault) × sink_rose × WritesPart old new

  -- there was no memory, and nothing or a part is written
  abbrev pub EndsWithoutMemory : Option (List ℕ) → Option (List ℕ) → S → Type 0
  EndsWithoutMemory old new status =
      (status ≡ program.out_of_memory) × (Appends old new [] ⊎ WritesPart old new)

  -- a run ends in one of these four ways, where a fault of its source and of its sink was counted
  -- or not
  abbrev pub Ends : Type 0 → Type 0 → Option (List ℕ) → Option (List ℕ) → S → Type 0
  Ends source_rose sink_rose old new status =
      WritesWhole old new status
      ⊎ (EndsAtRead source_rose old new status
      ⊎ (EndsAtWrite sink_rose old new status
      ⊎ EndsWithoutMemory old new status))

-- an ending was written whole, and its status is given; or a write failed, a fault of the sink was
-- counted, and a part of its text was written
abbrev pub Writes : {O S : Type 0} → Program O S
    → Ending S → Type 0 → Option (List ℕ) → Option (List ℕ) → S → Type 0
Writes program ending sink_rose old new status =
    ((status ≡ ending.status) × Appends old new ending.text)
    ⊎ ((status ≡ program.write_fault) × sink_rose × AppendsPart old new ending.text)

-- at most one byte more was read than an input may have
abbrev pub LeavesEnd : List ℕ → Option (List ℕ) → Type 0
LeavesEnd bytes left = (n : ℕ) × (n ≤ most_bytes + 1) × (left ≡ Some (drop n bytes))

-- what a run leaves of the bytes that its source tells
pub record Leaves {O S : Type 0} (program : Program O S)
    (words : List (List ℕ)) (bytes : List ℕ) (left : Option (List ℕ)) (status : S) : Type 0 where
  -- all of them, where the words are no command that reads an input
  pub unread : (IsReader program words → ⊥) → left ≡ Some bytes
  -- where they are one, and the input could be read: nothing, or what stands behind one byte more
  -- than an input may have
  pub read : IsReader program words → status ≢ program.read_fault → status ≢ program.out_of_memory
      → left ≡ Some (drop (most_bytes + 1) bytes)
  -- and in each case an end of them
  pub ends : LeavesEnd bytes left
