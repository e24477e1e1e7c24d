-- What a transfer does to the bytes left at a source and taken by a sink, where they are told.
use Rattle.std.specs.Prelude.{◌≡◌, ℕ, ◌+◌, ◌<◌, ◌≤◌, List, length, take, Option, Result, Ok, Err}
use Rattle.std.specs.Io.KnownBytes.{Appends, Consumes, IsAtEnd}
use Rattle.tri_io.specs.declared.input.Input.{Input}
use Rattle.tri_io.specs.declared.input.Input.TheVariants.{Whole, TooLong}
use Rattle.tri_io.specs.declared.input.ReadFail.{ReadFail}

-- the bytes taken grow by a front of `bytes` that isn't all of them
abbrev pub AppendsPart : Option (List ℕ) → Option (List ℕ) → List ℕ → Type 0
AppendsPart old new bytes = (n : ℕ) × (n < length bytes) × Appends old new (take n bytes)

-- all bytes up to the end, at most `most`; or one more was read; or at most `most` are gone
abbrev pub ReadsAll : ℕ → Option (List ℕ) → Option (List ℕ) → Result Input ReadFail → Type 0
ReadsAll most old new (Ok (Whole bytes)) =
    (length bytes.items ≤ most) × Consumes old new bytes.items × IsAtEnd new
ReadsAll most old new (Ok TooLong) =
    (bytes : List ℕ) × (length bytes ≡ most + 1) × Consumes old new bytes
ReadsAll most old new (Err fail) =
    (bytes : List ℕ) × (length bytes ≤ most) × Consumes old new bytes
