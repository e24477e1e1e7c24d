-- Known bytes over two steps.
use Rattle.std.proofs.Common.{◌≡◌, ℕ, ◌+◌, ◌<◌, ◌≤◌, min, List, [], ◌++◌, length, take, drop, sym, arith}
use Rattle.std.specs.Prelude.{Option, None, Some, Result, Ok, Err, IsErr}
use Rattle.std.proofs.Math.Seq.{take-add}
use Rattle.std.proofs.lemmas.List.{append_assoc, drop-drop, drop_all, length-drop, length-take-le, take-append-drop, take_at}
use Rattle.std.specs.Io.KnownBytes.{Appends, Consumes}
use Rattle.tri_io.specs.Transfers.{ReadsAll}
use Rattle.tri_io.specs.declared.input.Input.{Input}
use Rattle.tri_io.specs.declared.input.ReadFail.{ReadFail}

-- bytes that are taken in two steps: the first n, and then m of the rest
pub Appends-take : (old mid new : Option (List ℕ)) (bytes : List ℕ) (n m : ℕ)
    → Appends old mid (take n bytes) → Appends mid new (take m (drop n bytes)) → Appends old new (take (n + m) bytes)
Appends-take None mid new bytes n m first second = tt
Appends-take (Some xs) None new bytes n m first second = absurd first
Appends-take (Some xs) (Some ys) None bytes n m first second = absurd second
Appends-take (Some xs) (Some ys) (Some zs) bytes n m first second =
    rw (second, first, take-add n m bytes) (append_assoc xs (take n bytes) (take m (drop n bytes)))

-- bytes that are read in two steps
pub Consumes-append : (old mid new : Option (List ℕ)) (front next : List ℕ)
    → Consumes old mid front → Consumes mid new next → Consumes old new (front ++ next)
Consumes-append None mid new front next first second = tt
Consumes-append (Some xs) None new front next first second = absurd first
Consumes-append (Some xs) (Some ys) None front next first second = absurd second
Consumes-append (Some xs) (Some ys) (Some zs) front next first second =
    rw (first, second) (sym (append_assoc front next zs))

-- bytes that were copied to the front of a buffer, and what stands behind them at their source
pub given-then-left : (bytes given buf : List ℕ) (next count : ℕ) → count ≤ length (drop next bytes)
    → given ≡ take count (drop next bytes)
    → drop next bytes ≡ take count (given ++ drop count buf) ++ drop (next + count) bytes
given-then-left bytes given buf next count within given_is =
    let size : length given ≡ count = rw given_is (length-take-le count (drop next bytes) within) in
    rw (take_at given (drop count buf) count size, given_is, ← drop-drop count next bytes)
    (sym (take-append-drop count (drop next bytes)))

-- whatever the error is, what was read before it is gone
pub ReadsAll-err : (most : ℕ) (old new : Option (List ℕ)) (result : Result Input ReadFail) (bytes : List ℕ)
    → IsErr result → length bytes ≤ most → Consumes old new bytes → ReadsAll most old new result
ReadsAll-err most old new (Ok input) bytes failed within consumed = cc
ReadsAll-err most old new (Err fail) bytes failed within consumed = (bytes, within, consumed)

-- where nothing is given though there is room for something, nothing is left
pub nothing-left : (bytes : List ℕ) (next count room : ℕ) → 0 < room → count ≡ min room (length (drop next bytes))
    → count ≡ 0 → drop (next + count) bytes ≡ []
nothing-left bytes next count room some count_is none =
    drop_all (next + count) bytes (omega (arith, length-drop next bytes, count_is, none, some))
