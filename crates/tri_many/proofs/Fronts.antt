-- Texts that are written one after the other, and the last of them in part.
use Rattle.std.proofs.Common.{◌≡◌, ℕ, ◌+◌, ◌<◌, List, [], ◌++◌, length, take, Option, None, Some, refl, sym, subst, length-append, append-nil, arith}
use Rattle.std.proofs.Math.Seq.{take-add}
use Rattle.std.proofs.lemmas.List.{append_assoc, drop_at, take-append-le, take_at}
use Rattle.std.specs.Io.KnownBytes.{Appends}
use Rattle.tri_io.specs.Transfers.{AppendsPart}

-- nothing is written
pub nothing : (old : Option (List ℕ)) → Appends old old []
nothing None = tt
nothing (Some xs) = sym (append-nil xs)

-- one text behind the other
pub both : (old mid new : Option (List ℕ)) (front next : List ℕ) → Appends old mid front → Appends mid new next → Appends old new (front ++ next)
both None mid new front next first second = tt
both (Some xs) None new front next first second = absurd first
both (Some xs) (Some ys) None front next first second = absurd second
both (Some xs) (Some ys) (Some zs) front next first second = rw (second, first) (append_assoc xs front next)

-- a front, and a part of what stands behind it
take_behind : (n : ℕ) (front next : List ℕ) → take (length front + n) (front ++ next) ≡ front ++ take n next
take_behind n front next = rw (take-add (length front) n (front ++ next), take_at front next (length front) refl, drop_at front next (length front) refl) refl

-- a front of a longer text is a part of it
pub front_is_part : (old new : Option (List ℕ)) (front rest : List ℕ) → 0 < length rest → Appends old new front → AppendsPart old new (front ++ rest)
front_is_part old new front rest more appends =
    let longer = length-append front rest in
    (length front, omega (arith, more, longer), subst (λ xs. Appends old new xs) (sym (take_at front rest (length front) refl)) appends)

-- a part of a text is a part of a longer one
pub part_of_front : (old new : Option (List ℕ)) (front rest : List ℕ) → AppendsPart old new front → AppendsPart old new (front ++ rest)
part_of_front old new front rest (n, less, appends) =
    let longer = length-append front rest in
    (n, omega (arith, less, longer), subst (λ xs. Appends old new xs) (sym (take-append-le n front rest (omega (arith, less)))) appends)

-- behind a front it is a part of both
pub part_behind : (old mid new : Option (List ℕ)) (front next : List ℕ) → Appends old mid front → AppendsPart mid new next → AppendsPart old new (front ++ next)
part_behind old mid new front next first (n, less, appends) =
    let longer = length-append front next in
    (length front + n, omega (arith, less, longer), subst (λ xs. Appends old new xs) (sym (take_behind n front next)) (both old mid new front (take n next) first appends))
