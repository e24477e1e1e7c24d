-- The bytes given are those that stood next.
use Rattle.std.proofs.Common.{◌≤◌, ◌<◌, length, drop, arith}
use Rattle.std.proofs.lemmas.List.{length-append, length-drop, length-take, take_rest}
use Rattle.tri_io.proofs.Bytes.{given-then-left, nothing-left}
use Rattle.tri_io.proofs.mem_source.MemSourceSource.read.Goals as goal

pub returns-clause-bytes : goal.returns-clause-bytes
returns-clause-bytes c =
    let bytes = c.self.inside.bytes.items in
    let next = c.self.inside.next in
    let count = c.min-count.result in
    let rest = take_rest bytes next in
    let count_is = rw (c.deref-2.ensures.value, rest) at c.min-count.ensures in
    let given_is = rw (c.deref-2.ensures.value, rest) at c.copy_from_slice.ensures.after in
    let within : count ≤ length (drop next bytes) = omega (arith, count_is) in (
      rw (← c.self.view_is) (given-then-left bytes _ c.args.buf.now next count within given_is),
      λ none some.
          let room : 0 < c.min.result =
          omega (
            arith,
            none,
            some,
            c.min.ensures,
            c.self.invariant.0,
            c.copy_from_slice.ensures.len,
            length-append c.copy_from_slice.new.self (drop count c.args.buf.now),
            length-drop count c.args.buf.now,
            length-take count c.args.buf.now,
          ) in
          nothing-left bytes next count c.min.result room count_is none,
    )
