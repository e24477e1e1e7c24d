-- What a write took stands behind what was taken before.
use Rattle.std.proofs.Common.{arith, ◌∙◌}
use Rattle.std.proofs.lemmas.List.{length-drop, take_rest}
use Rattle.tri_io.proofs.Bytes.{Appends-take}
use Rattle.tri_io.proofs.output.write_all.Goals as goal

pub loop-done-preserved : goal.loop-done-preserved
loop-done-preserved g c =
    let rest = take_rest c.args.bytes.now c.loop-done.done in
    let within = rw (rest, length-drop c.loop-done.done c.args.bytes.now) at c.in_ok-done.ensures.bound in
    let taken = rw rest at c.in_ok-done.ensures.bytes in
    let not_done = c.loop-done-test.true in (
      omega (arith, not_done, within),
      Appends-take _ _ _ c.args.bytes.now _ _ c.loop-done.invariant.1 taken,
      c.in_ok-done.ensures.kept ∙ c.loop-done.invariant.2,
      -- of an empty list no write is made
      λ empty. let none = rw empty at not_done in absurd (omega (arith, none)),
    )
