-- What a read gave stands behind what was read before, and is gone from the source.
use Rattle.std.proofs.Common.{◌≡◌, ◌++◌, length, take, arith}
use Rattle.std.proofs.lemmas.List.{length-append, length-take, length-take-le}
use Rattle.tri_io.proofs.Bytes.{Consumes-append, ReadsAll-err}
use Rattle.tri_io.proofs.input.read_all.Goals as goal

-- no read asks for more than the one byte past `most`
pub returns-then-len-count-clause-bytes : goal.returns-then-len-count-clause-bytes
returns-then-len-count-clause-bytes g c =
    let given = take c.in-Ok.count c.read.new.buf in
    let size : length given ≡ c.in-Ok.count = length-take-le c.in-Ok.count c.read.new.buf c.in-Ok.ensures.bound in (
      c.loop-bytes.bytes.items ++ given,
      rw (length-append c.loop-bytes.bytes.items given, size)
          (omega (
            arith,
            c.if-len-count.true,
            c.len-in-loop-bytes.ensures,
            c.len.ensures,
            c.min-wanted.ensures,
            c.loop-bytes.invariant.0,
            c.in-Ok.ensures.bound,
            c.read.auto.buf,
            c.min-wanted.array_long,
            length-take c.min-wanted.result c.loop-bytes.buf,
          )),
      Consumes-append _ _ _ _ _ c.loop-bytes.invariant.1 c.in-Ok.ensures.bytes.0,
    )

pub returns-in_err-map_err-clause-bytes : goal.returns-in_err-map_err-clause-bytes
returns-in_err-map_err-clause-bytes g c =
    let given = take c.in-Ok.count c.read.new.buf in
    let size : length given ≡ c.in-Ok.count = length-take-le c.in-Ok.count c.read.new.buf c.in-Ok.ensures.bound in
    ReadsAll-err _ _ _ _ (c.loop-bytes.bytes.items ++ given) c.from_residual.ensures.0
    (rw (length-append c.loop-bytes.bytes.items given, size) (omega (arith, c.if-len-count.false, c.len-in-loop-bytes.ensures)))
    (Consumes-append _ _ _ _ _ c.loop-bytes.invariant.1 c.in-Ok.ensures.bytes.0)
