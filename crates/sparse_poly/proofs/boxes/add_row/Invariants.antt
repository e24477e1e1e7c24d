-- The products so far are in their sums, and the others are to come.
use Rattle.std.proofs.Common.{◌++◌, map}
use Rattle.mono_words.specs.declared.mono.TheConstants.{VARS}
use Rattle.polynomials.specs.Polynomials.{term_product}
use Rattle.sparse_poly.specs.Boxes.{boxed}
use Rattle.sparse_poly.proofs.BoxRows.{AreAdded}
use Rattle.sparse_poly.proofs.boxes.add_row.Given as goal

abbrev pub invariant-loop-j : goal.invariant-loop-j
invariant-loop-j l =
    AreAdded l.fn.f VARS l.sides l.long l.i l.t
    (boxed VARS l.sides 0 l.initial.sums ++ map (term_product l.t) l.long) l.j l.sums
