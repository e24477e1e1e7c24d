-- The polynomials before the place are not 0.
use Rattle.std.proofs.Common.{◌≡◌, drop}
use Rattle.std.specs.List.{list_any}
use Rattle.polynomials.specs.Polynomials.{is_zero}
use Rattle.case_tree.proofs.root.has_zero.Given as goal

abbrev pub invariant-loop-i : goal.invariant-loop-i
invariant-loop-i l = list_any is_zero (drop l.i l.list) ≡ list_any is_zero l.list
