-- The entries so far and those to come are all.
use Rattle.std.proofs.Common.{◌≡◌, length, drop}
use Rattle.division_rules.specs.Within.{cross_all_within}
use Rattle.pseudo_division.specs.FieldOperations.{operations}
use Rattle.pseudo_division.proofs.Lists.{IsMade}
use Rattle.pseudo_division.proofs.products.cross_all.Given as goal

abbrev pub invariant-loop-i : goal.invariant-loop-i
invariant-loop-i l =
    IsMade (cross_all_within (operations l.fn.w.field) l.fn.w.width l.fn.l l.fn.m l.left l.right) l.entries (cross_all_within (operations l.fn.w.field) l.fn.w.width l.fn.l l.fn.m (drop l.i l.left) (drop l.i l.right))
    × (length l.entries ≡ l.i)
