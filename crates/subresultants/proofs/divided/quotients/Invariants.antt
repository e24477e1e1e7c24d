-- The quotients so far and those to come are all.
use Rattle.std.proofs.Common.{drop}
use Rattle.division_rules.specs.RemainderRows.{quotients}
use Rattle.pseudo_division.proofs.Lists.{IsMade}
use Rattle.pseudo_division.specs.FieldOperations.{operations}
use Rattle.subresultants.proofs.divided.quotients.Given as goal

abbrev pub invariant-loop-i : goal.invariant-loop-i
invariant-loop-i l = IsMade (quotients (operations l.fn.w.field) l.fn.w.width l.fn.b l.list) l.entries (quotients (operations l.fn.w.field) l.fn.w.width l.fn.b (drop l.i l.list))
