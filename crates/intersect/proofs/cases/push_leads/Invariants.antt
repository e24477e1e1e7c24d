-- The cases so far, and those of the numbers to come, are all of them.
use Rattle.std.proofs.Common.{◌≡◌, ◌++◌, map, drop}
use Rattle.intersect.specs.declared.cases.Case.TheVariants.{Lead}
use Rattle.intersect.proofs.cases.push_leads.Given as goal

abbrev pub invariant-loop-i : goal.invariant-loop-i
invariant-loop-i l = l.cases ++ map Lead (drop l.i l.places) ≡ l.initial.cases ++ map Lead l.places
