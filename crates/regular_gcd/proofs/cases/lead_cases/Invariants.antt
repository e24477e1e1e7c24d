-- The cases so far, and those of the leads to come, are all cases.
use Rattle.std.proofs.Common.{◌≡◌, ◌+◌, ◌++◌, drop}
use Rattle.impose_rules.specs.Leads.{unknown_from, lead_cases}
use Rattle.regular_gcd.proofs.cases.lead_cases.Given as goal

abbrev pub invariant-loop-i : goal.invariant-loop-i
invariant-loop-i l = lead_cases l.f l.nonzero l.leads ≡ l.places ++ unknown_from l.f (l.nonzero ++ l.added) (l.i + 1) (drop l.i l.leads)
