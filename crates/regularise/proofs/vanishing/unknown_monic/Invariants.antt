-- The leads before the place that aren't known are taken.
use Rattle.std.proofs.Common.{◌≡◌, ◌++◌, drop}
use Rattle.finish_rules.specs.Turns.{unknown_monic}
use Rattle.regularise.proofs.vanishing.unknown_monic.Given as goal

abbrev pub invariant-loop-i : goal.invariant-loop-i
invariant-loop-i l = l.list ++ unknown_monic l.f l.nonzero (drop l.i l.leads) ≡ unknown_monic l.f l.nonzero l.leads
