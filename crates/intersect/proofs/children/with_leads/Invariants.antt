-- The leads before the place were added.
use Rattle.std.proofs.Common.{◌≡◌, take}
use Rattle.impose_rules.specs.Leads.{with_all_nonzero}
use Rattle.intersect.proofs.children.with_leads.Given as goal

abbrev pub invariant-loop-i : goal.invariant-loop-i
invariant-loop-i l = l.all ≡ with_all_nonzero l.w.field l.fn.nonzero (take l.i l.leads)
