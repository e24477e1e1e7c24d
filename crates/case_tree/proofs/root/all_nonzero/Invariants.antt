-- The polynomials so far, and what is left of the list.
use Rattle.std.proofs.Common.{◌≡◌, [], drop}
use Rattle.impose_rules.specs.Leads.{with_all_nonzero}
use Rattle.case_tree.proofs.root.all_nonzero.Given as goal

abbrev pub invariant-loop-i : goal.invariant-loop-i
invariant-loop-i l = with_all_nonzero l.field l.all (drop l.i l.list) ≡ with_all_nonzero l.field [] l.list
