-- The cases are those of the leads.
use Rattle.std.proofs.Common.{length, sym, subst}
use Rattle.intersect.specs.Cases.{AreCasesOf}
use Rattle.intersect.proofs.CaseNumbers.{rows_have_cases}
use Rattle.intersect.proofs.rows.children_after_rows.Goals as goal

pub children_in-requires-clause-cases : goal.children_in-requires-clause-cases
children_in-requires-clause-cases c = subst (AreCasesOf (length c.args.rows.leads)) (sym c.in_ok-cases.ensures) (rows_have_cases c.args.w.now.field c.args.w.now.width c.left.inside.nonzero c.args.rows c.args.is_common)
