-- The last case is one, and so is each before it.
use Rattle.std.proofs.Common.{length, subst}
use Rattle.intersect.specs.Cases.{AreCasesOf}
use Rattle.intersect.proofs.CaseNumbers.{cases_split}
use Rattle.intersect.proofs.children.children_in.Goals as goal

pub children_of_copies-requires-clause-cases : goal.children_of_copies-requires-clause-cases
children_of_copies-requires-clause-cases c =
    (cases_split (length c.args.head.now.leads) c.take_last.new.self c.in-Some.last (subst (AreCasesOf (length c.args.head.now.leads)) c.in-Some.ensures.item c.requires.cases)).0

pub child_in-requires-clause-case : goal.child_in-requires-clause-case
child_in-requires-clause-case c =
    (cases_split (length c.args.head.now.leads) c.take_last.new.self c.in-Some.last (subst (AreCasesOf (length c.args.head.now.leads)) c.in-Some.ensures.item c.requires.cases)).1
