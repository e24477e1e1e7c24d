-- The root is the task of the system, so it is lawful and has the solutions.
use Rattle.case_tree.proofs.Roots.{roots_are_lawful, roots_have_solutions}
use Rattle.case_tree.proofs.cases.Cases.root.Goals as goal

pub returns-clause-lawful : goal.returns-clause-lawful
returns-clause-lawful c = roots_are_lawful c.self.view_is c.self.invariant c.root_of.result c.root_of.ensures

pub returns-clause-solutions : goal.returns-clause-solutions
returns-clause-solutions c = roots_have_solutions c.self.view_is c.self.invariant c.root_of.result c.root_of.ensures
