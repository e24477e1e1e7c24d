-- The rank of each child is less.
use Rattle.case_tree.proofs.Ranks.{lowered_if_made}
use Rattle.case_tree.proofs.cases.CasesSplitter.expand.Goals as goal

pub returns-clause-rank : goal.returns-clause-rank
returns-clause-rank c = lowered_if_made c.args.self.now c.args.task c.step.result c.requires c.step.ensures
