-- The first child's path is followed by those of the others.
use Rattle.collector.proofs.Branches.{down}
use Rattle.collector.proofs.branch.Branch.descend.Goals as goal

pub returns-clause-later : goal.returns-clause-later
returns-clause-later c =
    rw (c.push_reserved.ensures.items, c.push_reserved-2.ensures.items, ← c.self.view_is)
    (down c.self.inside.numbers.items c.self.inside.counts.items c.args.count c.self.invariant.1 c.requires.some)
