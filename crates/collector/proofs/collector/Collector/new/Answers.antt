-- A walk begins at the root.
use Rattle.std.proofs.Common.{refl}
use Rattle.collector.proofs.Ends.{begins_from, begins_whole_from, begins_empty_from}
use Rattle.collector.proofs.collector.Collector.new.Goals as goal

pub returns-clause-walk : goal.returns-clause-walk
returns-clause-walk g c =
    begins_from g.N.Named.events g.N.Named.offers c.requires _ c.new.ensures.empty c.root.ensures.path c.root.ensures.later refl

pub returns-clause-whole : goal.returns-clause-whole
returns-clause-whole g c =
    begins_whole_from g.N.Named.events g.N.Named.offers c.requires _ c.new.ensures.empty c.root.ensures.path c.root.ensures.later refl

pub returns-clause-none : goal.returns-clause-none
returns-clause-none g c =
    begins_empty_from g.N.Named.events _ c.new.ensures.empty c.root.ensures.path c.root.ensures.later refl
