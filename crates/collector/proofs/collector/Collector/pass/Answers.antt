-- The first that waits is at the cursor.
use Rattle.std.proofs.Common.{Some, ap, ◌∙◌}
use Rattle.collector.proofs.Passes.{pops, passes_split, split_has_kids, passes_gone, passes_chain, never_stops}
use Rattle.collector.proofs.collector.Collector.pass.Goals as goal

pub descend-requires-clause-some : goal.descend-requires-clause-some
descend-requires-clause-some g c =
    split_has_kids g.N.Named.events _ _ _ _ _ _ _ _
    (pops g.N.Named.events _ _ _ _ _ _ _ _ c.self.view_is c.requires.walk c.requires.here c.requires.met
    (c.in-Some.ensures.value ∙ ap Some c.in-Split.is) c.in-Some.ensures.least c.in-Some.ensures.updates.0)

pub returns-in-Split : goal.returns-in-Split
returns-in-Split g c =
    passes_split g.N.Named.events _ _ _ _ _ _ _ _ _ _
    (pops g.N.Named.events _ _ _ _ _ _ _ _ c.self.view_is c.requires.walk c.requires.here c.requires.met
    (c.in-Some.ensures.value ∙ ap Some c.in-Split.is) c.in-Some.ensures.least c.in-Some.ensures.updates.0)
    c.descend.ensures.later

pub returns-in-Gone : goal.returns-in-Gone
returns-in-Gone g c =
    passes_gone g.N.Named.events _ _ _ _ _ _ _
    (pops g.N.Named.events _ _ _ _ _ _ _ _ c.self.view_is c.requires.walk c.requires.here c.requires.met
    (c.in-Some.ensures.value ∙ ap Some c.in-Gone.is) c.in-Some.ensures.least c.in-Some.ensures.updates.0)

pub returns-in-Chain : goal.returns-in-Chain
returns-in-Chain g c =
    passes_chain g.N.Named.events _ _ _ _ _ _ _ _
    (pops g.N.Named.events _ _ _ _ _ _ _ _ c.self.view_is c.requires.walk c.requires.here c.requires.met
    (c.in-Some.ensures.value ∙ ap Some c.in-Chain.is) c.in-Some.ensures.least c.in-Some.ensures.updates.0)

pub unreachable-requires-in-Stop : goal.unreachable-requires-in-Stop
unreachable-requires-in-Stop g c =
    never_stops g.N.Named.events _ _ _ _ _ _ _ _
    (pops g.N.Named.events _ _ _ _ _ _ _ _ c.self.view_is c.requires.walk c.requires.here c.requires.met
    (c.in-Some.ensures.value ∙ ap Some c.in-Stop.is) c.in-Some.ensures.least c.in-Some.ensures.updates.0)
