-- No path that waits is before the cursor, so the first that waits is at it, if any is.
use Rattle.std.proofs.Common.{◌≡◌, None, sym, ◌∙◌, subst}
use Rattle.collector.specs.declared.met.Position.TheVariants.{Here}
use Rattle.collector.specs.Notes.{Notes, IsCollector, IsWalk, waits_at}
use Rattle.collector.proofs.PathOrder.{not_both}
use Rattle.collector.proofs.Walks.{absent_here}
use Rattle.collector.proofs.collector.Collector.met_here.Goals as goal

pub returns-else-is_at : goal.returns-else-is_at
unfolding IsCollector
returns-else-is_at g c =
    subst
    (λ (now : Notes _). None ≡ waits_at now.waiting now.cursor)
    c.self.view_is
    (sym
    (absent_here g.N.Named.events _ c.in_ok-path.path.now c.in_ok-path.met.now
    (subst (λ (now : Notes _). IsWalk g.N.Named.events now) (sym c.self.view_is) c.requires.walk)
    (subst (λ (now : Notes _). now.position ≡ Here) (sym c.self.view_is) c.requires.here)
    c.in_ok-path.ensures.value c.in_ok-path.ensures.least
    (λ same. not_both _ (c.is_at.ensures.1 (same ∙ sym c.numbers.ensures.path)) c.if-is_at.false)))
