use Rattle.collector.proofs.tests.+push_brush.Given as goal

abbrev pub decreases-push_brush : goal.decreases-push_brush
decreases-push_brush l = l.n
