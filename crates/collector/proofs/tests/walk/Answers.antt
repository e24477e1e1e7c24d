-- At first all events of the tree are left.
use Rattle.std.proofs.Common.{All, subst, sym}
use Rattle.split_paths.specs.Key.{IsTrueEvent}
use Rattle.collector.proofs.Samples.{each_its_own}
use Rattle.collector.proofs.tests.walk.Goals as goal

pub loop-k-init : goal.loop-k-init
loop-k-init g c =
    record {
      walk = c.new-collector.ensures.walk;
      events = subst (All (IsTrueEvent g.N.Named.events)) (sym c.requires.events) (each_its_own g.N.Named.events);
    }
