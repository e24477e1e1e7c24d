-- The last workers have their jobs.
use Rattle.std.proofs.Common.{◌≡◌, ◌++◌, List, length}
use Rattle.std.specs.Arc.{arc_value}
use Rattle.work_pool.specs.Homes.{HomeView}
use Rattle.work_pool.specs.Seats.{AreJobs}
use Rattle.work_pool.proofs.setup.jobs_of.Given as goal

abbrev pub invariant-loop-desk : goal.invariant-loop-desk
invariant-loop-desk g l =
    (gone : List (HomeView _ _)) × (l.fn.desks ≡ l.desks ++ gone)
    × AreJobs (arc_value l.splitter) (arc_value l.hub).name gone l.jobs

abbrev pub decreases-loop-desk : goal.decreases-loop-desk
decreases-loop-desk g l = length l.desks
