use Rattle.std.proofs.Common.{◌≡◌, ◌++◌, ◌∷◌, [], List, sym, ap, ◌∙◌, subst, append-nil, append_assoc}
use Rattle.std.specs.Arc.{arc_value}
use Rattle.work_pool.specs.Homes.{HomeView}
use Rattle.work_pool.specs.Jobs.{JobView}
use Rattle.work_pool.specs.Seats.{AreJobs}
use Rattle.work_pool.proofs.setup.jobs_of.Goals as goal

pub loop-desk-init : goal.loop-desk-init
loop-desk-init g c = (
  [],
  sym (append-nil c.args.desks),
  subst (λ js. AreJobs (arc_value c.args.splitter.now) (arc_value c.args.hub.now).name [] js) (sym c.new-jobs.ensures) tt,
)

pub loop-desk-preserved : goal.loop-desk-preserved
loop-desk-preserved g c =
    let before = c.loop-desk.invariant in (
      c.in-Some.desk ∷ before.0,
      before.1 ∙ (ap (λ (ds : List (HomeView _ _)). ds ++ before.0) c.in-Some.ensures.item
          ∙ append_assoc c.take_last.new.self (c.in-Some.desk ∷ []) before.0),
      subst (λ js. AreJobs (arc_value c.args.splitter.now) (arc_value c.args.hub.now).name (c.in-Some.desk ∷ before.0) js)
          (sym c.in_ok-push_front.ensures.ok)
          (c.in-Ok.ensures.splitter, c.in-Ok.ensures.hub, c.in-Ok.ensures.desk, before.2),
    )
