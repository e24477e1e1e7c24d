use Rattle.std.proofs.Common.{◌≡◌, sym, subst}
use Rattle.work_pool.specs.Jobs.{HandsHome, IsReady}
use Rattle.work_pool.proofs.Running.{last_ready, can_run_less, has_run_more}
use Rattle.work_pool.proofs.start.+run_all.Goals.{in-Ok, in-Err}
use Rattle.work_pool.proofs.start.+run_all.Goals as goal

pub spawn_with-started-requires-clause-runs : goal.spawn_with-started-requires-clause-runs
spawn_with-started-requires-clause-runs g t c κs within =
    last_ready g.X.Splitter.step g.X.Splitter.lawful_task g.N.Named.events g.N.Named.offers g.K.Taker.takes g.K.Taker.fails g.K.Taker.may
    _ _ _ _ c.in-Some.job _ _ _ _ c.requires c.in-Some.ensures.item

pub run_all-ready-requires-after_bounds : goal.run_all-ready-requires-after_bounds
run_all-ready-requires-after_bounds g t c κs within =
    can_run_less g.X.Splitter.step g.X.Splitter.lawful_task g.N.Named.events g.N.Named.offers g.K.Taker.takes g.K.Taker.fails g.K.Taker.may
    _ _ _ _ c.in-Some.job _ _ _ _ c.requires c.in-Some.ensures.item

pub spawn_with-home-requires : goal.spawn_with-home-requires
spawn_with-home-requires g t c κs within = (
  within.0,
  (
    within.1.0,
    (
      within.1.1.0,
      (
        within.1.1.1.0,
        (
          within.1.1.1.1,
          subst (λ f. IsReady g.X.Splitter.step g.N.Named.events g.N.Named.offers g.X.Splitter.lawful_task f.0) (sym c.in-Err.ensures.err)
              (last_ready g.X.Splitter.step g.X.Splitter.lawful_task g.N.Named.events g.N.Named.offers g.K.Taker.takes g.K.Taker.fails g.K.Taker.may
              _ _ _ _ c.in-Some.job _ _ _ _ c.requires c.in-Some.ensures.item),
        ),
      ),
    ),
  ),
)

pub returns : goal.returns
returns g t c =
    has_run_more g.X.Splitter.step g.X.Splitter.lawful_task g.N.Named.events g.N.Named.offers g.K.Taker.takes g.K.Taker.fails g.K.Taker.may
    c.args.splitter.now c.args.hub.now.name c.args.jobs c.take_last.new.self c.in-Some.job c.args.desk c.args.drain.now c.args.collector.now
    c.args.each.now c.run_all-ready.new.drain c.run_all-ready.new.collector c.run_all-ready.new.each c.run_all-ready.result.0
    c.run_all-ready.result.1 c.with_next.result c.match-started.home c.requires c.run_all-ready.ensures c.in-Some.ensures.item
    (elim c.match-started.branch [
      | in-Ok w ↦
          subst (HandsHome g.X.Splitter.step g.N.Named.events g.N.Named.offers c.in-Some.job) (sym w.home-is)
          (subst (λ v. HandsHome g.X.Splitter.step g.N.Named.events g.N.Named.offers v w.join-home.result) c.of.ensures
          (subst (λ p. HandsHome g.X.Splitter.step g.N.Named.events g.N.Named.offers p.0.value w.join-home.result) w.in-Ok.ensures.ok
          w.join-home.ensures))
      | in-Err w ↦
          subst (HandsHome g.X.Splitter.step g.N.Named.events g.N.Named.offers c.in-Some.job) (sym w.home-is)
          (subst (λ f. HandsHome g.X.Splitter.step g.N.Named.events g.N.Named.offers f.0 w.spawn_with-home.result) w.in-Err.ensures.err
          w.spawn_with-home.ensures)
    ])
    c.with_next.ensures
