use Rattle.std.proofs.Common.{◌≡◌, ◌∙◌}
use Rattle.work_pool.proofs.Begun.{are_home, lanes_counted}
use Rattle.work_pool.proofs.Leading.{ended_took, ended_end, ended_cut}
use Rattle.work_pool.proofs.Fresh.{fresh, fresh_runs}
use Rattle.work_pool.proofs.Running.{did_run}
use Rattle.work_pool.proofs.pool.run_jobs.Goals as goal

pub run_all-ready-requires-after_bounds : goal.run_all-ready-requires-after_bounds
run_all-ready-requires-after_bounds g c κs within =
    fresh_runs g.X.Splitter.step g.X.Splitter.lawful_task g.N.Named.events g.N.Named.offers c.args.splitter.now c.args.hub.now.name
    g.K.Taker.takes g.K.Taker.fails g.K.Taker.may c.args.jobs c.args.desk c.args.drain c.args.collector c.args.each.now
    c.requires.begins c.requires.walk c.requires.may

pub finish-requires-clause-key : goal.finish-requires-clause-key
finish-requires-clause-key g c = (fresh _ _ _ _ _ _ _ _ _ c.requires.begins).key

pub finish-requires-clause-homes : goal.finish-requires-clause-homes
finish-requires-clause-homes g c =
    are_home (g.X.Splitter.step c.args.splitter.now) g.N.Named.events g.N.Named.offers c.args.hub.now.name c.args.desk c.args.jobs _ _
    (fresh _ _ _ _ _ _ _ _ _ c.requires.begins).begun (did_run _ _ _ _ _ _ _ _ _ _ _ _ _ _ _ _ _ _ _ c.run_all-ready.ensures).gathered

pub finish-requires-clause-hub : goal.finish-requires-clause-hub
finish-requires-clause-hub g c =
    (did_run _ _ _ _ _ _ _ _ _ _ _ _ _ _ _ _ _ _ _ c.run_all-ready.ensures).same.hub
    ∙ (fresh _ _ _ _ _ _ _ _ _ c.requires.begins).drain_hub

pub finish-requires-clause-made : goal.finish-requires-clause-made
finish-requires-clause-made g c =
    let did = did_run _ _ _ _ _ _ _ _ _ _ _ _ _ _ _ _ _ _ _ c.run_all-ready.ensures in
    lanes_counted (g.X.Splitter.step c.args.splitter.now) g.N.Named.events g.N.Named.offers c.args.hub.now.name c.args.desk c.args.jobs _ _ _
    (fresh _ _ _ _ _ _ _ _ _ c.requires.begins).begun did.gathered (did.same.made ∙ (fresh _ _ _ _ _ _ _ _ _ c.requires.begins).made)

pub finish-requires-clause-none_back : goal.finish-requires-clause-none_back
finish-requires-clause-none_back g c =
    (did_run _ _ _ _ _ _ _ _ _ _ _ _ _ _ _ _ _ _ _ c.run_all-ready.ensures).same.backs ∙ (fresh _ _ _ _ _ _ _ _ _ c.requires.begins).none_back

pub finish-requires-clause-walk : goal.finish-requires-clause-walk
finish-requires-clause-walk g c = (did_run _ _ _ _ _ _ _ _ _ _ _ _ _ _ _ _ _ _ _ c.run_all-ready.ensures).walk

pub finish-requires-clause-noted : goal.finish-requires-clause-noted
finish-requires-clause-noted g c = (did_run _ _ _ _ _ _ _ _ _ _ _ _ _ _ _ _ _ _ _ c.run_all-ready.ensures).noted

pub finish-requires-clause-may : goal.finish-requires-clause-may
finish-requires-clause-may g c = (did_run _ _ _ _ _ _ _ _ _ _ _ _ _ _ _ _ _ _ _ c.run_all-ready.ensures).may_take

pub returns-clause-took : goal.returns-clause-took
returns-clause-took g c =
    let did = did_run _ _ _ _ _ _ _ _ _ _ _ _ _ _ _ _ _ _ _ c.run_all-ready.ensures in
    ended_took g.K.Taker.takes g.K.Taker.fails _ _ _ c.finish.result (c.finish.ensures _ _ did.handed did.cut)

pub returns-clause-end : goal.returns-clause-end
returns-clause-end g c =
    let did = did_run _ _ _ _ _ _ _ _ _ _ _ _ _ _ _ _ _ _ _ c.run_all-ready.ensures in
    ended_end g.K.Taker.takes g.K.Taker.fails _ _ _ c.finish.result (c.finish.ensures _ _ did.handed did.cut)

pub returns-clause-cut : goal.returns-clause-cut
returns-clause-cut g c =
    let did = did_run _ _ _ _ _ _ _ _ _ _ _ _ _ _ _ _ _ _ _ c.run_all-ready.ensures in
    ended_cut g.K.Taker.takes g.K.Taker.fails _ _ _ c.finish.result (c.finish.ensures _ _ did.handed did.cut)
