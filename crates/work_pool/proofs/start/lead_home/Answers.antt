use Rattle.std.proofs.Common.{[]}
use Rattle.work_pool.proofs.Joining.{lead_gathers}
use Rattle.work_pool.proofs.Running.{may_run, has_run}
use Rattle.work_pool.proofs.start.lead_home.Goals as goal

pub lead-ready-requires-clause-key : goal.lead-ready-requires-clause-key
lead-ready-requires-clause-key g c = (may_run _ _ _ _ _ _ _ _ _ _ _ _ _ _ c.requires).key

pub lead-ready-requires-clause-desk : goal.lead-ready-requires-clause-desk
lead-ready-requires-clause-desk g c = (may_run _ _ _ _ _ _ _ _ _ _ _ _ _ _ c.requires).at_work

pub lead-ready-requires-clause-lane : goal.lead-ready-requires-clause-lane
lead-ready-requires-clause-lane g c = (may_run _ _ _ _ _ _ _ _ _ _ _ _ _ _ c.requires).lane

pub lead-ready-requires-clause-hub : goal.lead-ready-requires-clause-hub
lead-ready-requires-clause-hub g c = (may_run _ _ _ _ _ _ _ _ _ _ _ _ _ _ c.requires).drain_hub

pub lead-ready-requires-clause-walk : goal.lead-ready-requires-clause-walk
lead-ready-requires-clause-walk g c = (may_run _ _ _ _ _ _ _ _ _ _ _ _ _ _ c.requires).walk

pub lead-ready-requires-clause-noted : goal.lead-ready-requires-clause-noted
lead-ready-requires-clause-noted g c = (may_run _ _ _ _ _ _ _ _ _ _ _ _ _ _ c.requires).noted

pub lead-ready-requires-clause-may : goal.lead-ready-requires-clause-may
lead-ready-requires-clause-may g c = (may_run _ _ _ _ _ _ _ _ _ _ _ _ _ _ c.requires).may_take

pub returns : goal.returns
returns g c =
    has_run g.X.Splitter.step g.X.Splitter.lawful_task g.N.Named.events g.N.Named.offers g.K.Taker.takes g.K.Taker.fails g.K.Taker.may
    c.args.splitter.now c.args.hub.now.name [] c.args.desk c.args.drain.now c.args.collector.now c.args.each.now
    c.lead-ready.new.drain c.lead-ready.new.collector c.lead-ready.new.each c.lead-ready.result c.home_alone-homes.result (record {
      same = record {
        hub = c.lead-ready.ensures.drain.0;
        made = c.lead-ready.ensures.drain.1;
        backs = c.lead-ready.ensures.drain.2;
      };
      walk = c.lead-ready.ensures.walk;
      noted = c.lead-ready.ensures.noted;
      handed = c.lead-ready.ensures.ready;
      may_take = c.lead-ready.ensures.may;
      cut = c.lead-ready.ensures.cut;
      gathered =
          lead_gathers (g.X.Splitter.step c.args.splitter.now) g.N.Named.events g.N.Named.offers c.args.hub.now.name _ c.args.desk
          c.lead-ready.new.desk c.lead-ready.result c.home_alone-homes.result c.lead-ready.ensures.desk c.home_alone-homes.ensures;
    })
