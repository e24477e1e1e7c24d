use Rattle.std.proofs.Common.{List, ◌≡◌, ◌+◌, ◌∷◌, [], length, sym, ap, ◌∙◌, subst, arith}
use Rattle.std.specs.Arc.{arc_value}
use Rattle.split_paths.specs.declared.event.Event.{Event}
use Rattle.split_paths.specs.Key.{IsClosedKey}
use Rattle.split_paths.specs.Places.{Place}
use Rattle.split_paths.specs.Tree.{events_of}
use Rattle.split_paths.proofs.Closed.{closed_tree}
use Rattle.work_pool.specs.Seats.{IsSetUp}
use Rattle.work_pool.proofs.Begun.{tree_key}
use Rattle.work_pool.proofs.Fresh.{may_begin}
use Rattle.work_pool.proofs.setup.begin.Goals as goal

pub set_up-requires-clause-key : goal.set_up-requires-clause-key
set_up-requires-clause-key g c =
    tree_key (g.X.Splitter.step (arc_value c.args.splitter.now)) g.N.Named.events g.N.Named.offers c.args.root c.requires.whole
    c.requires.events c.requires.offers

pub returns : goal.returns
returns g c =
    let step = g.X.Splitter.step (arc_value c.args.splitter.now) in
    let lawful = g.X.Splitter.lawful_task (arc_value c.args.splitter.now) in
    let key : IsClosedKey step lawful g.N.Named.events g.N.Named.offers =
    subst (λ (es : List (Event _)). IsClosedKey step lawful es g.N.Named.offers) (sym c.requires.events)
    (subst (λ (os : List (Place _)). IsClosedKey step lawful (events_of step c.args.root) os) (sym c.requires.offers)
    (closed_tree _ _ _ (g.met.X.Splitter.keeps_lawful (arc_value c.args.splitter.now)) c.args.root c.requires.lawful)) in
    let set : IsSetUp c.in-Ok.hub c.in-Ok.drain c.in-Ok.desks c.args.size.workers = c.in-Ok.ensures in
    may_begin g.X.Splitter.step g.X.Splitter.lawful_task g.N.Named.events g.N.Named.offers _ c.in-Ok.hub _ c.in-Ok.drain c.in-Ok.desks
    c.args.size.workers c.in-Some.first c.with_root-first.result c.take_first.new.self c.args.root c.in-Ok-jobs_of.jobs
    key c.requires.events c.requires.offers set c.in-Some.ensures.item c.with_root-first.ensures
    c.in-Ok-shared.ensures c.in-Ok-jobs_of.ensures
