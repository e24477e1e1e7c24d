-- The events are pushed in path order.
use Rattle.std.proofs.Common.{◌<◌, arith}
use Rattle.collector.proofs.Samples.{brush_grows, brush_ends}
use Rattle.collector.proofs.tests.+push_brush.Goals as goal

pub returns-then-n-eq0 : goal.returns-then-n-eq0
returns-then-n-eq0 t c =
    brush_ends c.args.path c.in_ok-first.first c.in_ok-second.second c.args.n _ _ _ c.args.events.now.items _ _ _
    c.if-n-eq0.true c.in_ok-first.ensures c.in_ok-second.ensures
    c.split.ensures c.leaf.ensures c.leaf-then-n-eq0.ensures
    c.in_ok-push.ensures.items c.in_ok-push-2.ensures.items c.in_ok-push-3.ensures.items

pub returns : goal.returns
returns t c =
    let some : 0 < c.args.n = omega (arith, c.if-n-eq0.false) in
    brush_grows c.args.path c.in_ok-first.first c.in_ok-second.second c.in_ok-third.third c.args.n _ _ _ c.args.events.now.items _ _ _ _
    some c.in_ok-first.ensures c.in_ok-second.ensures c.in_ok-third.ensures
    c.split-2.ensures c.leaf-2.ensures c.leaf-3.ensures
    c.in_ok-push-4.ensures.items c.in_ok-push-5.ensures.items c.in_ok-push_brush.ensures c.in_ok-push-6.ensures.items
