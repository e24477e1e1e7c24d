use Rattle.std.proofs.Common.{ap, ◌∙◌, [], ◌+◌, subst, sym}
use Rattle.event_lanes.specs.Passes.{drain_pass}
use Rattle.event_lanes.specs.declared.rule.View.{View}
use Rattle.event_lanes.proofs.Dealing.{AreDealt, dealt_more}
use Rattle.event_lanes.proofs.making.deal.Goals as goal

-- the next lane has the next number
pub loop-number-preserved : goal.loop-number-preserved
loop-number-preserved g c =
    let lanes = ap (λ (v : View _). v.lanes) c.loop-number.invariant.1 in (
      c.make.ensures.pass,
      c.make.ensures.known ∙ ap (λ n. drain_pass n (c.loop-number.number + 1) [] []) lanes,
      subst (λ dealt. AreDealt c.args.hub.now dealt c.args.count (c.loop-number.number + 1)) (sym c.in_ok-push.ensures.items)
          (dealt_more c.args.hub.now c.loop-number.lanes.items c.args.count c.loop-number.number c.make.result
          c.loop-number.invariant.2
          (c.make.ensures.lane ∙ ap (λ n. record { hub = c.args.hub.now.name; lanes = n; number = c.loop-number.number; put = [] }) lanes)),
    )
