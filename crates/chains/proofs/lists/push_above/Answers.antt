-- A polynomial is copied where it is above, and else passed over.
use Rattle.std.proofs.Common.{sym, ◌∙◌, ◌+◌, ◌++◌, drop, true, false}
use Rattle.impose_rules.specs.Chains.{members_above}
use Rattle.chains.proofs.Takings.{takes_more, takes_none}
use Rattle.chains.proofs.MemberSteps.{above_by}
use Rattle.chains.proofs.lists.push_above.Goals as goal
use Rattle.chains.proofs.lists.push_above.Goals.{then-is_above+in_ok-copy+in_ok-push, else-is_above}

pub loop-i-preserved : goal.loop-i-preserved
loop-i-preserved c =
    let rest = drop (c.loop-i.i + 1) c.args.list.now in
    let all = c.args.out.now ++ members_above c.args.v c.args.list.now in
    elim c.if-is_above.branch [
      | then-is_above+in_ok-copy+in_ok-push w ↦ takes_more (members_above c.args.v) all c.args.list.now c.loop-i.out c.loop-i.i c.if-is_above.out c.at-t.result.now w.in_ok-copy.field-0 c.at-t.ensures (above_by c.args.v c.at-t.result.now rest true (sym c.is_above.ensures ∙ w.if-is_above.true)) w.in_ok-copy.ensures (w.out-is ∙ w.in_ok-push.ensures.ok) c.loop-i.invariant
      | else-is_above w ↦ takes_none (members_above c.args.v) all c.args.list.now c.loop-i.out c.loop-i.i c.if-is_above.out c.at-t.result.now c.at-t.ensures (above_by c.args.v c.at-t.result.now rest false (sym c.is_above.ensures ∙ w.if-is_above.false)) w.out-is c.loop-i.invariant
    ]
