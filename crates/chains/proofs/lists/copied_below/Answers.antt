-- A polynomial is copied where it is below, and else passed over.
use Rattle.std.proofs.Common.{sym, ◌∙◌, ◌+◌, drop, true, false}
use Rattle.zero_sets.specs.ZeroSets.{members_below}
use Rattle.chains.proofs.Takings.{takes_more, takes_none}
use Rattle.chains.proofs.MemberSteps.{below_by}
use Rattle.chains.proofs.lists.copied_below.Goals as goal
use Rattle.chains.proofs.lists.copied_below.Goals.{then-is_below+in_ok-copy+in_ok-push, else-is_below}

pub loop-i-preserved : goal.loop-i-preserved
loop-i-preserved c =
    let rest = drop (c.loop-i.i + 1) c.args.list.now in
    elim c.if-is_below.branch [
      | then-is_below+in_ok-copy+in_ok-push w ↦ takes_more (members_below c.args.v) (members_below c.args.v c.args.list.now) c.args.list.now c.loop-i.out c.loop-i.i c.if-is_below.out c.at-t.result.now w.in_ok-copy.field-0 c.at-t.ensures (below_by c.args.v c.at-t.result.now rest true (sym c.is_below.ensures ∙ w.if-is_below.true)) w.in_ok-copy.ensures (w.out-is ∙ w.in_ok-push.ensures.ok) c.loop-i.invariant
      | else-is_below w ↦ takes_none (members_below c.args.v) (members_below c.args.v c.args.list.now) c.args.list.now c.loop-i.out c.loop-i.i c.if-is_below.out c.at-t.result.now c.at-t.ensures (below_by c.args.v c.at-t.result.now rest false (sym c.is_below.ensures ∙ w.if-is_below.false)) w.out-is c.loop-i.invariant
    ]
