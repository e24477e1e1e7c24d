-- The number that was taken away is followed by the next one, or by what comes after its parent.
use Rattle.std.proofs.Common.{rules, ◌∙◌}
use Rattle.collector.proofs.Branches.{next_child, last_child, front_from_one}
use Rattle.collector.proofs.branch.climb.Goals as goal

pub returns-then-number-count-clause-later : goal.returns-then-number-count-clause-later
returns-then-number-count-clause-later c =
    rw (c.push_reserved.ensures.items, c.push_reserved-then-number-count.ensures.items)
    (c.loop-number.invariant.later
    ∙ next_child _ _ _ _ _ _ c.in-Some.ensures.items c.in-Some-pop.ensures.items c.loop-number.invariant.same c.if-number-count.true)

pub loop-number-preserved : goal.loop-number-preserved
loop-number-preserved c =
    let left = last_child _ _ _ _ _ _ c.in-Some.ensures.items c.in-Some-pop.ensures.items c.loop-number.invariant.same c.if-number-count.false in
    record {
      same = left.1;
      numbers = front_from_one _ _ (rw c.in-Some.ensures.items at c.loop-number.invariant.numbers);
      later = c.loop-number.invariant.later ∙ left.0;
      room_numbers = search rules;
      room_counts = search rules;
    }
