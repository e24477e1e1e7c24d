-- The copy of a polynomial is that polynomial.
use Rattle.std.proofs.Common.{◌++◌, refl}
use Rattle.chains.proofs.Takings.{takes_more}
use Rattle.case_tree.proofs.root.with_copies.Goals as goal

pub loop-i-preserved : goal.loop-i-preserved
loop-i-preserved c = takes_more (λ xs. xs) (c.args.start ++ c.args.list.now) c.args.list.now c.loop-i.all c.loop-i.i c.push.new.self c.at.result.now c.in_ok-copy.field-0 c.at.ensures refl c.in_ok-copy.ensures c.in_ok-push.ensures.ok c.loop-i.invariant
