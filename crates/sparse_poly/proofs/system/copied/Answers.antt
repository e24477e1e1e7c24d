-- The copy of an item is that item.
use Rattle.sparse_poly.proofs.Copies.{copied_more}
use Rattle.sparse_poly.proofs.system.copied.Goals as goal

pub loop-i-preserved : goal.loop-i-preserved
loop-i-preserved c = copied_more c.args.list.now c.loop-i.out c.push.new.self c.loop-i.i c.at.result.now c.in_ok-copy.field-0 c.at.ensures c.in_ok-copy.ensures c.in_ok-push.ensures.ok c.loop-i.invariant
