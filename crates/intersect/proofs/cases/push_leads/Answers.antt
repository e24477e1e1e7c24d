-- The case of the number at the place is added.
use Rattle.std.proofs.Common.{◌++◌, map, arith}
use Rattle.intersect.specs.declared.cases.Case.TheVariants.{Lead}
use Rattle.intersect.proofs.Lists.{mapped_more, mapped_all}
use Rattle.intersect.proofs.cases.push_leads.Goals as goal

pub loop-i-preserved : goal.loop-i-preserved
loop-i-preserved c = mapped_more Lead c.args.places.now c.loop-i.i c.loop-i.cases (c.args.cases.now ++ map Lead c.args.places.now) c.at.result.now c.push.new.self c.at.ensures c.in_ok-push.ensures.ok c.loop-i.invariant

pub returns : goal.returns
returns c = mapped_all Lead c.args.places.now c.loop-i.i c.loop-i.cases (c.args.cases.now ++ map Lead c.args.places.now) (let count = c.count-i-end.ensures in let end = c.loop-i-test.false in omega arith) c.loop-i.invariant
