-- A copy of the task imposes a copy of each polynomial.
use Rattle.std.proofs.Common.{[], ◌∷◌, ◌++◌, map, ap, ap₂, ◌∙◌, arith}
use Rattle.zero_sets.specs.Tasks.{Task}
use Rattle.case_rules.specs.Finish.{imposing}
use Rattle.intersect.proofs.Lists.{mapped_more, mapped_all}
use Rattle.case_tree.proofs.finish.imposing_each.Goals as goal

pub loop-i-init : goal.loop-i-init
loop-i-init c = ap (λ kids. kids ++ map (imposing c.args.task.now.chain c.args.task.now.nonzero) c.args.fs.now) c.new-kids.ensures

pub loop-i-preserved : goal.loop-i-preserved
loop-i-preserved c = mapped_more (imposing c.args.task.now.chain c.args.task.now.nonzero) c.args.fs.now c.loop-i.i c.loop-i.kids (map (imposing c.args.task.now.chain c.args.task.now.nonzero) c.args.fs.now) c.at.result.now c.push.new.self c.at.ensures (c.in_ok-push.ensures.ok ∙ ap (λ kid. c.loop-i.kids ++ kid ∷ []) (c.in_ok-kid.ensures ∙ ap₂ (λ (t : Task) f. imposing t.chain t.nonzero f) c.in_ok-copy.ensures c.in_ok-copy-2.ensures)) c.loop-i.invariant

pub returns : goal.returns
returns c = mapped_all (imposing c.args.task.now.chain c.args.task.now.nonzero) c.args.fs.now c.loop-i.i c.loop-i.kids (map (imposing c.args.task.now.chain c.args.task.now.nonzero) c.args.fs.now) (let count = c.count-i-end.ensures in let end = c.loop-i-test.false in omega arith) c.loop-i.invariant
