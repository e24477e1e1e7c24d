-- Each term waits.
use Rattle.std.specs.BinaryHeap.{heap_items}
use Rattle.mono_words.specs.declared.mono.TheConstants.{VARS}
use Rattle.poly_quotient.proofs.EntryTurns.{all_wait, wait_none, wait_more, wait_all}
use Rattle.poly_quotient.proofs.rest.Rest.of.Goals as goal

pub loop-j-init : goal.loop-j-init
loop-j-init c = wait_none c.args.divisor.now c.in_ok-waiting.waiting.items c.in_ok-waiting.ensures.items

pub loop-j-preserved : goal.loop-j-preserved
loop-j-preserved c = wait_more c.args.divisor.now c.loop-j.waiting.items c.push.new.self.items c.loop-j.j c.loop-j-test.true c.in_ok-push.ensures.items c.loop-j.invariant

pub returns-clause-products : goal.returns-clause-products
returns-clause-products c = all_wait c.args.f VARS c.args.quotient.now c.args.divisor.now (heap_items c.new.result) c.loop-j.waiting.items c.requires.quotient c.requires.divisor c.requires.fit c.requires.few c.new.ensures.items c.loop-j.invariant.0 (wait_all c.args.divisor.now c.loop-j.waiting.items c.loop-j.j c.loop-j-test.false c.loop-j.invariant.1)
