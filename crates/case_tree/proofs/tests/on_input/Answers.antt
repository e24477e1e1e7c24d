-- An input is lawful, and a triangular set by itself.
use Rattle.std.proofs.Common.{length, ap}
use Rattle.mono_words.specs.declared.mono.TheConstants.{VARS}
use Rattle.case_tree.proofs.TestTasks.{taken_lawful, none_lawful, one_member}
use Rattle.case_tree.proofs.tests.on_input.Goals as goal

pub returns : goal.returns
returns g c =
    let p = c.args.cases.now.system.prime in
    let k = length c.args.cases.now.system.names in
    let input = taken_lawful p VARS k c.in_ok-root.root.queue c.root-2.inside.queue c.args.i c.at.result.now c.in_ok-t.t c.in_ok-root.ensures.lawful.1.queue (ap (λ t. t.queue) c.root-2.view_is) c.at.ensures c.in_ok-t.ensures in (
      c.in_ok-root.ensures.lawful.0,
      record {
        chain = one_member p VARS k c.in_ok-t.t c.empty.result c.in_ok-with_poly.field-0 input c.empty.ensures c.in_ok-with_poly.ensures.value;
        queue = none_lawful p VARS k c.new.result c.new.ensures;
        nonzero = none_lawful p VARS k c.empty-2.result c.empty-2.ensures;
      },
    )
