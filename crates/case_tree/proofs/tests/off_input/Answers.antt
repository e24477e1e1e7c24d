-- The monic form of an input is lawful.
use Rattle.std.proofs.Common.{length, refl, ap}
use Rattle.mono_words.specs.declared.mono.TheConstants.{VARS}
use Rattle.case_tree.proofs.TestTasks.{taken_lawful, none_lawful, chain_copied, one_more}
use Rattle.case_tree.proofs.tests.off_input.Goals as goal

pub returns : goal.returns
returns g c =
    let p = c.args.cases.now.system.prime in
    let k = length c.args.cases.now.system.names in
    let input = taken_lawful p VARS k c.in_ok-root.root.queue c.root-2.inside.queue c.args.i c.at-h.result.now c.at-h.result.now c.in_ok-root.ensures.lawful.1.queue (ap (λ t. t.queue) c.root-2.view_is) c.at-h.ensures refl in (
      c.requires.0,
      record {
        chain = chain_copied p VARS k c.args.task.chain c.task.inside.chain c.in_ok-copy.field-0 c.requires.1.chain (ap (λ t. t.chain) c.task.view_is) c.in_ok-copy.ensures;
        queue = none_lawful p VARS k c.new.result c.new.ensures;
        nonzero = one_more p VARS k c.requires.0.prime c.system.result.now.field c.args.task.nonzero c.task.inside.nonzero c.at-h.result.now c.in_ok-nonzero.nonzero c.requires.1.nonzero input (ap (λ s. s.prime) c.system.ensures) (ap (λ t. t.nonzero) c.task.view_is) c.in_ok-nonzero.ensures;
      },
    )
