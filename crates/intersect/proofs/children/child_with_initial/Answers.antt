-- A main variable is one of the variables.
use Rattle.mono_words.specs.declared.mono.TheConstants.{VARS}
use Rattle.chains.proofs.MemberSteps.{main_variable_small}
use Rattle.intersect.proofs.children.child_with_initial.Goals as goal

pub tail_in-requires : goal.tail_in-requires
tail_in-requires c = main_variable_small c.args.w.now.field VARS c.args.head.now.variable c.args.head.now.poly c.requires.canonical c.requires.main

pub lead_in-requires : goal.lead_in-requires
lead_in-requires c = main_variable_small c.args.w.now.field VARS c.args.head.now.variable c.args.head.now.poly c.requires.canonical c.requires.main
