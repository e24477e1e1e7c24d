-- Each polynomial is canonical in the named variables, and its exponents are small.
use Rattle.mono_words.specs.declared.mono.TheConstants.{VARS}
use Rattle.system_parser.specs.Systems.{names_of}
use Rattle.case_tree.proofs.Inputs.{all_lawful}
use Rattle.case_tree.proofs.cases.Cases.new.Goals as goal

pub invariant_of-result : goal.invariant_of-result
invariant_of-result c = record {
  prime = c.facts.ensures.prime;
  inputs = all_lawful c.args.system.field VARS (names_of c.args.system.names) c.args.system.inputs c.requires.lawful.inputs c.facts_of.ensures;
  nonzero = all_lawful c.args.system.field VARS (names_of c.args.system.names) c.args.system.nonzero c.requires.lawful.nonzero c.facts_of-2.ensures;
}
