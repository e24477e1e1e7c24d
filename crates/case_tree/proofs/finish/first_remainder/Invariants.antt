-- What is left of the inputs has the answer of the whole.
use Rattle.std.proofs.Common.{◌≡◌, drop}
use Rattle.mono_words.specs.declared.mono.TheConstants.{VARS}
use Rattle.case_rules.specs.Finish.{first_remainder}
use Rattle.case_tree.proofs.finish.first_remainder.Given as goal

abbrev pub invariant-loop-i : goal.invariant-loop-i
invariant-loop-i l = first_remainder l.w.field VARS l.w.width l.chain (drop l.i l.inputs) ≡ first_remainder l.w.field VARS l.w.width l.chain l.inputs
