-- What is left of the list has the answer of the whole.
use Rattle.std.proofs.Common.{◌≡◌, drop}
use Rattle.mono_words.specs.declared.mono.TheConstants.{VARS}
use Rattle.case_rules.specs.Finish.{has_zero_remainder}
use Rattle.case_tree.proofs.finish.has_zero_remainder.Given as goal

abbrev pub invariant-loop-i : goal.invariant-loop-i
invariant-loop-i l = has_zero_remainder l.w.field VARS l.w.width l.chain (drop l.i l.list) ≡ has_zero_remainder l.w.field VARS l.w.width l.chain l.list
