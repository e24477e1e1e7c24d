-- The certificates so far stand in front of those that are to come.
use Rattle.std.proofs.Common.{◌≡◌, drop}
use Rattle.mono_words.specs.declared.mono.TheConstants.{VARS}
use Rattle.finish_rules.specs.Initials.{certified}
use Rattle.regularise.proofs.EachMember.{behind}
use Rattle.regularise.proofs.initials.certified.Given as goal

abbrev pub invariant-loop-i : goal.invariant-loop-i
invariant-loop-i l = behind l.certificates (certified l.w.field VARS l.w.width l.chain l.nonzero (drop l.i l.list)) ≡ certified l.w.field VARS l.w.width l.chain l.nonzero l.chain
