-- The first place among the bytes that are left.
use Rattle.std.proofs.Common.{◌≡◌, suc, drop}
use Rattle.system_text.specs.Lines.{first_not_text}
use Rattle.system_parser.proofs.text.first_not_text.Given as goal

abbrev pub invariant-loop-i : goal.invariant-loop-i
invariant-loop-i l = first_not_text (suc l.i) (drop l.i l.line) ≡ first_not_text 1 l.line
