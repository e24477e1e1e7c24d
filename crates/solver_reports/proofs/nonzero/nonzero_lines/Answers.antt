-- A line is that of the next polynomial.
use Rattle.std.proofs.Common.{◌∙◌, map, string_bytes}
use Rattle.solver_reports.proofs.Lines.{line_turn}
use Rattle.solver_reports.proofs.nonzero.nonzero_lines.Goals as goal

pub loop-i-preserved : goal.loop-i-preserved
loop-i-preserved c = line_turn (map string_bytes c.args.names.now) c.args.nonzero.now c.loop-i.i c.at.result.now _ _ _ _ c.at.ensures (c.as_str.ensures.value ∙ c.in_ok-line.ensures.text) c.in_ok-push_str.ensures.bytes c.loop-i.invariant
