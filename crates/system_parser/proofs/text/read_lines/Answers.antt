-- One line after the other is read.
use Rattle.std.proofs.Common.{arith, length, ap}
use Rattle.mono_words.specs.declared.mono.TheConstants.{VARS}
use Rattle.system_text.specs.Lines.{read_text}
use Rattle.system_parser.specs.Systems.{progress_of}
use Rattle.system_parser.proofs.MoreInputs.{read_lines-next}
use Rattle.system_parser.proofs.text.read_lines.Goals as goal

pub loop-line-preserved : goal.loop-line-preserved
loop-line-preserved c = record {
  whole = read_lines-next VARS c.loop-line.number c.loop-line.end (progress_of c.loop-line.progress) (progress_of c.in-Ok.next) c.in-Some.line.now c.loop-line.lines c.next.new.self (read_text VARS c.args.bytes.now) c.in-Some.ensures.line c.in-Ok.ensures.state c.loop-line.invariant.whole;
  over = c.in-Ok.ensures.over;
  count = omega (arith, c.loop-line.invariant.count, ap length c.in-Some.ensures.line);
}
