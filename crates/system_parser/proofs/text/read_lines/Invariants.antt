-- What was read and what is to come are the whole.
use Rattle.std.proofs.Common.{◌≡◌, ◌+◌, ◌≤◌, length}
use Rattle.mono_words.specs.declared.mono.TheConstants.{VARS}
use Rattle.system_text.specs.Lines.{read_lines, read_text}
use Rattle.system_parser.specs.Systems.{progress_of, IsProgress}
use Rattle.system_parser.proofs.text.read_lines.Given as goal

abbrev pub invariant-loop-line : goal.invariant-loop-line
invariant-loop-line l = record {
  whole : read_lines VARS l.number l.end (progress_of l.progress) l.lines ≡ read_text VARS l.bytes;
  over : IsProgress l.progress;
  count : l.number + length l.lines ≤ 1048577;
}

abbrev pub decreases-loop-line : goal.decreases-loop-line
decreases-loop-line l = length l.lines
