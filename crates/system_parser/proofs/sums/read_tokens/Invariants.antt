-- What was read and what is to come are the whole.
use Rattle.std.proofs.Common.{◌≡◌, length}
use Rattle.system_text.specs.Readings.{start}
use Rattle.system_text.specs.Sums.{read_tokens}
use Rattle.system_parser.specs.Sums.{reading_of, IsReading}
use Rattle.system_parser.specs.Systems.{setting_over}
use Rattle.system_parser.proofs.sums.read_tokens.Given as goal

abbrev pub invariant-loop-t : goal.invariant-loop-t
invariant-loop-t l = record {
  whole : read_tokens (setting_over l.over) l.end l.tokens (reading_of l.over.field l.reading) ≡ read_tokens (setting_over l.over) l.end l.fn.tokens start;
  reading : IsReading l.over.field l.reading;
}

abbrev pub decreases-loop-t : goal.decreases-loop-t
decreases-loop-t l = length l.tokens
