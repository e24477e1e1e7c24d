-- What was read and what is to come are the whole.
use Rattle.std.proofs.Common.{◌≡◌, ◌≤◌, length}
use Rattle.mono_words.specs.declared.mono.TheConstants.{VARS}
use Rattle.system_text.specs.Heads.{names_from}
use Rattle.system_parser.specs.Systems.{names_of}
use Rattle.system_parser.proofs.heads.read_names.Given as goal

abbrev pub invariant-loop-t : goal.invariant-loop-t
invariant-loop-t l = record {
  whole : names_from VARS l.end (names_of l.names) l.tokens ≡ names_from VARS l.end (names_of l.initial.names) l.initial.tokens;
  most : length l.names ≤ VARS;
}

abbrev pub decreases-loop-t : goal.decreases-loop-t
decreases-loop-t l = length l.tokens
