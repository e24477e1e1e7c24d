-- The options so far are the parser's.
use Rattle.std.proofs.Common.{◌≡◌, take}
use Rattle.clap.specs.Words.{app_of}
use Rattle.tri_io.specs.Texts.{app_of_names, rule_names}
use Rattle.tri_io.proofs.options.command_with.Given as goal

abbrev pub invariant-loop-option : goal.invariant-loop-option
invariant-loop-option l = app_of l.command ≡ app_of_names (rule_names (take l.option-index l.options))
