-- The main variable is one of the variables.
use Rattle.std.proofs.Common.{sym, ◌^◌}
use Rattle.mono_words.specs.declared.mono.TheConstants.{VARS}
use Rattle.chains.proofs.MemberSteps.{main_variable_small}
use Rattle.certificates.proofs.checks.lacks_main.Goals as goal

pub degree_in-requires : goal.degree_in-requires
degree_in-requires c = main_variable_small (2 ^ 32) VARS c.in-Some.v c.args.t.now c.facts.ensures.canonical (sym c.in-Some.ensures)
