-- A base of no term is 0, and one of one term is that term.
use Rattle.std.proofs.Common.{arith}
use Rattle.mono_words.specs.declared.mono.TheConstants.{VARS}
use Rattle.system_parser.proofs.TermPowers.{zero_power}
use Rattle.system_parser.proofs.powers.power.Goals as goal

pub returns-then-is_zero-clause-value : goal.returns-then-is_zero-clause-value
returns-then-is_zero-clause-value c = zero_power c.args.f VARS c.args.e c.args.base (c.is_zero.ensures.0 c.if-is_zero.true) (omega arith)
