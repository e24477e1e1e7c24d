-- Where one product doesn't fit, the power isn't there.
use Rattle.std.proofs.Common.{◌+◌, arith, sym, ◌∙◌}
use Rattle.mono_words.specs.declared.mono.TheConstants.{VARS}
use Rattle.system_text.specs.Limits.{text_width}
use Rattle.system_parser.proofs.PowerSteps.{power_within-next, no_greater_power}
use Rattle.system_parser.proofs.powers.raised_from_square.Goals as goal

pub returns-in-None-clause-value : goal.returns-in-None-clause-value
returns-in-None-clause-value c =
    sym (no_greater_power c.args.f VARS text_width (c.loop.counter + 1) c.args.e c.args.base.now (omega arith) (omega arith)
    (power_within-next c.args.f VARS text_width c.loop.counter c.args.base.now c.loop.power (omega arith) c.loop.invariant.made ∙ (sym c.in_ok-product.ensures.value ∙ c.in-None.is)))
