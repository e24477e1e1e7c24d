-- Where the square doesn't fit, the power isn't there.
use Rattle.std.proofs.Common.{◌+◌, arith, refl, sym, ◌∙◌}
use Rattle.mono_words.specs.declared.mono.TheConstants.{VARS}
use Rattle.system_text.specs.Limits.{text_width}
use Rattle.system_parser.proofs.PowerSteps.{power_within-next, no_greater_power}
use Rattle.system_parser.proofs.powers.repeated_product.Goals as goal

pub returns-in-None-clause-value : goal.returns-in-None-clause-value
returns-in-None-clause-value c =
    sym (no_greater_power c.args.f VARS text_width (1 + 1) c.args.e c.args.base.now (omega arith) (omega arith)
    (power_within-next c.args.f VARS text_width 1 c.args.base.now c.args.base.now (omega arith) refl ∙ (sym c.in_ok-product.ensures.value ∙ c.in-None.is)))
