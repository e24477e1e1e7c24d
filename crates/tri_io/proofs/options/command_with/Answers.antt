-- One more option is the parser's.
use Rattle.std.proofs.Common.{ap, ◌∙◌}
use Rattle.tri_io.specs.Commands.{Rule}
use Rattle.tri_io.specs.Texts.{option_rule}
use Rattle.tri_io.proofs.Chosen.{option_added}
use Rattle.tri_io.proofs.options.command_with.Goals as goal

pub loop-option-preserved : goal.loop-option-preserved
loop-option-preserved c =
    option_added c.args.options.now c.loop-option.option-index c.option-item.result _ _ _ c.loop-option-test.true c.option-item.is c.loop-option.invariant
    (c.text_option.ensures.rule ∙ ap (λ (o : Rule). option_rule o.name) c.option.view_is) (c.in_ok-command.ensures.shape c.text_option.ensures.local)
