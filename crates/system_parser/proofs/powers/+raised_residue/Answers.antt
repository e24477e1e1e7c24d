-- A power is made of that with half the exponent.
use Rattle.std.proofs.Common.{◌/◌, ◌+◌, ◌∙◌, arith}
use Rattle.system_parser.proofs.ResiduePowers.{square_of_power, odd_power}
use Rattle.system_parser.proofs.powers.+raised_residue.Goals as goal

pub returns-then-e-eq0-2-clause-value : goal.returns-then-e-eq0-2-clause-value
returns-then-e-eq0-2-clause-value t c =
    c.mul-square.ensures.product ∙ square_of_power c.args.f c.args.c (c.args.e / 2) c.args.e c.raised_residue-half.result c.raised_residue-half.ensures.value (omega arith)

pub returns-else-e-eq0-2-clause-value : goal.returns-else-e-eq0-2-clause-value
returns-else-e-eq0-2-clause-value t c =
    c.mul.ensures.product
    ∙ odd_power c.args.f c.args.c (c.args.e / 2 + c.args.e / 2) c.args.e c.mul-square.result
    (c.mul-square.ensures.product ∙ square_of_power c.args.f c.args.c (c.args.e / 2) (c.args.e / 2 + c.args.e / 2) c.raised_residue-half.result c.raised_residue-half.ensures.value (omega arith))
    (omega arith)
