-- The test of polynomials decides equality.
use Rattle.std.proofs.Common.{sym, ◌∙◌}
use Rattle.polynomials.specs.Equalities.{same_polynomial_decides}
use Rattle.subresultants.proofs.divided.is_one.Goals as goal

pub returns : goal.returns
returns c =
    let decides = same_polynomial_decides c.args.b.now c.in_ok-one.one in
    (λ h. decides.0 (sym c.eq.ensures ∙ h) ∙ c.in_ok-one.ensures.value, λ e. c.eq.ensures ∙ decides.1 (e ∙ sym c.in_ok-one.ensures.value))
