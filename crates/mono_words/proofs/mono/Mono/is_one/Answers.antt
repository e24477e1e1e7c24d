-- The test of equality decides it.
use Rattle.std.proofs.Common.{◌∙◌, sym}
use Rattle.polynomials.specs.Equalities.{same_monomial_decides}
use Rattle.mono_words.proofs.mono.Mono.is_one.Goals as goal

pub returns : goal.returns
returns c =
    let same = same_monomial_decides c.args.self c.one.result in
    ((λ h. same.0 (sym c.eq.ensures ∙ h) ∙ c.one.ensures), (λ e. c.eq.ensures ∙ same.1 (e ∙ sym c.one.ensures)))
