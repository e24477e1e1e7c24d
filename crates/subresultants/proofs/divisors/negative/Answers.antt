-- What is taken from 0 leaves its negative.
use Rattle.std.proofs.Common.{◌≡◌, IfOk, ap, subst, ◌∙◌}
use Rattle.mono_words.specs.declared.mono.TheConstants.{VARS}
use Rattle.polynomials.specs.Polynomials.{Polynomial, difference_of, negative_of}
use Rattle.subresultants.proofs.Signs.{difference-from_zero}
use Rattle.subresultants.proofs.divisors.negative.Goals as goal

pub returns-clause-value : goal.returns-clause-value
returns-clause-value c =
    let same : difference_of c.args.w.now.field c.zero.result c.args.a.now ≡ negative_of c.args.w.now.field c.args.a.now = ap (λ f. difference_of c.args.w.now.field f c.args.a.now) c.zero.ensures ∙ difference-from_zero c.args.w.now.field VARS c.facts.ensures.least c.args.a.now c.requires in
    subst (λ (x : Polynomial). IfOk c.sub-2.result (λ r. r ≡ x)) same c.sub-2.ensures.difference
