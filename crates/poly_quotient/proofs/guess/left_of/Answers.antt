-- Of a polynomial without itself nothing is left.
use Rattle.std.proofs.Common.{◌∙◌, sym, ap}
use Rattle.mono_words.specs.declared.mono.TheConstants.{VARS}
use Rattle.polynomials.specs.Equalities.{same_polynomial_decides}
use Rattle.polynomials.specs.Polynomials.{difference_of}
use Rattle.poly_quotient.proofs.BegunDivisions.{difference_of_itself}
use Rattle.poly_quotient.proofs.guess.left_of.Goals as goal

pub returns-then-eq : goal.returns-then-eq
returns-then-eq c =
    let same = (same_polynomial_decides c.args.a.now c.args.product.now).0 (sym c.if-eq.ensures) in
    c.zero.ensures ∙ sym (ap (difference_of c.args.f c.args.a.now) (sym same) ∙ difference_of_itself c.args.f VARS c.facts.ensures.prime.many c.args.a.now c.requires.left)
