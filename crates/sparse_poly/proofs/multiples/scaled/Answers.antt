-- Each coefficient is a residue other than 0, and so is its multiple.
use Rattle.std.proofs.Common.{sym, subst, refl}
use Rattle.mono_words.specs.declared.mono.TheConstants.{VARS}
use Rattle.polynomials.specs.Polynomials.{IsPolynomial, scaled}
use Rattle.polynomials.proofs.MonicLemmas.{IsPolynomial-scaled}
use Rattle.sparse_poly.proofs.Places.{IsPolynomial-item}
use Rattle.sparse_poly.proofs.Passes.{pass_end}
use Rattle.sparse_poly.proofs.multiples.scaled.Goals as goal

pub mul-requires-clause-right : goal.mul-requires-clause-right
mul-requires-clause-right c = (IsPolynomial-item c.args.f VARS c.loop-u.u-index c.args.g.now c.u-item.result c.requires.over c.loop-u-test.true c.u-item.is).2

pub returns-clause-over : goal.returns-clause-over
returns-clause-over c =
    subst (IsPolynomial c.args.f VARS)
    (sym (pass_end (scaled c.args.f c.args.c) refl c.loop-u.out.items c.args.g.now _ c.loop-u.u-index c.loop-u-test.false c.loop-u.invariant))
    (IsPolynomial-scaled c.args.f c.facts.ensures.prime VARS c.args.c c.requires.nonzero c.requires.below c.args.g.now c.requires.over)
