-- The product is a polynomial.
use Rattle.std.proofs.Common.{[], ◌∷◌, ◌++◌, sym, ap, ◌∙◌, subst}
use Rattle.mono_words.specs.declared.mono.TheConstants.{VARS}
use Rattle.polynomials.specs.Polynomials.{IsPolynomial, product_of}
use Rattle.polynomials.proofs.Canonical.{IsPolynomial-product_of}
use Rattle.sparse_poly.proofs.Moduli.{positive_modulus}
use Rattle.sparse_poly.proofs.multiples.term_times.Goals as goal

pub returns-clause-over : goal.returns-clause-over
returns-clause-over c =
    subst (IsPolynomial c.args.f VARS) (sym (c.in_ok-append_multiple.ensures ∙ ap (λ l. l ++ product_of c.args.f (c.args.t ∷ []) c.args.a.now) c.in_ok-out.ensures.items))
    (IsPolynomial-product_of c.args.f VARS (positive_modulus c.facts.ensures.least) (c.args.t ∷ []) c.args.a.now c.requires.term c.requires.over)
