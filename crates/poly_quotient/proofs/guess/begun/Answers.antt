-- The terms that are found are a part of the quotient, as what they leave shows.
use Rattle.std.proofs.Common.{◌≡◌, ◌∙◌, IfSome, refl, sym, ap, subst}
use Rattle.mono_words.specs.declared.mono.TheConstants.{VARS}
use Rattle.polynomials.specs.Monomials.{monomial_product}
use Rattle.polynomials.specs.Polynomials.{Polynomial, IsPolynomial, StartsBelow, product_of, difference_of}
use Rattle.polynomials.specs.Fits.{fits}
use Rattle.poly_quotient.proofs.Clauses.{some_then_true}
use Rattle.poly_quotient.proofs.BegunDivisions.{first_is, division_begun}
use Rattle.poly_quotient.proofs.guess.begun.Goals as goal

pub returns-then-starts_below-clause-division : goal.returns-then-starts_below-clause-division
returns-then-starts_below-clause-division c = λ u g whole.
    let q = c.over-quotient.result in
    let product_is = subst (λ o. IfSome o (λ (h : Polynomial). h ≡ product_of c.args.w.field q c.args.b.now)) c.in-Some-2.is c.in_ok-product.ensures.product in
    let lead_is = first_is c.terms.result.now c.args.b.now c.index-terms-0.result u g c.terms.ensures.terms c.index-terms-0.is whole in
    let below = subst (StartsBelow c.product-then-fits.result) c.terms-then-fits.ensures.terms (c.if-starts_below.ensures refl) in
    division_begun c.args.w.field VARS c.facts.ensures.prime u g (subst (IsPolynomial c.args.w.field VARS) whole c.requires.right) c.args.a.now q c.in_ok-rest.rest c.requires.left (subst (IsPolynomial c.args.w.field VARS) (sym c.over-quotient.ensures) (subst (IsPolynomial c.args.w.field VARS) c.deref.ensures.value (c.if-not-is_canonical.ensures refl)))
    (c.in_ok-rest.ensures ∙ ap (difference_of c.args.w.field c.args.a.now) (product_is ∙ ap (product_of c.args.w.field q) whole))
    c.last_monomial-last.result (c.last_monomial-last.ensures.0, (c.last_monomial-last.ensures.1.0, sym c.terms-2.ensures.terms ∙ c.last_monomial-last.ensures.1.1))
    (subst (λ m. StartsBelow m c.in_ok-rest.rest) (c.product-then-fits.ensures ∙ ap (λ x. monomial_product c.last_monomial-last.result x.0) (sym c.index-terms-0.is ∙ lead_is)) below)

pub returns-then-starts_below-clause-fit : goal.returns-then-starts_below-clause-fit
returns-then-starts_below-clause-fit c =
    let q = c.over-quotient.result in
    some_then_true c.in_ok-product.field-0 c.in-Some-2.product (fits c.args.w.width q c.args.b.now) c.in_ok-product.ensures.none c.in-Some-2.is
