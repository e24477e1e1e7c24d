-- The product by the tail fits where that by the whole does.
use Rattle.std.proofs.Common.{◌∙◌, ap₂, sym, subst, arith}
use Rattle.mono_words.specs.declared.mono.TheConstants.{VARS}
use Rattle.polynomials.specs.Polynomials.{IsPolynomial, product_of}
use Rattle.polynomials.specs.Views.{degree_in, tail_in}
use Rattle.polynomials.proofs.Coefficients.{IsPolynomial-without_power}
use Rattle.polynomials.proofs.FitsLemmas.{fits_comm}
use Rattle.polynomials.proofs.PolynomialLaws.{product_of_comm}
use Rattle.sparse_poly.proofs.Moduli.{positive_modulus}
use Rattle.sparse_poly.proofs.SortedTerms.{IfOk-implied}
use Rattle.sparse_poly.proofs.FittingPairs.{PairsFit-from_fits, fitting_pairs_are_few}
use Rattle.sparse_poly.proofs.TailFits.{fits-tail_in}
use Rattle.sparse_poly.proofs.tails.times_tail.Goals as goal

pub product_of_parts-requires-clause-right : goal.product_of_parts-requires-clause-right
product_of_parts-requires-clause-right c = subst (IsPolynomial c.args.w.field VARS) (sym c.tail_terms-tail.ensures) (IsPolynomial-without_power c.args.v (degree_in c.args.v c.args.f.now) c.args.w.field VARS c.args.f.now c.requires.fit.right)

pub product_of_parts-requires-clause-fit : goal.product_of_parts-requires-clause-fit
product_of_parts-requires-clause-fit c =
    rw (c.terms.ensures.terms, c.tail_terms-tail.ensures)
    (PairsFit-from_fits c.args.w.width c.args.a.now (tail_in c.args.v c.args.f.now) (fits-tail_in c.args.w.width c.args.v c.args.a.now c.args.f.now c.requires.fit.fit))

pub product_of_parts-requires-clause-pairs : goal.product_of_parts-requires-clause-pairs
product_of_parts-requires-clause-pairs c =
    let few = fitting_pairs_are_few c.args.w.width c.args.a.now (tail_in c.args.v c.args.f.now) (fits-tail_in c.args.w.width c.args.v c.args.a.now c.args.f.now c.requires.fit.fit) in
    rw (c.terms.ensures.terms, c.tail_terms-tail.ensures) (omega (arith, few))

pub product_of_parts-requires-else-term_count-tail-clause-left : goal.product_of_parts-requires-else-term_count-tail-clause-left
product_of_parts-requires-else-term_count-tail-clause-left c = subst (IsPolynomial c.args.w.field VARS) (sym c.tail_terms-tail.ensures) (IsPolynomial-without_power c.args.v (degree_in c.args.v c.args.f.now) c.args.w.field VARS c.args.f.now c.requires.fit.right)

pub product_of_parts-requires-else-term_count-tail-clause-fit : goal.product_of_parts-requires-else-term_count-tail-clause-fit
product_of_parts-requires-else-term_count-tail-clause-fit c =
    rw (c.terms-else-term_count-tail.ensures.terms, c.tail_terms-tail.ensures)
    (PairsFit-from_fits c.args.w.width (tail_in c.args.v c.args.f.now) c.args.a.now (fits_comm c.args.w.width c.args.a.now (tail_in c.args.v c.args.f.now) (fits-tail_in c.args.w.width c.args.v c.args.a.now c.args.f.now c.requires.fit.fit)))

pub product_of_parts-requires-else-term_count-tail-clause-pairs : goal.product_of_parts-requires-else-term_count-tail-clause-pairs
product_of_parts-requires-else-term_count-tail-clause-pairs c =
    let few = fitting_pairs_are_few c.args.w.width (tail_in c.args.v c.args.f.now) c.args.a.now (fits_comm c.args.w.width c.args.a.now (tail_in c.args.v c.args.f.now) (fits-tail_in c.args.w.width c.args.v c.args.a.now c.args.f.now c.requires.fit.fit)) in
    rw (c.terms-else-term_count-tail.ensures.terms, c.tail_terms-tail.ensures) (omega (arith, few))

pub returns-else-term_count-tail-clause-value : goal.returns-else-term_count-tail-clause-value
returns-else-term_count-tail-clause-value c =
    IfOk-implied _ _ c.product_of_parts-else-term_count-tail.result
    (λ r e. e
    ∙ (ap₂ (product_of c.args.w.field) c.tail_terms-tail.ensures c.terms-else-term_count-tail.ensures.terms
    ∙ product_of_comm c.args.w.field (positive_modulus c.facts.ensures.least) VARS (tail_in c.args.v c.args.f.now) c.args.a.now (IsPolynomial-without_power c.args.v (degree_in c.args.v c.args.f.now) c.args.w.field VARS c.args.f.now c.requires.fit.right) c.requires.fit.left))
    c.product_of_parts-else-term_count-tail.ensures.value
