-- Each term has a quotient, or one has none.
use Rattle.std.proofs.Common.{◌<◌, ◌≤◌, ◌*◌, ◌%◌, ◌++◌, ◌+◌, ◌∙◌, List, map, drop, length, refl, sym, ap, subst, arith}
use Rattle.mono_words.specs.declared.mono.TheConstants.{VARS}
use Rattle.polynomials.specs.Monomials.{most_exponent}
use Rattle.polynomials.specs.Polynomials.{Term, term, IsPolynomial}
use Rattle.polynomials.specs.Views.{degree_in}
use Rattle.sparse_poly.proofs.Places.{IsPolynomial-item}
use Rattle.sparse_poly.proofs.Products.{reduced_product}
use Rattle.division_rules.specs.Quotients.{quotient_within}
use Rattle.poly_quotient.proofs.SingleTerms.{AreTerms, single_of, none_undivided, none_wide, terms_pushed, multiple_pushed, single_done}
use Rattle.poly_quotient.proofs.single.divided_by_term.Goals as goal

pub returns-then-term_count-w-clause-none : goal.returns-then-term_count-w-clause-none
returns-then-term_count-w-clause-none c =
    none_wide c.args.w.field VARS c.args.w.width c.facts.ensures.prime c.index-terms-0.result c.args.b.now (single_of c.terms.result.now c.args.b.now c.index-terms-0.result c.terms.ensures.terms c.requires.single c.index-terms-0.is) c.requires.right c.args.a.now c.requires.left c.requires.some (subst (λ k. c.args.w.width < k) c.term_count.ensures c.if-term_count-w.true)

pub returns-then-not-divides-clause-none : goal.returns-then-not-divides-clause-none
returns-then-not-divides-clause-none c =
    ap (λ x. quotient_within c.args.w.field c.args.w.width x c.args.b.now) (sym c.terms-terms.ensures.terms)
    ∙ none_undivided c.args.w.field VARS c.args.w.width c.facts.ensures.prime c.index-terms-0.result c.args.b.now (single_of c.terms.result.now c.args.b.now c.index-terms-0.result c.terms.ensures.terms c.requires.single c.index-terms-0.is) c.requires.right c.terms-terms.result.now (subst (IsPolynomial c.args.w.field VARS) (sym c.terms-terms.ensures.terms) c.requires.left) c.loop-t.t-index c.t-item.result c.loop-t-test.true c.t-item.is (λ h. let f = c.if-not-divides.ensures.1 h in cc)

pub mul-requires-clause-left : goal.mul-requires-clause-left
mul-requires-clause-left c = (IsPolynomial-item c.args.w.field VARS c.loop-t.t-index c.terms-terms.result.now c.t-item.result (subst (IsPolynomial c.args.w.field VARS) (sym c.terms-terms.ensures.terms) c.requires.left) c.loop-t-test.true c.t-item.is).2

pub loop-t-preserved : goal.loop-t-preserved
loop-t-preserved c = (
  subst (AreTerms c.args.w.field VARS) (sym c.in_ok-push.ensures.items) (terms_pushed c.args.w.field VARS c.args.w.width c.facts.ensures.prime c.index-terms-0.result c.args.b.now (single_of c.terms.result.now c.args.b.now c.index-terms-0.result c.terms.ensures.terms c.requires.single c.index-terms-0.is) c.requires.right c.terms-terms.result.now (subst (IsPolynomial c.args.w.field VARS) (sym c.terms-terms.ensures.terms) c.requires.left) c.loop-t.t-index c.t-item.result (term c.quotient-monomial.result c.mul.result) c.loop-t-test.true c.t-item.is (c.if-not-divides.ensures.0 refl) c.shape.ensures.variables c.quotient-monomial.ensures (c.mul.ensures.product ∙ ap (λ x. c.t-item.result.1 * x % c.args.w.field) c.inv-inverse.ensures.inverse) c.loop-t.quotient.items c.loop-t.invariant.0),
  ap (λ (l : List Term). map (reduced_product c.args.w.field c.index-terms-0.result) l ++ drop (c.loop-t.t-index + 1) c.terms-terms.result.now) c.in_ok-push.ensures.items
      ∙ multiple_pushed c.args.w.field VARS c.args.w.width c.facts.ensures.prime c.index-terms-0.result c.args.b.now (single_of c.terms.result.now c.args.b.now c.index-terms-0.result c.terms.ensures.terms c.requires.single c.index-terms-0.is) c.requires.right c.terms-terms.result.now (subst (IsPolynomial c.args.w.field VARS) (sym c.terms-terms.ensures.terms) c.requires.left) c.loop-t.t-index c.t-item.result (term c.quotient-monomial.result c.mul.result) c.loop-t-test.true c.t-item.is (c.if-not-divides.ensures.0 refl) c.shape.ensures.variables c.quotient-monomial.ensures (c.mul.ensures.product ∙ ap (λ x. c.t-item.result.1 * x % c.args.w.field) c.inv-inverse.ensures.inverse) c.loop-t.quotient.items c.loop-t.invariant.1,
)

pub returns-clause-quotient : goal.returns-clause-quotient
returns-clause-quotient c =
    ap (λ x. quotient_within c.args.w.field c.args.w.width x c.args.b.now) (sym c.terms-terms.ensures.terms)
    ∙ single_done c.args.w.field VARS c.args.w.width c.facts.ensures.prime c.index-terms-0.result c.args.b.now (single_of c.terms.result.now c.args.b.now c.index-terms-0.result c.terms.ensures.terms c.requires.single c.index-terms-0.is) c.requires.right c.terms-terms.result.now (subst (IsPolynomial c.args.w.field VARS) (sym c.terms-terms.ensures.terms) c.requires.left) c.loop-t.t-index c.loop-t.quotient.items
    (λ e. c.requires.some (sym c.terms-terms.ensures.terms ∙ e))
    (λ v. subst (λ (l : List Term). degree_in v l ≤ most_exponent) (sym c.terms-terms.ensures.terms) (c.terms-terms.ensures.exponents v))
    (let few = c.if-term_count-w.false in let count = c.term_count.ensures in let same = ap length c.terms-terms.ensures.terms in omega arith)
    c.loop-t-test.false c.loop-t.invariant.0 c.loop-t.invariant.1
