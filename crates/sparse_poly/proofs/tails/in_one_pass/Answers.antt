-- Single terms are multiplied by the tails as they stand.
use Rattle.std.proofs.Common.{sym, subst, ◌∙◌}
use Rattle.mono_words.specs.declared.mono.TheConstants.{VARS}
use Rattle.polynomials.specs.Polynomials.{IsPolynomial}
use Rattle.polynomials.specs.Views.{degree_in, tail_in}
use Rattle.polynomials.proofs.Coefficients.{IsPolynomial-without_power}
use Rattle.sparse_poly.proofs.OnePass.{only_term, FitsEach-tail_in, IsPolynomial-negative_term, difference_by_terms}
use Rattle.sparse_poly.proofs.tails.in_one_pass.Goals as goal

pub sum_of_multiples-requires-clause-second : goal.sum_of_multiples-requires-clause-second
sum_of_multiples-requires-clause-second c =
    let m_is = only_term c.args.m.now c.terms-2.result.now c.index-terms-0-2.result c.term_count-else-term_count-ne1.result c.terms-2.ensures.terms c.term_count-else-term_count-ne1.ensures c.if-term_count-ne1-2.false c.index-terms-0-2.is in
    IsPolynomial-negative_term c.args.w.now.field VARS c.index-terms-0-2.result (subst (IsPolynomial c.args.w.now.field VARS) m_is c.requires.second.left) c.neg.result c.neg.ensures.negative

pub sum_of_multiples-requires-clause-left : goal.sum_of_multiples-requires-clause-left
sum_of_multiples-requires-clause-left c = subst (IsPolynomial c.args.w.now.field VARS) (sym c.tail_terms-a.ensures) (IsPolynomial-without_power c.args.v (degree_in c.args.v c.args.f.now) c.args.w.now.field VARS c.args.f.now c.requires.first.right)

pub sum_of_multiples-requires-clause-right : goal.sum_of_multiples-requires-clause-right
sum_of_multiples-requires-clause-right c = subst (IsPolynomial c.args.w.now.field VARS) (sym c.tail_terms-b.ensures) (IsPolynomial-without_power c.args.v (degree_in c.args.v c.args.g.now) c.args.w.now.field VARS c.args.g.now c.requires.second.right)

pub sum_of_multiples-requires-clause-left_fits : goal.sum_of_multiples-requires-clause-left_fits
sum_of_multiples-requires-clause-left_fits c =
    let l_is = only_term c.args.l.now c.terms.result.now c.index-terms-0.result c.term_count.result c.terms.ensures.terms c.term_count.ensures c.if-term_count-ne1.false c.index-terms-0.is in
    FitsEach-tail_in c.args.w.now.width c.args.v c.args.l.now c.args.f.now c.index-terms-0.result c.tail_terms-a.result.now l_is c.tail_terms-a.ensures c.requires.first.fit

pub sum_of_multiples-requires-clause-right_fits : goal.sum_of_multiples-requires-clause-right_fits
sum_of_multiples-requires-clause-right_fits c =
    let m_is = only_term c.args.m.now c.terms-2.result.now c.index-terms-0-2.result c.term_count-else-term_count-ne1.result c.terms-2.ensures.terms c.term_count-else-term_count-ne1.ensures c.if-term_count-ne1-2.false c.index-terms-0-2.is in
    FitsEach-tail_in c.args.w.now.width c.args.v c.args.m.now c.args.g.now c.index-terms-0-2.result c.tail_terms-b.result.now m_is c.tail_terms-b.ensures c.requires.second.fit

pub returns-clause-value : goal.returns-clause-value
returns-clause-value c =
    let l_is = only_term c.args.l.now c.terms.result.now c.index-terms-0.result c.term_count.result c.terms.ensures.terms c.term_count.ensures c.if-term_count-ne1.false c.index-terms-0.is in
    let m_is = only_term c.args.m.now c.terms-2.result.now c.index-terms-0-2.result c.term_count-else-term_count-ne1.result c.terms-2.ensures.terms c.term_count-else-term_count-ne1.ensures c.if-term_count-ne1-2.false c.index-terms-0-2.is in
    difference_by_terms c.args.w.now.field VARS c.index-terms-0-2.result (subst (IsPolynomial c.args.w.now.field VARS) m_is c.requires.second.left) c.neg.result c.neg.ensures.negative
    c.args.l.now c.args.m.now (tail_in c.args.v c.args.f.now) (tail_in c.args.v c.args.g.now) c.tail_terms-a.result.now c.tail_terms-b.result.now c.over.result c.index-terms-0.result
    l_is m_is c.tail_terms-a.ensures c.tail_terms-b.ensures
    (subst (IsPolynomial c.args.w.now.field VARS) (sym c.tail_terms-b.ensures) (IsPolynomial-without_power c.args.v (degree_in c.args.v c.args.g.now) c.args.w.now.field VARS c.args.g.now c.requires.second.right))
    (c.over.ensures ∙ c.in_ok-terms.ensures.value)
