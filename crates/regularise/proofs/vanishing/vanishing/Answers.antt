-- What vanishes by the remainder of the zero row's cofactor.
use Rattle.std.proofs.Common.{◌≡◌, ◌≢◌, List, [], Some, sym, subst, ap, ◌∙◌}
use Rattle.mono_words.specs.declared.mono.TheConstants.{VARS}
use Rattle.polynomials.specs.Polynomials.{Polynomial}
use Rattle.polynomials.proofs.PolynomialLists.{IsPolynomial-at}
use Rattle.division_rules.specs.Cofactors.{first_cofactor}
use Rattle.division_rules.specs.PolynomialRows.{IsPolynomialRow}
use Rattle.division_rules.specs.Rows.{Row, plains}
use Rattle.division_rules.specs.Triangular.{AreTriangular}
use Rattle.impose_rules.proofs.ChainParts.{triangular_plains}
use Rattle.pseudo_division.specs.FieldOperations.{operations}
use Rattle.tree_laws.specs.Steps.{fitting_then, gives_way_to}
use Rattle.finish_rules.specs.Remainders.{remainder_of}
use Rattle.finish_rules.specs.Turns.{vanishing}
use Rattle.regularise.proofs.Leads.{remainder_made, vanishing_some}
use Rattle.regularise.proofs.vanishing.vanishing.Goals as goal

pub reduce-requires-clause-over : goal.reduce-requires-clause-over
reduce-requires-clause-over c = IsPolynomial-at c.args.w.now.field VARS c.zero.inside.cofactors 0 c.at.result.now (subst (IsPolynomialRow c.args.w.now.field VARS) (sym c.zero.view_is) c.requires.zero).1 c.at.ensures

pub reduce-requires-clause-triangular : goal.reduce-requires-clause-triangular
reduce-requires-clause-triangular c = subst (λ (chain : List Polynomial). AreTriangular (plains chain)) (sym c.polys.ensures.value) (triangular_plains 0 _ c.polys.ensures.triangular)

pub returns-in_ok-with_composed-in-Some : goal.returns-in_ok-with_composed-in-Some
returns-in_ok-with_composed-in-Some c further =
    let made : remainder_of c.args.w.now.field VARS c.args.w.now.width c.args.chain.now (first_cofactor (operations c.args.w.now.field) c.args.zero.now) ≡ Some c.in-Some.b = remainder_made c.args.w.now.field c.args.w.now.width c.args.chain.now c.polys.result.now c.zero.inside.cofactors c.args.zero.now c.at.result.now c.in_ok-reduce.field-0 c.polys.ensures.value c.at.ensures (ap (λ (z : Row Polynomial). z.cofactors) c.zero.view_is) c.in_ok-reduce.ensures.value ∙ c.in-Some.is in
    let some : c.in-Some.b ≢ [] = λ null. let e = c.is_zero.ensures.1 null in let f = c.if-is_zero.false in cc in
    ap gives_way_to (c.in_ok-with_composed-in-Some.ensures c.args.w.now.field VARS c.args.w.now.width c.args.chain.now c.args.nonzero.now ∙ sym (vanishing_some c.args.w.now.field VARS c.args.w.now.width c.args.chain.now c.args.nonzero.now c.args.sofar.now c.args.leads.now c.in-Some.b some))
    ∙ sym (ap (λ o. fitting_then o (λ b. gives_way_to (vanishing c.args.w.now.field VARS c.args.w.now.width c.args.chain.now c.args.nonzero.now c.args.sofar.now c.args.leads.now b))) made)
