-- What is spread is canonical.
use Rattle.std.proofs.Common.{◌≡◌, length, Some, sym, subst, ap, ap₂, ◌∙◌}
use Rattle.mono_words.specs.declared.mono.TheConstants.{VARS}
use Rattle.polynomials.specs.Polynomials.{ArePolynomials}
use Rattle.polynomials.proofs.PolynomialLists.{IsPolynomial-at}
use Rattle.division_rules.specs.PolynomialRows.{IsPolynomialRow}
use Rattle.row_laws.specs.Compositions.{spread}
use Rattle.division_rules.specs.Units.{entrywise_sum}
use Rattle.division_rules.specs.Within.{times_all_within}
use Rattle.pseudo_division.specs.FieldOperations.{operations}
use Rattle.finish_rules.specs.Identities.{composed_within}
use Rattle.certificates.proofs.Combinations.{composed_of}
use Rattle.certificates.proofs.Entries.{spread_are}
use Rattle.certificates.proofs.composition.composed.Goals as goal

pub times_all-requires-clause-factor : goal.times_all-requires-clause-factor
times_all-requires-clause-factor c = IsPolynomial-at c.args.w.now.field VARS c.next.inside.cofactors 0 c.at.result.now (subst (IsPolynomialRow c.args.w.now.field VARS) (sym c.next.view_is) c.requires.next).1 c.at.ensures

pub sums-requires-clause-right : goal.sums-requires-clause-right
sums-requires-clause-right c = subst (ArePolynomials c.args.w.now.field VARS) (sym c.in_ok-places-in-Some.ensures) (spread_are c.args.w.now.field VARS c.count.result c.next.inside.cofactors (subst (IsPolynomialRow c.args.w.now.field VARS) (sym c.next.view_is) c.requires.next).1)

pub returns-in_ok-copy-in-Some : goal.returns-in_ok-copy-in-Some
returns-in_ok-copy-in-Some c =
    let fits : times_all_within (operations c.args.w.now.field) c.args.w.now.width c.at.result.now c.sofar.inside.cofactors ≡ Some c.in-Some.multiplied = let e = c.in_ok-times_all.ensures.value in let i = c.in-Some.is in cc in
    let sums : c.in_ok-cofactors-in-Some.cofactors ≡ entrywise_sum (operations c.args.w.now.field) c.in-Some.multiplied (spread (length c.sofar.inside.cofactors) c.next.inside.cofactors) = c.in_ok-cofactors-in-Some.ensures ∙ ap (entrywise_sum (operations c.args.w.now.field) c.in-Some.multiplied) (c.in_ok-places-in-Some.ensures ∙ ap (λ k. spread k c.next.inside.cofactors) c.count.ensures) in
    composed_of c.args.w.now.field VARS c.args.w.now.width (record { first = c.sofar.inside.first; cofactors = c.sofar.inside.cofactors }) (record { first = c.next.inside.first; cofactors = c.next.inside.cofactors }) c.at.result.now c.in_ok-copy-in-Some.field-0 c.in-Some.multiplied c.in_ok-cofactors-in-Some.cofactors c.at.ensures fits sums c.in_ok-copy-in-Some.ensures ∙ ap₂ (composed_within c.args.w.now.field VARS c.args.w.now.width) c.sofar.view_is c.next.view_is
