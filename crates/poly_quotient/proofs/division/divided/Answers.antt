-- A division begins with the terms that were found, or with none.
use Rattle.std.proofs.Common.{◌≡◌, ◌∷◌, ◌*◌, ◌≤◌, IfSome, true, length, sym, subst, arith}
use Rattle.mono_words.specs.declared.mono.TheConstants.{VARS}
use Rattle.polynomials.specs.Polynomials.{Term, Polynomial}
use Rattle.polynomials.specs.Fits.{fits}
use Rattle.division_rules.proofs.Divisions.{IsDivision}
use Rattle.sparse_poly.specs.Pairs.{PairsFit}
use Rattle.sparse_poly.proofs.FittingPairs.{PairsFit-from_fits}
use Rattle.poly_quotient.proofs.BegunDivisions.{few_from_fits}
use Rattle.poly_quotient.proofs.Clauses.{IfSome-weaker, none_of_narrow}
use Rattle.poly_quotient.proofs.Turns.{begins}
use Rattle.poly_quotient.proofs.division.divided.Goals as goal

pub divided_by_terms-requires-clause-begun : goal.divided_by_terms-requires-clause-begun
divided_by_terms-requires-clause-begun c = λ u g whole. begins c.args.w.field VARS c.args.w.width c.facts.ensures.prime c.args.a.now c.args.b.now u c.requires.left c.requires.right c.requires.some g whole c.new-none.result.items c.terms.result.now c.new-none.ensures.items c.terms.ensures.terms

pub divided_by_terms-requires-in-Some-clause-begun : goal.divided_by_terms-requires-in-Some-clause-begun
divided_by_terms-requires-in-Some-clause-begun c = λ u g whole.
    rw (c.in_ok-terms-in-Some.ensures.items, c.terms-in-Some.ensures.terms, c.terms-in-Some-2.ensures.terms)
    (subst (λ o. IfSome o (λ d. (u : Term) (g : Polynomial) → c.args.b.now ≡ u ∷ g → IsDivision c.args.w.field VARS u g c.args.a.now d.0 d.1)) c.in-Some.is c.in_ok-begun.ensures.division u g whole)

pub divided_by_terms-requires-in-Some-clause-few : goal.divided_by_terms-requires-in-Some-clause-few
divided_by_terms-requires-in-Some-clause-few c =
    rw (c.in_ok-terms-in-Some.ensures.items, c.terms-in-Some.ensures.terms)
    (subst (λ o. IfSome o (λ d. length d.0 * length c.args.b.now ≤ c.args.w.width)) c.in-Some.is (IfSome-weaker (λ (d : Polynomial × Polynomial). fits c.args.w.width d.0 c.args.b.now ≡ true) (λ (d : Polynomial × Polynomial). length d.0 * length c.args.b.now ≤ c.args.w.width) c.in_ok-begun.field-0 (λ d h. few_from_fits c.args.w.width d.0 c.args.b.now h) c.in_ok-begun.ensures.fit))

pub divided_by_terms-requires-in-Some-clause-fit : goal.divided_by_terms-requires-in-Some-clause-fit
divided_by_terms-requires-in-Some-clause-fit c =
    rw (c.in_ok-terms-in-Some.ensures.items, c.terms-in-Some.ensures.terms)
    (subst (λ o. IfSome o (λ d. PairsFit d.0 c.args.b.now)) c.in-Some.is (IfSome-weaker (λ (d : Polynomial × Polynomial). fits c.args.w.width d.0 c.args.b.now ≡ true) (λ (d : Polynomial × Polynomial). PairsFit d.0 c.args.b.now) c.in_ok-begun.field-0 (λ d h. PairsFit-from_fits c.args.w.width d.0 c.args.b.now h) c.in_ok-begun.ensures.fit))

pub divided_by_terms-requires-clause-fit : goal.divided_by_terms-requires-clause-fit
divided_by_terms-requires-clause-fit c = subst (λ (l : Polynomial). PairsFit l c.args.b.now) (sym c.new-none.ensures.items) tt

pub returns-then-term_count-width-clause-none : goal.returns-then-term_count-width-clause-none
returns-then-term_count-width-clause-none c = none_of_narrow c.args.w.field VARS c.args.w.width c.args.a.now c.args.b.now (let more = c.if-term_count-width.true in let count = c.term_count-2.ensures in omega arith) c.requires.some
