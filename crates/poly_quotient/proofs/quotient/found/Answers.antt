-- The last monomials and the degrees allow a quotient, and the division finds it.
use Rattle.std.proofs.Common.{◌≡◌, ◌∙◌, Some, IfSome, sym, ap, subst}
use Rattle.mono_words.specs.declared.mono.TheConstants.{VARS}
use Rattle.division_rules.specs.Quotients.{quotient_within}
use Rattle.poly_quotient.proofs.Clauses.{none_of_last, none_of_degrees, room_of, canonical_of}
use Rattle.poly_quotient.proofs.quotient.found.Goals as goal

pub last_monomial-last-requires : goal.last_monomial-last-requires
last_monomial-last-requires c = λ e.
    let f = c.if-is_zero.ensures.1 (sym c.terms.ensures.terms ∙ e) in
    cc

pub last_monomial-by-requires : goal.last_monomial-by-requires
last_monomial-by-requires c = λ e. c.requires.nonzero (sym c.terms-2.ensures.terms ∙ e)

pub returns-then-not-divides : goal.returns-then-not-divides
returns-then-not-divides c =
    sym (none_of_last c.args.w.field VARS c.args.w.width c.facts.ensures.prime c.args.a.now c.args.b.now c.requires.left c.requires.right c.requires.nonzero c.last_monomial-by.result c.last_monomial-last.result
    (c.last_monomial-by.ensures.0, (c.last_monomial-by.ensures.1.0, sym c.terms-2.ensures.terms ∙ c.last_monomial-by.ensures.1.1))
    (c.last_monomial-last.ensures.0, (c.last_monomial-last.ensures.1.0, sym c.terms.ensures.terms ∙ c.last_monomial-last.ensures.1.1))
    (λ h. let f = c.if-not-divides.ensures.1 h in cc))

pub returns-then-not-divides-2 : goal.returns-then-not-divides-2
returns-then-not-divides-2 c =
    sym (none_of_degrees c.args.w.field VARS c.args.w.width c.facts.ensures.prime c.args.a.now c.args.b.now c.requires.left c.requires.right c.requires.nonzero c.degrees-low.result c.degrees-high.result c.degrees-low.ensures c.degrees-high.ensures
    (λ e. let f = c.if-is_zero.ensures.1 e in cc)
    (λ h. let f = c.if-not-divides-2.ensures.1 h in cc))

pub divided-requires-clause-room : goal.divided-requires-clause-room
divided-requires-clause-room c = room_of c.args.w.field VARS c.args.w.width c.facts.ensures.prime c.args.a.now c.args.b.now c.requires.left c.requires.right c.requires.nonzero c.degrees-low.result c.degrees-high.result c.degrees-low.ensures c.degrees-high.ensures c.quotient.result c.quotient.ensures

pub over-requires : goal.over-requires
over-requires c = canonical_of c.args.w.field VARS c.args.w.width c.facts.ensures.prime c.args.a.now c.args.b.now c.requires.left c.requires.right c.requires.nonzero c.in-Some.terms.items (subst (λ o. IfSome o (λ q. quotient_within c.args.w.field c.args.w.width c.args.a.now c.args.b.now ≡ Some q.items)) c.in-Some.is c.in_ok-terms.ensures.quotient)

pub returns : goal.returns
returns c = ap Some c.over.ensures ∙ sym (subst (λ o. IfSome o (λ q. quotient_within c.args.w.field c.args.w.width c.args.a.now c.args.b.now ≡ Some q.items)) c.in-Some.is c.in_ok-terms.ensures.quotient)
