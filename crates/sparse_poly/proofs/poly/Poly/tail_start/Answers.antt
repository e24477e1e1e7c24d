-- The terms before the first with another power have the greatest, and none from there on has it.
use Rattle.std.proofs.Common.{◌≡◌, ◌≢◌, ◌^◌, ◌∙◌, sym, ap, get_or, length, replicate, rules, tests}
use Rattle.std.proofs.lemmas.List.{get_or_default}
use Rattle.std.proofs.lemmas.Iterator.{IsFirst-from_position, YieldsList-from_slice}
use Rattle.std.proofs.option.Match.{if_some, if_none}
use Rattle.mono_words.specs.declared.mono.TheConstants.{VARS}
use Rattle.polynomials.specs.Monomials.{exponent_of}
use Rattle.polynomials.specs.Polynomials.{Term}
use Rattle.sparse_poly.proofs.Leads.{lead_ends}
use Rattle.sparse_poly.proofs.LeadEnds.{tail_behind, tail_behind_all}
use Rattle.sparse_poly.proofs.poly.Poly.tail_start.Goals as goal

pub returns-in-Some-clause-tail : goal.returns-in-Some-clause-tail
returns-in-Some-clause-tail c =
    let found = if_some _ _ _ c.in-Some.is (IsFirst-from_position _ _ _ (λ (t : Term). exponent_of c.args.v t.0 ≢ c.degree_in-degree.result) (λ (t : Term). exponent_of c.args.v t.0 ≡ c.degree_in-degree.result) c.position.ensures.ran (YieldsList-from_slice c.args.self.now (c.iter.ensures.rest ∙ c.terms-terms.ensures.terms)) (λ x q k. search (rules, tests)) (λ x q k. search (rules, tests))) in
    let t : Term = get_or c.args.self.now c.in-Some.end (replicate VARS 0, 0) in
    tail_behind c.args.v c.degree_in-degree.result c.in-Some.end c.args.self.now c.degree_in-degree.ensures found.2
    (lead_ends (2 ^ 32) VARS c.args.v c.degree_in-degree.result c.in-Some.end c.args.self.now t c.terms-terms.ensures.canonical c.requires.greatest c.degree_in-degree.ensures found.0 (get_or_default c.args.self.now c.in-Some.end _ _ found.0) (found.1 (replicate VARS 0, 0)))

pub returns-in-None-clause-tail : goal.returns-in-None-clause-tail
returns-in-None-clause-tail c =
    let all = if_none _ _ c.in-None.is (IsFirst-from_position _ _ _ (λ (t : Term). exponent_of c.args.v t.0 ≢ c.degree_in-degree.result) (λ (t : Term). exponent_of c.args.v t.0 ≡ c.degree_in-degree.result) c.position.ensures.ran (YieldsList-from_slice c.args.self.now (c.iter.ensures.rest ∙ c.terms-terms.ensures.terms)) (λ x q k. search (rules, tests)) (λ x q k. search (rules, tests))) in
    tail_behind_all c.args.v c.degree_in-degree.result (length c.terms-terms.result.now) c.args.self.now c.degree_in-degree.ensures (ap length (sym c.terms-terms.ensures.terms)) all
