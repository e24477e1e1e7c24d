-- Each term from the first with another power on has a smaller one.
use Rattle.std.proofs.Common.{◌≡◌, ◌≢◌, ◌^◌, ◌∙◌, get_or, replicate, rules, tests}
use Rattle.std.proofs.lemmas.List.{get_or_default}
use Rattle.std.proofs.lemmas.Iterator.{IsFirst-from_position, YieldsList-from_slice}
use Rattle.std.proofs.option.Match.{if_some}
use Rattle.mono_words.specs.declared.mono.TheConstants.{VARS}
use Rattle.polynomials.specs.Monomials.{exponent_of}
use Rattle.polynomials.specs.Polynomials.{Term}
use Rattle.sparse_poly.proofs.Leads.{lead_ends}
use Rattle.sparse_poly.proofs.poly.Poly.lead_end.Goals as goal

pub returns-in-Some-clause-rest : goal.returns-in-Some-clause-rest
returns-in-Some-clause-rest c =
    let found = if_some _ _ _ c.in-Some.is (IsFirst-from_position _ _ _ (λ (t : Term). exponent_of c.args.v t.0 ≢ c.args.degree) (λ (t : Term). exponent_of c.args.v t.0 ≡ c.args.degree) c.position.ensures.ran (YieldsList-from_slice c.args.self.now (c.iter.ensures.rest ∙ c.terms-terms.ensures.terms)) (λ x q k. search (rules, tests)) (λ x q k. search (rules, tests))) in
    let t : Term = get_or c.args.self.now c.in-Some.end (replicate VARS 0, 0) in
    lead_ends (2 ^ 32) VARS c.args.v c.args.degree c.in-Some.end c.args.self.now t c.terms-terms.ensures.canonical (c.is_free_above.ensures.0 c.if-not-is_free_above.false) c.requires.degree found.0 (get_or_default c.args.self.now c.in-Some.end _ _ found.0) (found.1 (replicate VARS 0, 0))
