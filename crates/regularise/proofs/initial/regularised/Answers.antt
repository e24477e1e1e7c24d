-- The initial of the member is reduced by the polynomials below, and starts the turns.
use Rattle.std.proofs.Common.{◌≡◌, ◌≢◌, [], Some, ap, ◌∙◌}
use Rattle.mono_words.specs.declared.mono.TheConstants.{VARS}
use Rattle.polynomials.specs.Polynomials.{Polynomial}
use Rattle.division_rules.specs.Rows.{Row}
use Rattle.sparse_poly.proofs.SortedTerms.{IfOk-implied}
use Rattle.certificates.proofs.Members.{member_initial, lower_canonical}
use Rattle.finish_rules.specs.Identities.{initial_row}
use Rattle.regularise.specs.Answers.{as_step}
use Rattle.regularise.proofs.Starts.{lower_triangular, few_lower, starts, by_turns}
use Rattle.regularise.proofs.initial.regularised.Goals as goal

pub initial_row-requires-clause-initial : goal.initial_row-requires-clause-initial
initial_row-requires-clause-initial c = member_initial c.args.w.now.field VARS c.args.v c.args.chain.now c.in_ok-initial.initial c.requires.chain c.requires.main c.in_ok-initial.ensures

pub initial_row-requires-clause-below : goal.initial_row-requires-clause-below
initial_row-requires-clause-below c = lower_canonical c.args.w.now.field VARS c.args.v c.args.chain.now c.in_ok-below.below c.requires.chain c.in_ok-below.ensures

pub initial_row-requires-clause-triangular : goal.initial_row-requires-clause-triangular
initial_row-requires-clause-triangular c = lower_triangular c.args.v c.args.chain.now c.in_ok-below.below c.in_ok-below.ensures c.facts-2.ensures.triangular

pub initial_row-requires-clause-places : goal.initial_row-requires-clause-places
initial_row-requires-clause-places c = few_lower c.args.w.now.field c.args.w.now.width c.args.v c.facts.ensures.prime c.args.chain.now c.args.nonzero.now c.requires.chain c.facts-2.ensures.triangular c.requires.main c.in_ok-initial.initial c.in_ok-below.below c.in_ok-initial.ensures c.in_ok-below.ensures

pub turns-requires : goal.turns-requires
turns-requires c =
    let made : initial_row c.args.w.now.field VARS c.args.w.now.width c.in_ok-initial.initial c.in_ok-below.below ≡ Some c.in-Some.row = let e = c.in_ok-initial_row.ensures in let i = c.in-Some.is in cc in
    let nonzero : c.in-Some.row.first ≢ [] = λ null. let e = c.is_zero.ensures.1 (ap (λ (r : Row Polynomial). r.first) c.row.view_is ∙ null) in let f = c.if-is_zero.false in cc in
    starts c.args.w.now.field c.args.w.now.width c.args.v c.facts.ensures.prime c.args.chain.now c.args.nonzero.now c.requires.chain c.facts-2.ensures.triangular c.requires.main c.in_ok-initial.initial c.in_ok-below.below c.in_ok-initial.ensures c.in_ok-below.ensures c.in-Some.row made nonzero

pub returns : goal.returns
returns c =
    let made : initial_row c.args.w.now.field VARS c.args.w.now.width c.in_ok-initial.initial c.in_ok-below.below ≡ Some c.in-Some.row = let e = c.in_ok-initial_row.ensures in let i = c.in-Some.is in cc in
    let nonzero : c.in-Some.row.first ≢ [] = λ null. let e = c.is_zero.ensures.1 (ap (λ (r : Row Polynomial). r.first) c.row.view_is ∙ null) in let f = c.if-is_zero.false in cc in
    IfOk-implied _ _ c.turns.result (λ r each. by_turns c.args.w.now.field c.args.w.now.width c.args.v c.facts.ensures.prime c.args.chain.now c.args.nonzero.now c.requires.chain c.facts-2.ensures.triangular c.requires.main c.in_ok-initial.initial c.in_ok-below.below c.in_ok-initial.ensures c.in_ok-below.ensures c.in-Some.row (as_step r) made nonzero each) c.turns.ensures
