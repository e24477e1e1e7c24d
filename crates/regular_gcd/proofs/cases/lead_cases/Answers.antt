-- Each lead is known by then, or new and makes a case.
use Rattle.std.proofs.Common.{◌++◌, drop, sym, ap, ◌∙◌, arith}
use Rattle.polynomials.proofs.PolynomialLists.{IsPolynomial-at}
use Rattle.zero_sets.specs.Tasks.{with_nonzero}
use Rattle.mono_words.specs.declared.mono.TheConstants.{VARS}
use Rattle.impose_rules.specs.Leads.{lead_cases, unknown_from}
use Rattle.regular_gcd.proofs.NonzeroLeads.{nonzero_at}
use Rattle.regular_gcd.proofs.NewLeads.{cases_begin, case_passed, case_added, cases_end}
use Rattle.regular_gcd.proofs.cases.lead_cases.Goals as goal
use Rattle.regular_gcd.proofs.cases.lead_cases.Goals.{then-branch+in_ok-push, else-branch}

pub is_new-requires-clause-over : goal.is_new-requires-clause-over
is_new-requires-clause-over c = IsPolynomial-at c.args.f VARS c.args.rows.now.leads 0 c.at.result.now c.requires.leads.over c.at.ensures

pub is_new-requires-clause-some : goal.is_new-requires-clause-some
is_new-requires-clause-some c = nonzero_at c.args.rows.now.leads 0 c.at.result.now c.requires.leads.nonzero c.at.ensures

pub is_new-requires-in-loop-i-clause-over : goal.is_new-requires-in-loop-i-clause-over
is_new-requires-in-loop-i-clause-over c = IsPolynomial-at c.args.f VARS c.args.rows.now.leads c.loop-i.i c.at-in-loop-i.result.now c.requires.leads.over c.at-in-loop-i.ensures

pub is_new-requires-in-loop-i-clause-some : goal.is_new-requires-in-loop-i-clause-some
is_new-requires-in-loop-i-clause-some c = nonzero_at c.args.rows.now.leads c.loop-i.i c.at-in-loop-i.result.now c.requires.leads.nonzero c.at-in-loop-i.ensures

pub loop-i-init : goal.loop-i-init
loop-i-init c =
    let known = c.args.nonzero.now ++ c.is_new.new.added in
    let first = c.in_ok-is_new.ensures.added ∙ ap (λ xs. with_nonzero c.args.f (c.args.nonzero.now ++ xs) c.at.result.now) c.empty-added.ensures in
    cases_begin c.args.f c.args.nonzero.now c.args.rows.now.leads known c.at.result.now c.at.ensures first ∙ ap (λ xs. xs ++ unknown_from c.args.f known 2 (drop 1 c.args.rows.now.leads)) (sym c.new-places.ensures)

pub loop-i-preserved : goal.loop-i-preserved
loop-i-preserved c =
    let known = c.args.nonzero.now ++ c.loop-i.added in
    let more = c.args.nonzero.now ++ c.is_new-in-loop-i.new.added in
    let ls = c.args.rows.now.leads in
    let all = lead_cases c.args.f c.args.nonzero.now ls in
    elim c.if-branch.branch [
      | then-branch+in_ok-push w ↦ case_added c.args.f known ls c.loop-i.i c.at-in-loop-i.result.now c.at-in-loop-i.ensures more c.in_ok-is_new-2.ensures.added c.loop-i.places all c.loop-i.invariant c.in_ok-is_new-2.field-0 c.in_ok-is_new-2.ensures.new w.if-branch.true c.if-branch.places (w.places-is ∙ w.in_ok-push.ensures.ok)
      | else-branch w ↦ case_passed c.args.f known ls c.loop-i.i c.at-in-loop-i.result.now c.at-in-loop-i.ensures more c.in_ok-is_new-2.ensures.added c.loop-i.places all c.loop-i.invariant c.in_ok-is_new-2.field-0 c.in_ok-is_new-2.ensures.new w.if-branch.false c.if-branch.places w.places-is
    ]

pub returns : goal.returns
returns c = cases_end c.args.f (c.args.nonzero.now ++ c.loop-i.added) c.args.rows.now.leads c.loop-i.i c.loop-i.places (lead_cases c.args.f c.args.nonzero.now c.args.rows.now.leads) (let count = c.count-i-end.ensures in let end = c.loop-i-test.false in omega arith) c.loop-i.invariant
