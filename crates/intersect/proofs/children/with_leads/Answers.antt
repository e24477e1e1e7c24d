-- The lead at the place is added.
use Rattle.std.proofs.Common.{sym, ap, ◌∙◌, take}
use Rattle.polynomials.proofs.PolynomialLists.{IsPolynomial-at}
use Rattle.mono_words.specs.declared.mono.TheConstants.{VARS}
use Rattle.zero_sets.specs.Tasks.{with_nonzero}
use Rattle.impose_rules.specs.Leads.{with_all_nonzero}
use Rattle.impose_rules.proofs.LeadPlaces.{with_all-one_more}
use Rattle.regular_gcd.proofs.NonzeroLeads.{nonzero_at}
use Rattle.intersect.proofs.Lists.{take_more}
use Rattle.intersect.proofs.children.with_leads.Goals as goal

pub add-requires-clause-over : goal.add-requires-clause-over
add-requires-clause-over c = IsPolynomial-at c.args.w.now.field VARS c.args.leads.now c.loop-i.i c.at.result.now c.requires.over c.at.ensures

pub add-requires-clause-nonzero : goal.add-requires-clause-nonzero
add-requires-clause-nonzero c = nonzero_at c.args.leads.now c.loop-i.i c.at.result.now c.requires.leads c.at.ensures

pub loop-i-preserved : goal.loop-i-preserved
loop-i-preserved c = c.in_ok-add.ensures.ok ∙ ap (λ ns. with_nonzero c.args.w.now.field ns c.at.result.now) c.loop-i.invariant ∙ sym (ap (with_all_nonzero c.args.w.now.field c.args.nonzero) (take_more c.args.leads.now c.loop-i.i c.at.result.now c.at.ensures) ∙ with_all-one_more c.args.w.now.field c.args.nonzero (take c.loop-i.i c.args.leads.now) c.at.result.now)
