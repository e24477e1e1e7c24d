-- The polynomial at the place is added.
use Rattle.std.proofs.Common.{sym, ap, ◌∙◌, ◌+◌, drop}
use Rattle.item_lists.proofs.Places.{drop_at}
use Rattle.mono_words.specs.declared.mono.TheConstants.{VARS}
use Rattle.polynomials.proofs.PolynomialLists.{IsPolynomial-at}
use Rattle.impose_rules.specs.Leads.{with_all_nonzero}
use Rattle.case_tree.proofs.Roots.{nonzero_at}
use Rattle.case_tree.proofs.root.all_nonzero.Goals as goal

pub add-requires-clause-over : goal.add-requires-clause-over
add-requires-clause-over c = IsPolynomial-at c.args.field VARS c.args.list.now c.loop-i.i c.at.result.now c.requires.over c.at.ensures

pub add-requires-clause-nonzero : goal.add-requires-clause-nonzero
add-requires-clause-nonzero c = nonzero_at c.args.list.now c.loop-i.i c.at.result.now c.requires.nonzero c.at.ensures

pub loop-i-preserved : goal.loop-i-preserved
loop-i-preserved c = ap (λ ns. with_all_nonzero c.args.field ns (drop (c.loop-i.i + 1) c.args.list.now)) c.in_ok-add.ensures.ok ∙ sym (ap (with_all_nonzero c.args.field c.loop-i.all) (drop_at c.args.list.now c.loop-i.i c.at.result.now c.at.ensures)) ∙ c.loop-i.invariant
