-- A lead is taken, made monic, where it isn't known.
use Rattle.std.proofs.Common.{◌+◌, drop, sym, ◌∙◌}
use Rattle.mono_words.specs.declared.mono.TheConstants.{VARS}
use Rattle.polynomials.proofs.PolynomialLists.{IsPolynomial-at}
use Rattle.finish_rules.specs.Turns.{unknown_monic}
use Rattle.chains.proofs.Takings.{takes_none}
use Rattle.regular_gcd.proofs.NonzeroLeads.{nonzero_at}
use Rattle.regularise.proofs.Leads.{known_passed, taken_more}
use Rattle.regularise.proofs.vanishing.unknown_monic.Goals as goal
use Rattle.regularise.proofs.vanishing.unknown_monic.Goals.{then-not-knows+in_ok-monic+in_ok-push, else-not-knows}

pub knows-requires-clause-over : goal.knows-requires-clause-over
knows-requires-clause-over c = IsPolynomial-at c.args.f VARS c.args.leads.now c.loop-i.i c.at-l.result.now c.requires.over c.at-l.ensures

pub knows-requires-clause-nonzero : goal.knows-requires-clause-nonzero
knows-requires-clause-nonzero c = nonzero_at c.args.leads.now c.loop-i.i c.at-l.result.now c.requires.leads c.at-l.ensures

pub monic-requires : goal.monic-requires
monic-requires c = IsPolynomial-at c.args.f VARS c.args.leads.now c.loop-i.i c.at-l.result.now c.requires.over c.at-l.ensures

pub loop-i-preserved : goal.loop-i-preserved
loop-i-preserved c = elim c.if-not-knows.branch [
  | then-not-knows+in_ok-monic+in_ok-push w ↦ taken_more c.args.f c.args.nonzero.now (unknown_monic c.args.f c.args.nonzero.now c.args.leads.now) c.args.leads.now c.loop-i.list c.if-not-knows.list c.loop-i.i c.at-l.result.now w.in_ok-monic.field-0 c.at-l.ensures (sym c.knows.ensures ∙ w.if-not-knows.true) w.in_ok-monic.ensures.monic (w.list-is ∙ w.in_ok-push.ensures.ok) c.loop-i.invariant
  | else-not-knows w ↦ takes_none (unknown_monic c.args.f c.args.nonzero.now) (unknown_monic c.args.f c.args.nonzero.now c.args.leads.now) c.args.leads.now c.loop-i.list c.loop-i.i c.if-not-knows.list c.at-l.result.now c.at-l.ensures (known_passed c.args.f c.args.nonzero.now c.at-l.result.now (drop (c.loop-i.i + 1) c.args.leads.now) (sym c.knows.ensures ∙ w.if-not-knows.false)) w.list-is c.loop-i.invariant
]
