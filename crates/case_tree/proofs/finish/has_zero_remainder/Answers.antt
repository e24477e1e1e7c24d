-- Each remainder is 0 or another, or a product doesn't fit.
use Rattle.std.proofs.Common.{◌+◌, true, false, drop, Some, None, sym, ◌∙◌}
use Rattle.polynomials.proofs.PolynomialLists.{IsPolynomial-at}
use Rattle.mono_words.specs.declared.mono.TheConstants.{VARS}
use Rattle.impose_rules.proofs.ChainParts.{triangular_plains}
use Rattle.case_rules.specs.Finish.{has_zero_remainder}
use Rattle.chains.proofs.Takings.{looks_on}
use Rattle.case_tree.proofs.Remainders.{is_zero_by, zero_too_wide, zero_by_test}
use Rattle.case_tree.proofs.finish.has_zero_remainder.Goals as goal

pub reduce-requires-clause-over : goal.reduce-requires-clause-over
reduce-requires-clause-over c = IsPolynomial-at c.args.w.now.field VARS c.args.list.now c.loop-i.i c.at.result.now c.requires.list c.at.ensures

pub reduce-requires-clause-triangular : goal.reduce-requires-clause-triangular
reduce-requires-clause-triangular c = triangular_plains 0 c.args.chain.now c.requires.triangular

pub returns-in-None : goal.returns-in-None
returns-in-None c = looks_on (has_zero_remainder c.args.w.now.field VARS c.args.w.now.width c.args.chain.now) c.args.list.now c.loop-i.i c.at.result.now None c.at.ensures (zero_too_wide c.args.w.now.field c.args.w.now.width c.args.chain.now c.at.result.now (drop (c.loop-i.i + 1) c.args.list.now) (sym c.in_ok-reduce.ensures.value ∙ c.in-None.is)) c.loop-i.invariant

pub returns-then-is_zero : goal.returns-then-is_zero
returns-then-is_zero c = looks_on (has_zero_remainder c.args.w.now.field VARS c.args.w.now.width c.args.chain.now) c.args.list.now c.loop-i.i c.at.result.now (Some true) c.at.ensures (zero_by_test c.args.w.now.field c.args.w.now.width c.args.chain.now c.at.result.now (drop (c.loop-i.i + 1) c.args.list.now) c.in-Some.remainder true (sym c.in_ok-reduce.ensures.value ∙ c.in-Some.is) (is_zero_by c.is_zero.result c.in-Some.remainder c.is_zero.ensures ∙ c.if-is_zero.true)) c.loop-i.invariant

pub loop-i-preserved : goal.loop-i-preserved
loop-i-preserved c = looks_on (has_zero_remainder c.args.w.now.field VARS c.args.w.now.width c.args.chain.now) c.args.list.now c.loop-i.i c.at.result.now (has_zero_remainder c.args.w.now.field VARS c.args.w.now.width c.args.chain.now (drop (c.loop-i.i + 1) c.args.list.now)) c.at.ensures (zero_by_test c.args.w.now.field c.args.w.now.width c.args.chain.now c.at.result.now (drop (c.loop-i.i + 1) c.args.list.now) c.in-Some.remainder false (sym c.in_ok-reduce.ensures.value ∙ c.in-Some.is) (is_zero_by c.is_zero.result c.in-Some.remainder c.is_zero.ensures ∙ c.if-is_zero.false)) c.loop-i.invariant
