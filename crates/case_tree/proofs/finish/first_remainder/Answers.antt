-- A remainder that isn't 0 is the first.
use Rattle.std.proofs.Common.{◌+◌, true, false, drop, Some, None, sym, ◌∙◌}
use Rattle.polynomials.proofs.PolynomialLists.{IsPolynomial-at}
use Rattle.mono_words.specs.declared.mono.TheConstants.{VARS}
use Rattle.impose_rules.proofs.ChainParts.{triangular_plains}
use Rattle.case_rules.specs.Finish.{first_remainder}
use Rattle.chains.proofs.Takings.{looks_on}
use Rattle.case_tree.proofs.Remainders.{is_zero_by, first_too_wide, first_by_test}
use Rattle.case_tree.proofs.finish.first_remainder.Goals as goal

pub reduce-requires-clause-over : goal.reduce-requires-clause-over
reduce-requires-clause-over c = IsPolynomial-at c.args.w.now.field VARS c.args.inputs.now c.loop-i.i c.at.result.now c.requires.inputs c.at.ensures

pub reduce-requires-clause-triangular : goal.reduce-requires-clause-triangular
reduce-requires-clause-triangular c = triangular_plains 0 c.args.chain.now c.requires.triangular

pub returns-in-None : goal.returns-in-None
returns-in-None c = looks_on (first_remainder c.args.w.now.field VARS c.args.w.now.width c.args.chain.now) c.args.inputs.now c.loop-i.i c.at.result.now None c.at.ensures (first_too_wide c.args.w.now.field c.args.w.now.width c.args.chain.now c.at.result.now (drop (c.loop-i.i + 1) c.args.inputs.now) (sym c.in_ok-reduce.ensures.value ∙ c.in-None.is)) c.loop-i.invariant

pub returns-then-not-is_zero : goal.returns-then-not-is_zero
returns-then-not-is_zero c = looks_on (first_remainder c.args.w.now.field VARS c.args.w.now.width c.args.chain.now) c.args.inputs.now c.loop-i.i c.at.result.now (Some (Some c.in-Some.remainder)) c.at.ensures (first_by_test c.args.w.now.field c.args.w.now.width c.args.chain.now c.at.result.now (drop (c.loop-i.i + 1) c.args.inputs.now) c.in-Some.remainder false (sym c.in_ok-reduce.ensures.value ∙ c.in-Some.is) (is_zero_by c.is_zero.result c.in-Some.remainder c.is_zero.ensures ∙ c.if-not-is_zero.true)) c.loop-i.invariant

pub loop-i-preserved : goal.loop-i-preserved
loop-i-preserved c = looks_on (first_remainder c.args.w.now.field VARS c.args.w.now.width c.args.chain.now) c.args.inputs.now c.loop-i.i c.at.result.now (first_remainder c.args.w.now.field VARS c.args.w.now.width c.args.chain.now (drop (c.loop-i.i + 1) c.args.inputs.now)) c.at.ensures (first_by_test c.args.w.now.field c.args.w.now.width c.args.chain.now c.at.result.now (drop (c.loop-i.i + 1) c.args.inputs.now) c.in-Some.remainder true (sym c.in_ok-reduce.ensures.value ∙ c.in-Some.is) (is_zero_by c.is_zero.result c.in-Some.remainder c.is_zero.ensures ∙ c.if-not-is_zero.false)) c.loop-i.invariant
