-- The polynomial at the place is 0, or a later one is.
use Rattle.std.proofs.Common.{ap, ◌∙◌, ◌+◌, drop, true, ◌||◌}
use Rattle.std.specs.List.{list_any}
use Rattle.polynomials.specs.Polynomials.{is_zero}
use Rattle.chains.proofs.Takings.{looks_on}
use Rattle.case_tree.proofs.Remainders.{is_zero_by}
use Rattle.case_tree.proofs.root.has_zero.Goals as goal

pub returns-then-is_zero : goal.returns-then-is_zero
returns-then-is_zero c =
    let rest = drop (c.loop-i.i + 1) c.args.list.now in
    looks_on (list_any is_zero) c.args.list.now c.loop-i.i c.at.result.now true c.at.ensures (ap (λ b. b || list_any is_zero rest) (is_zero_by c.is_zero.result c.at.result.now c.is_zero.ensures ∙ c.if-is_zero.true)) c.loop-i.invariant

pub loop-i-preserved : goal.loop-i-preserved
loop-i-preserved c =
    let rest = drop (c.loop-i.i + 1) c.args.list.now in
    looks_on (list_any is_zero) c.args.list.now c.loop-i.i c.at.result.now (list_any is_zero rest) c.at.ensures (ap (λ b. b || list_any is_zero rest) (is_zero_by c.is_zero.result c.at.result.now c.is_zero.ensures ∙ c.if-is_zero.false)) c.loop-i.invariant
