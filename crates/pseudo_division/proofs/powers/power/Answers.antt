-- Where a product doesn't fit there is no greater power.
use Rattle.std.proofs.Common.{◌≡◌, ◌+◌, None, sym, ◌∙◌, arith}
use Rattle.division_rules.specs.Within.{times_within}
use Rattle.pseudo_division.specs.FieldOperations.{operations}
use Rattle.pseudo_division.proofs.PowersWithin.{power_of_within-next, power_of_within-none}
use Rattle.pseudo_division.proofs.powers.power.Goals as goal

pub returns-in-None-clause-value : goal.returns-in-None-clause-value
returns-in-None-clause-value c =
    let o = operations c.args.w.field in
    let none : times_within (operations c.args.w.field) c.args.w.width c.loop.product c.args.a.now ≡ None = let e = c.in_ok-times.ensures.value in let i = c.in-None.is in cc in
    sym (power_of_within-none (operations c.args.w.field) c.args.w.width c.args.a.now (c.loop.counter + 1) c.args.e (omega arith) (omega arith)
    (power_of_within-next (operations c.args.w.field) c.args.w.width c.args.a.now c.loop.counter c.loop.product (omega arith) c.loop.invariant.0 ∙ none))
