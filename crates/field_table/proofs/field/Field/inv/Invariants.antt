-- Each remainder is the number that is to be inverted times the product.
use Rattle.std.proofs.Common.{◌-◌}
use Rattle.field_table.proofs.field.Field.inv.Given as goal
use Rattle.field_table.proofs.Euclid.{IsStepOfEuclid}

abbrev pub invariant-loop-rest : goal.invariant-loop-rest
invariant-loop-rest l = IsStepOfEuclid l.p l.a l.rest l.product

abbrev pub decreases-loop-rest : goal.decreases-loop-rest
decreases-loop-rest l = l.rest - 1
