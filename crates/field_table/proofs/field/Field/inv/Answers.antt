-- A step of Euclid's keeps the product, and the last remainder is 1, so the last product is the inverse.
use Rattle.std.proofs.Common.{arith, ◌∙◌}
use Rattle.polynomials.proofs.PrimeLemmas.{IsPrime-field_primes}
use Rattle.polynomials.proofs.InverseLemmas.{inverse_of_unique}
use Rattle.field_table.proofs.Euclid.{next_step}
use Rattle.field_table.proofs.field.Field.inv.Goals as goal

pub loop-rest-preserved : goal.loop-rest-preserved
loop-rest-preserved c =
    rw c.product_modulo-product.ensures
    (next_step c.self.inside.prime c.args.a c.loop-rest.rest c.loop-rest.product
    (IsPrime-field_primes c.self.inside.prime c.self.invariant.0) c.loop-rest-test.true c.loop-rest.invariant)

pub returns-clause-inverse : goal.returns-clause-inverse
returns-clause-inverse c =
    rw (← c.self.view_is)
    (inverse_of_unique c.self.inside.prime c.args.a c.loop-rest.product
    (IsPrime-field_primes c.self.inside.prime c.self.invariant.0)
    c.requires.nonzero (rw c.self.view_is c.requires.below) c.loop-rest.invariant.product_below
    (c.loop-rest.invariant.multiple ∙ omega (arith, c.loop-rest.invariant.positive)))
