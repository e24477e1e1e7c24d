-- The test finds the place of the number in the table.
use Rattle.std.proofs.Common.{Contains, refl}
use Rattle.std.proofs.lemmas.Bool.{eqb-true}
use Rattle.polynomials.specs.Primes.{field_primes}
use Rattle.field_table.proofs.field.Field.of.Goals as goal
use Rattle.field_table.proofs.field.Field.of.Goals.{Then-contains}

-- the number is one of the table's where the test says so
in_table : (c : Then-contains) → Contains field_primes c.args.p
in_table c =
    let found = c.if-contains.ensures.cases in
    (found.0, found.1, eqb-true _ _ (found.2 c.args.p))

pub invariant_of-result : goal.invariant_of-result
invariant_of-result c = (in_table c, refl)

pub returns-then-contains-clause-offered : goal.returns-then-contains-clause-offered
returns-then-contains-clause-offered c = (λ _. in_table c, λ _. refl)
