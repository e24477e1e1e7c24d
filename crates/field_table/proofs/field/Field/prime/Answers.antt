-- The invariant says that the number is one of the table's, and those are primes.
use Rattle.polynomials.proofs.PrimeLemmas.{IsPrime-field_primes}
use Rattle.field_table.proofs.field.Field.prime.Goals as goal

pub returns-clause-prime : goal.returns-clause-prime
returns-clause-prime c = IsPrime-field_primes c.args.self (rw (← c.self.view_is) c.self.invariant.0)
