-- The number is no prime of the table.
use Rattle.system_parser.specs.Tokens.{placed_of}
use Rattle.system_parser.proofs.OtherPrimes.{other_prime}
use Rattle.system_parser.proofs.heads.prime_number.Goals as goal

pub returns-in-Err : goal.returns-in-Err
returns-in-Err c =
    other_prime (placed_of c.args.t.now) c.args.digits.now c.args.tokens.now c.in-Some.p c.in-Some.ensures (λ h. let offered = c.in-Err.ensures.offered.1 h in cc)
