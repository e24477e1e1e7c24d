-- Digits that are read as the value of an option.
use Rattle.std.proofs.Common.{◌≡◌, ℕ, ◌≤◌, List, get_or, arith}
use Rattle.std.specs.Prelude.{Ok}
use Rattle.std.specs.Str.Parse.{AllDigits, ParsesUnsigned, digits_value}
use Rattle.std.proofs.lemmas.Grind.{get_or_default_zero}
use Rattle.std.proofs.lemmas.Str.Parse.{numerals_by_value, parse_plain, tells_digits}
use Rattle.tri_io.specs.Commands.{Rule, IsNumberOf}

-- what begins with a digit other than 0 has no sign, so it is read as it stands
pub number_read : (rule : Rule) (digits : List ℕ) (number : ℕ) → 49 ≤ get_or digits 0 0 → get_or digits 0 0 ≤ 57
    → ParsesUnsigned {E = Unit {0}} 32 10 digits (Ok number) → rule.least ≤ number → number ≤ rule.most
    → IsNumberOf rule digits × (number ≡ digits_value 10 digits)
number_read rule digits number low high parsed least most =
    let read = parse_plain (numerals_by_value (AllDigits 10) tells_digits) {E = Unit {0}} 32 digits (Ok number) parsed (omega arith) in (
      record {
        number = (read.0.1, read.0.0);
        unpadded = λ padded. omega (arith, padded, get_or_default_zero digits 0 48 read.0.1);
        least = omega (arith, read.1, least);
        most = omega (arith, read.1, most);
      },
      read.1,
    )
