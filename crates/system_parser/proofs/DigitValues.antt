-- Numbers, digit by digit.
use Rattle.std.proofs.Common.{◌≡◌, ℕ, ◌+◌, ◌-◌, ◌*◌, ◌^◌, ◌<◌, ◌≤◌, List, length, get_or, take, arith}
use Rattle.std.proofs.Math.Nat.{pow-le-pow_right}
use Rattle.std.specs.Str.Parse.{AllDigits, digits_value}
use Rattle.std.proofs.lemmas.Str.{digit_value_digit}
use Rattle.std.proofs.lemmas.Str.Parse.{digit_at, digits_value-take-le}
use Rattle.std.proofs.lemmas.Int.Digits.{digits_value-lt, digits_value_more}

-- with one digit more the number fits, and is that of the digits
pub record IsNext (digits : List ℕ) (i value : ℕ) : Type 0 where
  pub digit : 48 ≤ get_or digits i 0
  pub next : value * 10 + (get_or digits i 0 - 48) ≡ digits_value 10 (take (i + 1) digits)
  pub small : value * 10 + (get_or digits i 0 - 48) < 1000000000000000000

pub next_digit : (digits : List ℕ) (i value : ℕ) → AllDigits 10 digits → length digits ≤ 18 → i < length digits → value ≡ digits_value 10 (take i digits) → IsNext digits i value
next_digit digits i value all most below is =
    let range = digit_at digits i all below in
    let digit = digit_value_digit (get_or digits i 0) range in
    let low : 48 ≤ get_or digits i 0 = range.0 in
    let more = digits_value_more 10 digits i below in
    let whole : digits_value 10 (take (i + 1) digits) ≤ digits_value 10 digits = digits_value-take-le 10 digits (i + 1) (omega arith) in
    let short : digits_value 10 digits < 10 ^ length digits = digits_value-lt 10 digits all in
    let bound : 10 ^ length digits ≤ 10 ^ 18 = pow-le-pow_right (omega arith) most in
    record {
      digit = low;
      next = omega arith;
      small = omega arith;
    }
