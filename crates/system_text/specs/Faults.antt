-- What is wrong with a text: the number of the refusal, and its place.
use Rattle.std.specs.Prelude.{ℕ}
use Rattle.system_text.specs.Tokens.{Token, Placed, NotText}

-- in a line: the number of the refusal and the place of a byte, counted from 1
pub record Fault : Type 0 where
  pub number : ℕ
  pub byte : ℕ

-- in a text: the line too, counted from 1
pub record Refusal : Type 0 where
  pub number : ℕ
  pub line : ℕ
  pub byte : ℕ

-- a fault of a line
abbrev pub fault : ℕ → ℕ → Fault
fault number byte = record { number = number; byte = byte }

-- the refusal of a byte that is no text, and this one of any other token
abbrev pub number_at : ℕ → Token → ℕ
number_at number NotText = 1
number_at number _ = number

-- the token can't stand where it is
abbrev pub misplaced : ℕ → Placed → Fault
misplaced number t = fault (number_at number t.token) t.first
