-- How far the reading of a sum is.
use Rattle.std.specs.Prelude.{ℕ, Bool, false, List, [], Option, None}
use Rattle.polynomials.specs.Polynomials.{Polynomial}

-- what polynomials are read over: the modulus, the number of exponents, and the names in order
pub record Setting : Type 0 where
  pub modulus : ℕ
  pub variables : ℕ
  pub names : List (List ℕ)

-- a sum that isn't read to its end: what its earlier terms make, whether the term that is read is
-- taken away, and the product of that term's earlier factors
pub record Frame : Type 0 where
  pub sum : Polynomial
  pub is_negative : Bool
  pub product : Option Polynomial

-- where the reading of a sum stands
pub data Mode : Type 0 where
  -- before its first token
  AtSum : Mode
  -- before a factor
  AtFactor : Mode
  -- after a base: its value, the place of its last byte, and the greatest exponent it may have
  AfterBase : Polynomial → ℕ → ℕ → Mode
  -- after the sign of a power: the value of the base, and the greatest exponent
  AtExponent : Polynomial → ℕ → Mode
  -- after a factor: the product of the term so far
  AfterFactor : Polynomial → Mode

-- the sums round the parentheses that are open, the innermost first; the sum that is read; and
-- where it stands
pub record Reading : Type 0 where
  pub outer : List Frame
  pub frame : Frame
  pub mode : Mode

-- a sum of which nothing is read
abbrev pub empty_frame : Frame
empty_frame = record { sum = []; is_negative = false; product = None }

-- the reading of a line before its first token
abbrev pub start : Reading
start = record { outer = []; frame = empty_frame; mode = AtSum }
