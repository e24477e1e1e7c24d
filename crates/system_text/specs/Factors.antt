-- How the factors of a sum are read: numbers, names, parentheses that open, and powers.
use Rattle.std.specs.Prelude.{ℕ, suc, ◌%◌, ltb, leb, true, cond, List, [], ◌∷◌, length, Option, Some, None, Result, Ok, Err}
use Rattle.std.specs.Str.{bytes_eq}
use Rattle.std.specs.Str.Parse.{digits_value}
use Rattle.polynomials.specs.Polynomials.{Polynomial, sum_of, difference_of, constant_of, variable_power}
use Rattle.polynomials.specs.Fits.{most_exponent, product_within, power_within}
use Rattle.system_text.specs.Tokens.{Token, Placed, Name, Number, Minus, Open}
use Rattle.system_text.specs.Faults.{Fault, fault, misplaced}
use Rattle.system_text.specs.Limits.{most_digits, most_depth, text_width}
use Rattle.system_text.specs.Readings.{Setting, Frame, AtSum, AtFactor, AfterBase, AfterFactor, Reading, empty_frame}

-- the place of the first name that is x, counted from i
abbrev pub place_of_name : ℕ → List (List ℕ) → List ℕ → Option ℕ
place_of_name i [] x = None
place_of_name i (name ∷ names) x = cond (bytes_eq name x) (Some i) (place_of_name (suc i) names x)

-- f after what is there, as one more factor
abbrev pub with_factor : ℕ → Option Polynomial → Polynomial → Option Polynomial
with_factor p None f = Some f
with_factor p (Some g) f = product_within p text_width g f

-- the sum with its last term f
abbrev pub with_last : ℕ → Frame → Polynomial → Polynomial
with_last p frame f = cond frame.is_negative (difference_of p frame.sum f) (sum_of p frame.sum f)

-- the product of the term, or a fault at the place of the last factor's last byte
abbrev pub after_factor_at : List Frame → Frame → ℕ → Option Polynomial → Result Reading Fault
after_factor_at outer frame last None = Err (fault 11 last)
after_factor_at outer frame last (Some f) =
    Ok (record { outer = outer; frame = frame; mode = AfterFactor f })

module _ (s : Setting) where
  -- a base is read
  abbrev pub after_base : List Frame → Frame → Polynomial → ℕ → ℕ → Result Reading Fault
  after_base outer frame f last most =
      Ok (record { outer = outer; frame = frame; mode = AfterBase f last most })

  -- a name in a sum
  abbrev pub variable_at : List Frame → Frame → Placed → Option ℕ → Result Reading Fault
  variable_at outer frame t None = Err (fault 7 t.first)
  variable_at outer frame t (Some v) =
      after_base outer frame (variable_power s.variables v 1) t.last most_exponent

  -- a number as a base
  abbrev pub number_base : List Frame → Frame → Placed → List ℕ → Result Reading Fault
  number_base outer frame t digits =
      cond (ltb most_digits (length digits)) (Err (fault 9 t.first))
      (after_base outer frame (constant_of s.variables (digits_value 10 digits % s.modulus))
      t.last most_exponent)

  -- a parenthesis that opens
  abbrev pub opened_at : List Frame → Frame → Placed → Result Reading Fault
  opened_at outer frame t =
      cond (leb most_depth (length outer)) (Err (fault 12 t.first))
      (Ok (record { outer = frame ∷ outer; frame = empty_frame; mode = AtSum }))

  -- the first token of a factor
  abbrev pub at_factor : List Frame → Frame → Placed → Token → Result Reading Fault
  at_factor outer frame t (Name x) = variable_at outer frame t (place_of_name 0 s.names x)
  at_factor outer frame t (Number digits) = number_base outer frame t digits
  at_factor outer frame t Open = opened_at outer frame t
  at_factor outer frame t _ = Err (misplaced 8 t)

  -- the first token of a sum
  abbrev pub at_sum : List Frame → Frame → Placed → Token → Result Reading Fault
  at_sum outer frame t Minus =
      Ok (record { outer = outer; frame = record frame { is_negative = true }; mode = AtFactor })
  at_sum outer frame t other = at_factor outer frame t other

  -- the power of a base, as one more factor
  abbrev pub power_factor : List Frame → Frame → ℕ → Option Polynomial → Result Reading Fault
  power_factor outer frame last None = Err (fault 11 last)
  power_factor outer frame last (Some f) =
      after_factor_at outer frame last (with_factor s.modulus frame.product f)

  -- the exponent e of the base f
  abbrev pub exponent_at :
      List Frame → Frame → Polynomial → ℕ → Placed → List ℕ → Result Reading Fault
  exponent_at outer frame f most t digits =
      cond (ltb most_digits (length digits)) (Err (fault 9 t.first))
      (cond (ltb most (digits_value 10 digits)) (Err (fault 10 t.first))
      (power_factor outer frame t.last
      (power_within s.modulus s.variables text_width f (digits_value 10 digits))))

  -- the token after the sign of a power
  abbrev pub at_exponent :
      List Frame → Frame → Polynomial → ℕ → Placed → Token → Result Reading Fault
  at_exponent outer frame f most t (Number digits) = exponent_at outer frame f most t digits
  at_exponent outer frame f most t _ = Err (misplaced 8 t)
