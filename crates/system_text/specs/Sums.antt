-- How a sum is read, from left to right: one token after the other makes the next state or a fault.
use Rattle.std.specs.Prelude.{ℕ, ◌+◌, Bool, true, false, List, [], ◌∷◌, length, Option, Some, None, Result, Ok, Err}
use Rattle.polynomials.specs.Polynomials.{Polynomial}
use Rattle.system_text.specs.Tokens.{Token, Placed, Plus, Minus, Times, Power, Close, tokens}
use Rattle.system_text.specs.Faults.{Fault, fault, misplaced}
use Rattle.system_text.specs.Limits.{most_power}
use Rattle.system_text.specs.Readings.{Setting, Frame, Mode, AtSum, AtFactor, AfterBase, AtExponent, AfterFactor, Reading, start}
use Rattle.system_text.specs.Factors.{with_factor, with_last, after_base, at_factor, at_sum, at_exponent}

module _ (s : Setting) where
  -- a parenthesis that closes after the term f: its sum is a base of the sum round it
  abbrev pub closed_at : List Frame → Frame → Placed → Polynomial → Result Reading Fault
  closed_at [] frame t f = Err (misplaced 8 t)
  closed_at (around ∷ outer) frame t f =
      after_base s outer around (with_last s.modulus frame f) t.last most_power

  -- the next term, taken away or not
  abbrev pub next_term : List Frame → Frame → Bool → Polynomial → Result Reading Fault
  next_term outer frame is_negative f =
      Ok (record {
        outer = outer;
        frame = record {
          sum = with_last s.modulus frame f;
          is_negative = is_negative;
          product = None;
        };
        mode = AtFactor;
      })

  -- the token after a factor, where f is the product of the term so far
  abbrev pub after_factor : List Frame → Frame → Polynomial → Placed → Token → Result Reading Fault
  after_factor outer frame f t Times =
      Ok (record { outer = outer; frame = record frame { product = Some f }; mode = AtFactor })
  after_factor outer frame f t Plus = next_term outer frame false f
  after_factor outer frame f t Minus = next_term outer frame true f
  after_factor outer frame f t Close = closed_at outer frame t f
  after_factor outer frame f t _ = Err (misplaced 8 t)

  -- a factor without a power, and then this token
  abbrev pub after_bare : List Frame → Frame → Polynomial → ℕ → Placed → Result Reading Fault
  after_bare outer frame f last t = elim (with_factor s.modulus frame.product f) [
    | None ↦ Err (fault 11 last)
    | Some g ↦ after_factor outer frame g t t.token
  ]

  -- the token after a base
  abbrev pub after_base_token :
      List Frame → Frame → Polynomial → ℕ → ℕ → Placed → Token → Result Reading Fault
  after_base_token outer frame f last most t Power =
      Ok (record { outer = outer; frame = frame; mode = AtExponent f most })
  after_base_token outer frame f last most t _ = after_bare outer frame f last t

  -- one token
  abbrev pub step_in : List Frame → Frame → Placed → Mode → Result Reading Fault
  step_in outer frame t AtSum = at_sum s outer frame t t.token
  step_in outer frame t AtFactor = at_factor s outer frame t t.token
  step_in outer frame t (AfterBase f last most) = after_base_token outer frame f last most t t.token
  step_in outer frame t (AtExponent f most) = at_exponent s outer frame f most t t.token
  step_in outer frame t (AfterFactor f) = after_factor outer frame f t t.token

  abbrev pub step : Placed → Reading → Result Reading Fault
  step t r = step_in r.outer r.frame t r.mode

  -- the line ends after the term f
  abbrev pub ended_with : List Frame → Frame → ℕ → Polynomial → Result Polynomial Fault
  ended_with [] frame end f = Ok (with_last s.modulus frame f)
  ended_with (around ∷ outer) frame end f = Err (fault 8 end)

  -- the line ends after a factor without a power
  abbrev pub ended_bare : List Frame → Frame → ℕ → ℕ → Option Polynomial → Result Polynomial Fault
  ended_bare outer frame last end None = Err (fault 11 last)
  ended_bare outer frame last end (Some f) = ended_with outer frame end f

  -- the line ends here
  abbrev pub ended_in : List Frame → Frame → ℕ → Mode → Result Polynomial Fault
  ended_in outer frame end AtSum = Err (fault 8 end)
  ended_in outer frame end AtFactor = Err (fault 8 end)
  ended_in outer frame end (AfterBase f last most) =
      ended_bare outer frame last end (with_factor s.modulus frame.product f)
  ended_in outer frame end (AtExponent f most) = Err (fault 8 end)
  ended_in outer frame end (AfterFactor f) = ended_with outer frame end f

  abbrev pub line_ended : ℕ → Reading → Result Polynomial Fault
  line_ended end r = ended_in r.outer r.frame end r.mode

  -- the tokens that are left, and then the line's end
  abbrev pub read_tokens : ℕ → List Placed → Reading → Result Polynomial Fault
  read_tokens end [] r = line_ended end r
  read_tokens end (t ∷ ts) r = elim (step t r) [
    | Ok next ↦ read_tokens end ts next
    | Err e ↦ Err e
  ]

  -- a line as a sum
  abbrev pub read_sum : List ℕ → Result Polynomial Fault
  read_sum line = read_tokens (length line + 1) (tokens line) start
