-- The places of tokens bear on faults alone: what is read doesn't depend on them.
use Rattle.std.proofs.Common.{◌≡◌, ℕ, ◌%◌, Bool, true, false, cond, ltb, leb, List, [], ◌∷◌, length, map, Option, Some, None, Result, Ok, Err, refl, sym, ap, ap₂, ◌∙◌}
use Rattle.std.specs.Str.Parse.{digits_value}
use Rattle.polynomials.specs.Polynomials.{Polynomial, constant_of}
use Rattle.polynomials.specs.Fits.{most_exponent, power_within}
use Rattle.system_text.specs.Tokens.{Token, Placed, Name, Number, Plus, Minus, Times, Power, Open, Close, unplaced}
use Rattle.system_text.specs.Faults.{Fault, fault}
use Rattle.system_text.specs.Limits.{most_digits, most_depth, text_width}
use Rattle.system_text.specs.Readings.{Setting, Frame, Mode, Reading, AtSum, AtFactor, AfterBase, AtExponent, AfterFactor, empty_frame}
use Rattle.system_text.specs.Factors.{with_factor, after_base, at_factor, at_sum, variable_at, after_factor_at, power_factor, at_exponent}
use Rattle.system_text.specs.Sums.{closed_at, after_factor, after_base_token, step_in, step, ended_bare, ended_in, line_ended, read_tokens}

-- a token without a place
abbrev pub bare : Token → Placed
bare t = record { token = t; first = 0; last = 0 }

-- a mode without the place of a base
abbrev pub bare_mode : Mode → Mode
bare_mode (AfterBase f last most) = AfterBase f 0 most
bare_mode AtSum = AtSum
bare_mode AtFactor = AtFactor
bare_mode (AtExponent f most) = AtExponent f most
bare_mode (AfterFactor f) = AfterFactor f

-- a reading without it
abbrev pub bare_reading : Reading → Reading
bare_reading r = record { outer = r.outer; frame = r.frame; mode = bare_mode r.mode }

-- the reading without places, where there is no fault
abbrev state_of : Result Reading Fault → Option Reading
state_of (Ok r) = Some (bare_reading r)
state_of (Err e) = None

-- the polynomial, where there is no fault
abbrev pub value_of : Result Polynomial Fault → Option Polynomial
value_of (Ok f) = Some f
value_of (Err e) = None

state_of-cond : (b : Bool) (d e : Fault) (x y : Result Reading Fault) → state_of x ≡ state_of y → state_of (cond b (Err d) x) ≡ state_of (cond b (Err e) y)
state_of-cond true d e x y h = refl
state_of-cond false d e x y h = h

module _ (s : Setting) (outer : List Frame) (frame : Frame) (t u : Placed) where
  variable_at_bare : (place : Option ℕ) → state_of (variable_at s outer frame t place) ≡ state_of (variable_at s outer frame u place)
  variable_at_bare None = refl
  variable_at_bare (Some v) = refl

  at_factor_bare : (x : Token) → state_of (at_factor s outer frame t x) ≡ state_of (at_factor s outer frame u x)
  at_factor_bare (Name x) = variable_at_bare _
  at_factor_bare (Number digits) = state_of-cond (ltb most_digits (length digits)) (fault 9 t.first) (fault 9 u.first) (after_base s outer frame (constant_of s.variables (digits_value 10 digits % s.modulus)) t.last most_exponent) (after_base s outer frame (constant_of s.variables (digits_value 10 digits % s.modulus)) u.last most_exponent) refl
  at_factor_bare Open =
      let next : Result Reading Fault = Ok (record { outer = frame ∷ outer; frame = empty_frame; mode = AtSum }) in
      state_of-cond (leb most_depth (length outer)) (fault 12 t.first) (fault 12 u.first) next next refl
  at_factor_bare Plus = refl
  at_factor_bare _ = refl

  at_sum_bare : (x : Token) → state_of (at_sum s outer frame t x) ≡ state_of (at_sum s outer frame u x)
  at_sum_bare Minus = refl
  at_sum_bare (Name x) = at_factor_bare (Name x)
  at_sum_bare (Number digits) = at_factor_bare (Number digits)
  at_sum_bare Open = at_factor_bare Open
  at_sum_bare _ = refl

  closed_at_bare : (around : List Frame) (f : Polynomial) → state_of (closed_at s around frame t f) ≡ state_of (closed_at s around frame u f)
  closed_at_bare [] f = refl
  closed_at_bare (next ∷ around) f = refl

  after_factor_bare : (f : Polynomial) (x : Token) → state_of (after_factor s outer frame f t x) ≡ state_of (after_factor s outer frame f u x)
  after_factor_bare f Times = refl
  after_factor_bare f Plus = refl
  after_factor_bare f Minus = refl
  after_factor_bare f Close = closed_at_bare outer f
  after_factor_bare f _ = refl

  -- a factor without a power, and then a token
  after_bare_bare : (last : ℕ) (o : Option Polynomial) → t.token ≡ u.token → state_of (elim o as (λ _. Result Reading Fault) [ None ↦ Err (fault 11 last) | Some g ↦ after_factor s outer frame g t t.token ]) ≡ state_of (elim o as (λ _. Result Reading Fault) [ None ↦ Err (fault 11 0) | Some g ↦ after_factor s outer frame g u u.token ])
  after_bare_bare last None e = refl
  after_bare_bare last (Some g) e = after_factor_bare g t.token ∙ ap (λ x. state_of (after_factor s outer frame g u x)) e

  after_factor_at_bare : (k l : ℕ) (o : Option Polynomial) → state_of (after_factor_at outer frame k o) ≡ state_of (after_factor_at outer frame l o)
  after_factor_at_bare k l None = refl
  after_factor_at_bare k l (Some f) = refl

  raised_bare : (k l : ℕ) (o : Option Polynomial) → state_of (power_factor s outer frame k o) ≡ state_of (power_factor s outer frame l o)
  raised_bare k l None = refl
  raised_bare k l (Some f) = after_factor_at_bare k l _

  at_exponent_bare : (f : Polynomial) (most : ℕ) (x : Token) → state_of (at_exponent s outer frame f most t x) ≡ state_of (at_exponent s outer frame f most u x)
  at_exponent_bare f most (Number digits) =
      let power : Option Polynomial = power_within s.modulus s.variables text_width f (digits_value 10 digits) in
      let small : Bool = ltb most (digits_value 10 digits) in
      state_of-cond (ltb most_digits (length digits)) (fault 9 t.first) (fault 9 u.first)
      (cond small (Err (fault 10 t.first)) (power_factor s outer frame t.last power))
      (cond small (Err (fault 10 u.first)) (power_factor s outer frame u.last power))
      (state_of-cond small (fault 10 t.first) (fault 10 u.first) (power_factor s outer frame t.last power) (power_factor s outer frame u.last power) (raised_bare t.last u.last power))
  at_exponent_bare f most Plus = refl
  at_exponent_bare f most _ = refl

module _ (s : Setting) where
  after_base_bare : (outer : List Frame) (frame : Frame) (t : Placed) (f : Polynomial) (last most : ℕ) (x : Token) → t.token ≡ x → state_of (after_base_token s outer frame f last most t x) ≡ state_of (after_base_token s outer frame f 0 most (bare x) x)
  after_base_bare outer frame t f last most Power e = refl
  after_base_bare outer frame t f last most Plus e = after_bare_bare s outer frame t (bare Plus) last (with_factor s.modulus frame.product f) e
  after_base_bare outer frame t f last most x e = after_bare_bare s outer frame t (bare x) last (with_factor s.modulus frame.product f) e

  step_bare : (t : Placed) (outer : List Frame) (frame : Frame) (m : Mode) → state_of (step_in s outer frame t m) ≡ state_of (step_in s outer frame (bare t.token) (bare_mode m))
  step_bare t outer frame AtSum = at_sum_bare s outer frame t (bare t.token) t.token
  step_bare t outer frame AtFactor = at_factor_bare s outer frame t (bare t.token) t.token
  step_bare t outer frame (AfterBase f last most) = after_base_bare outer frame t f last most t.token refl
  step_bare t outer frame (AtExponent f most) = at_exponent_bare s outer frame t (bare t.token) f most t.token
  step_bare t outer frame (AfterFactor f) = after_factor_bare s outer frame t (bare t.token) f t.token

  step_same : (t u : Placed) (q r : Reading) → t.token ≡ u.token → bare_reading q ≡ bare_reading r → state_of (step s t q) ≡ state_of (step s u r)
  step_same t u q r e d = step_bare t q.outer q.frame q.mode ∙ ap₂ (λ x k. state_of (step s (bare x) k)) e d ∙ sym (step_bare u r.outer r.frame r.mode)

  ended_with_bare : (outer : List Frame) (frame : Frame) (end last : ℕ) (f : Polynomial) (o : Option Polynomial) → value_of (ended_bare s outer frame last end o) ≡ value_of (ended_bare s outer frame 0 0 o)
  ended_with_bare outer frame end last f None = refl
  ended_with_bare [] frame end last f (Some g) = refl
  ended_with_bare (around ∷ outer) frame end last f (Some g) = refl

  ended_bare_in : (outer : List Frame) (frame : Frame) (end : ℕ) (m : Mode) → value_of (ended_in s outer frame end m) ≡ value_of (ended_in s outer frame 0 (bare_mode m))
  ended_bare_in outer frame end AtSum = refl
  ended_bare_in outer frame end AtFactor = refl
  ended_bare_in outer frame end (AfterBase f last most) = ended_with_bare outer frame end last f _
  ended_bare_in outer frame end (AtExponent f most) = refl
  ended_bare_in outer frame end (AfterFactor f) = ended_with_bare outer frame end 0 f (Some f)

  ended_same : (end k : ℕ) (q r : Reading) → bare_reading q ≡ bare_reading r → value_of (line_ended s end q) ≡ value_of (line_ended s k r)
  ended_same end k q r d = ended_bare_in q.outer q.frame end q.mode ∙ ap (λ x. value_of (line_ended s 0 x)) d ∙ sym (ended_bare_in r.outer r.frame k r.mode)

  read_on : (end k : ℕ) (ts us : List Placed) (a b : Result Reading Fault) → ((q r : Reading) → bare_reading q ≡ bare_reading r → value_of (read_tokens s end ts q) ≡ value_of (read_tokens s k us r)) → state_of a ≡ state_of b → value_of (elim a as (λ _. Result Polynomial Fault) [ Ok next ↦ read_tokens s end ts next | Err e ↦ Err e ]) ≡ value_of (elim b as (λ _. Result Polynomial Fault) [ Ok next ↦ read_tokens s k us next | Err e ↦ Err e ])
  read_on end k ts us (Ok q) (Ok r) h e = h q r cc
  read_on end k ts us (Err d) (Err f) h e = refl
  read_on end k ts us (Ok q) (Err f) h e = absurd cc
  read_on end k ts us (Err d) (Ok r) h e = absurd cc

  -- the same tokens are read as the same
  pub read_same : (end k : ℕ) (ts us : List Placed) (q r : Reading) → unplaced ts ≡ unplaced us → bare_reading q ≡ bare_reading r → value_of (read_tokens s end ts q) ≡ value_of (read_tokens s k us r)
  read_same end k [] [] q r e d = ended_same end k q r d
  read_same end k [] (u ∷ us) q r e d = absurd cc
  read_same end k (t ∷ ts) [] q r e d = absurd cc
  read_same end k (t ∷ ts) (u ∷ us) q r e d = read_on end k ts us (step s t q) (step s u r) (λ a b h. read_same end k ts us a b (cc) h) (step_same t u q r (cc) d)

unplaced-bare : (xs : List Token) → unplaced (map bare xs) ≡ xs
unplaced-bare [] = refl
unplaced-bare (x ∷ xs) = ap (λ ys. x ∷ ys) (unplaced-bare xs)

Ok-value_of : (a b : Result Polynomial Fault) (f : Polynomial) → value_of a ≡ value_of b → b ≡ Ok f → a ≡ Ok f
Ok-value_of (Ok g) b f e d = let same : Some g ≡ Some f = e ∙ ap value_of d in cc
Ok-value_of (Err x) b f e d = let same : None ≡ Some f = e ∙ ap value_of d in absurd cc

-- what is read of tokens without places is read of them at any places
pub read_at_places : (s : Setting) (end : ℕ) (ts : List Placed) (r : Reading) (f : Polynomial) → read_tokens s 0 (map bare (unplaced ts)) r ≡ Ok f → read_tokens s end ts r ≡ Ok f
read_at_places s end ts r f e = Ok-value_of (read_tokens s end ts r) (read_tokens s 0 (map bare (unplaced ts)) r) f (read_same s end 0 ts (map bare (unplaced ts)) r r (sym (unplaced-bare (unplaced ts))) refl) e
