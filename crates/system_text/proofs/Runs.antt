-- How the tokens of the parts of a sum move the reading.
use Rattle.std.proofs.Common.{◌≡◌, ℕ, ◌%◌, ◌<◌, ◌≤◌, Bool, true, false, cond, ltb, leb, List, [], ◌∷◌, length, map, Option, Some, None, Result, Ok, Err, refl, ap, ◌∙◌}
use Rattle.std.proofs.lemmas.Bool.{le-ltb, lt-leb}
use Rattle.std.specs.Str.Parse.{digits_value}
use Rattle.polynomials.specs.Polynomials.{Polynomial, constant_of}
use Rattle.polynomials.specs.Fits.{most_exponent, power_within}
use Rattle.system_text.specs.Tokens.{Token, Name, Number, Plus, Minus, Times, Power, Open, Close}
use Rattle.system_text.specs.Faults.{Fault, fault}
use Rattle.system_text.specs.Limits.{most_digits, most_power, most_depth, text_width}
use Rattle.system_text.specs.Readings.{Setting, Frame, Mode, Reading, AtSum, AtFactor, AfterBase, AfterFactor, empty_frame}
use Rattle.system_text.specs.Factors.{with_factor, with_last, after_base, power_factor}
use Rattle.system_text.specs.Sums.{read_tokens}
use Rattle.system_text.proofs.Places.{bare}

-- the reading of a frame in these frames, in this mode
abbrev pub reading : List Frame → Frame → Mode → Reading
reading outer frame mode = record { outer = outer; frame = frame; mode = mode }

-- a sum with a term to come
abbrev pub fresh : Polynomial → Bool → Frame
fresh sum is_negative = record { sum = sum; is_negative = is_negative; product = None }

-- no power stands first
abbrev pub EndsFactor : List Token → Type 0
EndsFactor (Power ∷ xs) = ⊥
EndsFactor _ = Unit {0}

-- nor another factor
abbrev pub EndsTerm : List Token → Type 0
EndsTerm (Power ∷ xs) = ⊥
EndsTerm (Times ∷ xs) = ⊥
EndsTerm _ = Unit {0}

-- what ends a term ends its last factor
pub ends_factor : (xs : List Token) → EndsTerm xs → EndsFactor xs
ends_factor (Power ∷ xs) h = absurd h
ends_factor [] h = tt
ends_factor (_ ∷ xs) h = tt

-- a factor may begin with the first of them
abbrev pub BeginsFactor : List Token → Type 0
BeginsFactor (Name x ∷ xs) = Unit {0}
BeginsFactor (Number digits ∷ xs) = Unit {0}
BeginsFactor (Open ∷ xs) = Unit {0}
BeginsFactor _ = ⊥

-- f after the first test, and after the second
after_tests : (b c : Bool) (d e : Fault) (x : Result Reading Fault) → b ≡ false → c ≡ false → cond b (Err d) (cond c (Err e) x) ≡ x
after_tests true c d e x h i = absurd cc
after_tests false true d e x h i = absurd cc
after_tests false false d e x h i = refl

after_test : (b : Bool) (d : Fault) (x : Result Reading Fault) → b ≡ false → cond b (Err d) x ≡ x
after_test true d x h = absurd cc
after_test false d x h = refl

module _ (s : Setting) where
  -- what is read of tokens, whatever their places are
  abbrev pub run : List Token → Reading → Result Polynomial Fault
  run xs r = read_tokens s 0 (map bare xs) r

  -- the reading goes on after a token
  abbrev pub run_after : List Token → Result Reading Fault → Result Polynomial Fault
  run_after xs a = elim a as (λ _. Result Polynomial Fault) [ Ok next ↦ run xs next | Err e ↦ Err e ]

  -- before a sum a term is read as it is after a sign
  pub run-at_sum : (xs : List Token) (outer : List Frame) (frame : Frame) → BeginsFactor xs → run xs (reading outer frame AtSum) ≡ run xs (reading outer frame AtFactor)
  run-at_sum [] outer frame h = absurd h
  run-at_sum (Name x ∷ xs) outer frame h = refl
  run-at_sum (Number x ∷ xs) outer frame h = refl
  run-at_sum (Open ∷ xs) outer frame h = refl
  run-at_sum (_ ∷ xs) outer frame h = absurd h

  -- after a factor the product of those before it bears on nothing
  pub run-after_factor : (xs : List Token) (outer : List Frame) (frame : Frame) (product : Option Polynomial) (f : Polynomial) → run xs (reading outer frame (AfterFactor f)) ≡ run xs (reading outer (record frame { product = product }) (AfterFactor f))
  run-after_factor [] [] frame product f = refl
  run-after_factor [] (around ∷ outer) frame product f = refl
  run-after_factor (Times ∷ xs) outer frame product f = refl
  run-after_factor (Close ∷ xs) [] frame product f = refl
  run-after_factor (Close ∷ xs) (around ∷ outer) frame product f = refl
  run-after_factor (_ ∷ xs) outer frame product f = refl

  -- where a term ends, the sum so far is all that counts
  pub run-after_term : (xs : List Token) (outer : List Frame) (frame : Frame) (f g : Polynomial) → EndsTerm xs → with_last s.modulus frame f ≡ with_last s.modulus empty_frame g → run xs (reading outer frame (AfterFactor f)) ≡ run xs (reading outer empty_frame (AfterFactor g))
  run-after_term [] [] frame f g h e = ap (λ x. Ok x) e
  run-after_term [] (around ∷ outer) frame f g h e = refl
  run-after_term (Times ∷ xs) outer frame f g h e = absurd h
  run-after_term (Power ∷ xs) outer frame f g h e = absurd h
  run-after_term (Plus ∷ xs) outer frame f g h e = ap (λ x. run xs (reading outer (fresh x false) AtFactor)) e
  run-after_term (Minus ∷ xs) outer frame f g h e = ap (λ x. run xs (reading outer (fresh x true) AtFactor)) e
  run-after_term (Close ∷ xs) [] frame f g h e = refl
  run-after_term (Close ∷ xs) (around ∷ outer) frame f g h e = ap (λ x. run xs (reading outer around (AfterBase x 0 most_power))) e
  run-after_term (_ ∷ xs) outer frame f g h e = refl

  -- a factor without a power is multiplied in
  pub run-after_base : (xs : List Token) (outer : List Frame) (frame : Frame) (f g : Polynomial) (most : ℕ) → EndsFactor xs → with_factor s.modulus frame.product f ≡ Some g → run xs (reading outer frame (AfterBase f 0 most)) ≡ run xs (reading outer frame (AfterFactor g))
  run-after_base [] outer frame f g most h e = rw e refl
  run-after_base (Power ∷ xs) outer frame f g most h e = absurd h
  run-after_base (Plus ∷ xs) outer frame f g most h e = rw e refl
  run-after_base (_ ∷ xs) outer frame f g most h e = rw e refl

  -- the power of a base is multiplied in
  pub run-at_exponent : (xs : List Token) (outer : List Frame) (frame : Frame) (f g h : Polynomial) (most : ℕ) (digits : List ℕ) → length digits ≤ most_digits → digits_value 10 digits ≤ most → power_within s.modulus s.variables text_width f (digits_value 10 digits) ≡ Some g → with_factor s.modulus frame.product g ≡ Some h → run (Power ∷ Number digits ∷ xs) (reading outer frame (AfterBase f 0 most)) ≡ run xs (reading outer frame (AfterFactor h))
  run-at_exponent xs outer frame f g h most digits few small power product =
      ap (run_after xs) (after_tests (ltb most_digits (length digits)) (ltb most (digits_value 10 digits)) (fault 9 0) (fault 10 0) (power_factor s outer frame 0 (power_within s.modulus s.variables text_width f (digits_value 10 digits))) (le-ltb most_digits (length digits) few) (le-ltb most (digits_value 10 digits) small))
      ∙ ap (λ o. run_after xs (power_factor s outer frame 0 o)) power
      ∙ rw product refl

  -- a number is a base
  pub run-number : (xs : List Token) (outer : List Frame) (frame : Frame) (digits : List ℕ) → length digits ≤ most_digits → run (Number digits ∷ xs) (reading outer frame AtFactor) ≡ run xs (reading outer frame (AfterBase (constant_of s.variables (digits_value 10 digits % s.modulus)) 0 most_exponent))
  run-number xs outer frame digits few = ap (run_after xs) (after_test (ltb most_digits (length digits)) (fault 9 0) (after_base s outer frame (constant_of s.variables (digits_value 10 digits % s.modulus)) 0 most_exponent) (le-ltb most_digits (length digits) few))

  -- a parenthesis begins a sum
  pub run-open : (xs : List Token) (outer : List Frame) (frame : Frame) → length outer < most_depth → run (Open ∷ xs) (reading outer frame AtFactor) ≡ run xs (reading (frame ∷ outer) empty_frame AtSum)
  run-open xs outer frame few = ap (run_after xs) (after_test (leb most_depth (length outer)) (fault 12 0) (Ok (reading (frame ∷ outer) empty_frame AtSum)) (lt-leb most_depth (length outer) few))
