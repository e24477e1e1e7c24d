-- How a text is read, line by line: the prime line, the order line, and a polynomial in each
-- further line; the first refusal from left to right where it is no system.
use Rattle.std.specs.Prelude.{ℕ, suc, ◌+◌, eqb, Bool, true, false, cond, List, [], ◌∷◌, ◌++◌, length, drop, Option, Some, None, Result, Ok, Err, codes}
use Rattle.std.specs.List.{slice_split}
use Rattle.std.specs.Str.{bytes_eq}
use Rattle.polynomials.specs.Polynomials.{Polynomial}
use Rattle.system_text.specs.Characters.{is_character}
use Rattle.system_text.specs.Tokens.{Token, Name, tokens, unplaced}
use Rattle.system_text.specs.Faults.{Fault, Refusal, fault}
use Rattle.system_text.specs.Readings.{Setting, start}
use Rattle.system_text.specs.Sums.{read_tokens, read_sum}
use Rattle.system_text.specs.Heads.{and_then_read, read_prime, read_order}

-- the lines of a text: what stands between line feeds
abbrev pub lines_of : List ℕ → List (List ℕ)
lines_of bytes = slice_split (λ b. eqb b 10) bytes

-- the line holds spaces alone, or its first byte that is no space begins a comment
abbrev pub is_skipped : List ℕ → Bool
is_skipped [] = true
is_skipped (b ∷ bs) = cond (eqb b 32) (is_skipped bs) (eqb b 35)

-- the place of the first byte that is no character, counted from i
abbrev pub first_not_text : ℕ → List ℕ → Option ℕ
first_not_text i [] = None
first_not_text i (b ∷ bs) = cond (is_character b) (first_not_text (suc i) bs) (Some i)

-- a system: the prime, the names of the variables, the least first, and in order the polynomials
-- whose common zeros are sought and those that must not vanish there
pub record TextSystem : Type 0 where
  pub prime : ℕ
  pub names : List (List ℕ)
  pub inputs : List Polynomial
  pub nonzero : List Polynomial

-- a system of which the head lines are read
abbrev pub empty_system : ℕ → List (List ℕ) → TextSystem
empty_system p names = record { prime = p; names = names; inputs = []; nonzero = [] }

-- what was read of a text: nothing, the prime, or a system so far
pub data Progress : Type 0 where
  AtPrime : Progress
  AtOrder : ℕ → Progress
  AtSums : TextSystem → Progress

-- what polynomials of a system are read over, in n exponents
abbrev pub setting_of : ℕ → TextSystem → Setting
setting_of n system = record { modulus = system.prime; variables = n; names = system.names }

-- a system with one more polynomial whose zeros are sought
abbrev pub with_input : TextSystem → Polynomial → TextSystem
with_input system f = record system { inputs = system.inputs ++ f ∷ [] }

-- a system with one more polynomial that must not vanish
abbrev pub with_nonzero_polynomial : TextSystem → Polynomial → TextSystem
with_nonzero_polynomial system f = record system { nonzero = system.nonzero ++ f ∷ [] }

-- the token is the name `nonzero`
abbrev pub is_nonzero_word : Token → Bool
is_nonzero_word (Name x) = bytes_eq x (codes "nonzero")
is_nonzero_word _ = false

-- the first of these tokens is that name
abbrev pub begin_with_nonzero : List Token → Bool
begin_with_nonzero [] = false
begin_with_nonzero (t ∷ ts) = is_nonzero_word t

-- a line whose first token is the name `nonzero`
abbrev pub is_nonzero_line : List ℕ → Bool
is_nonzero_line line = begin_with_nonzero (unplaced (tokens line))

-- the sum of a nonzero line, after its first token
abbrev pub read_nonzero : Setting → List ℕ → Result Polynomial Fault
read_nonzero s line = read_tokens s (length line + 1) (drop 1 (tokens line)) start

-- the polynomial of a line after the order line
abbrev pub read_polynomial : ℕ → TextSystem → List ℕ → Result TextSystem Fault
read_polynomial n system line =
    cond (is_nonzero_line line)
    (and_then_read (read_nonzero (setting_of n system) line)
    (λ f. Ok (with_nonzero_polynomial system f)))
    (and_then_read (read_sum (setting_of n system) line) (λ f. Ok (with_input system f)))

-- a line that isn't skipped, after what was read before it
abbrev pub read_content : ℕ → Progress → List ℕ → Result Progress Fault
read_content n AtPrime line = and_then_read (read_prime line) (λ p. Ok (AtOrder p))
read_content n (AtOrder p) line =
    and_then_read (read_order n line) (λ names. Ok (AtSums (empty_system p names)))
read_content n (AtSums system) line =
    and_then_read (read_polynomial n system line) (λ next. Ok (AtSums next))

-- a skipped line whose first byte that is no character is there or not
abbrev pub skipped : Progress → Option ℕ → Result Progress Fault
skipped progress None = Ok progress
skipped progress (Some i) = Err (fault 1 i)

-- one line
abbrev pub read_line : ℕ → Progress → List ℕ → Result Progress Fault
read_line n progress line =
    cond (is_skipped line) (skipped progress (first_not_text 1 line)) (read_content n progress line)

-- a fault of this line
abbrev pub refusal_in : ℕ → Fault → Refusal
refusal_in line e = record { number = e.number; line = line; byte = e.byte }

-- the text ends at this place
abbrev pub text_ends : ℕ → ℕ → Progress → Result TextSystem Refusal
text_ends line byte AtPrime = Err (record { number = 2; line = line; byte = byte })
text_ends line byte (AtOrder p) = Err (record { number = 4; line = line; byte = byte })
text_ends line byte (AtSums system) = Ok system

-- the lines after the first few, of which the last was of this number and ended at this byte
abbrev pub read_lines : ℕ → ℕ → ℕ → Progress → List (List ℕ) → Result TextSystem Refusal
read_lines n number end progress [] = text_ends number end progress
read_lines n number end progress (line ∷ lines) = elim (read_line n progress line) [
  | Ok next ↦ read_lines n (suc number) (length line + 1) next lines
  | Err e ↦ Err (refusal_in (suc number) e)
]

-- the system that a text is, in n exponents and at most n names, or the first refusal
abbrev pub read_text : ℕ → List ℕ → Result TextSystem Refusal
read_text n bytes = read_lines n 0 1 AtPrime (lines_of bytes)
