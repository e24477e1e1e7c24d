-- The tokens of a line: the longest runs of one kind, with the places of their bytes.
use Rattle.std.specs.Prelude.{ℕ, suc, ◌-◌, Bool, cond, eqb, List, [], ◌∷◌, ◌++◌, Option, Some, None, map}
use Rattle.system_text.specs.Characters.{is_character, is_letter, is_digit, is_name_character}

pub data Token : Type 0 where
  -- a letter, then letters, digits and underscores
  Name : List ℕ → Token
  -- 0, or digits of which the first isn't 0
  Number : List ℕ → Token
  Plus : Token
  Minus : Token
  Times : Token
  Power : Token
  Open : Token
  Close : Token
  -- a character that begins no token
  Stray : Token
  -- a byte that is no character
  NotText : Token

-- a token with the places of its first and its last byte in the line, counted from 1
pub record Placed : Type 0 where
  pub token : Token
  pub first : ℕ
  pub last : ℕ

-- a name or a number of which these bytes are known: where it begins, and what goes on with it
pub record Run : Type 0 where
  pub make : List ℕ → Token
  pub goes_on : ℕ → Bool
  pub first : ℕ
  pub bytes : List ℕ

-- what a byte at a place makes where no run is open: a token of its own, or the beginning of a run
pub record Opening : Type 0 where
  pub tokens : List Placed
  pub run : Option Run

-- nothing, as of a space
abbrev pub nothing : Opening
nothing = record { tokens = []; run = None }

-- a token of one byte
abbrev pub single : ℕ → Token → Opening
single i t = record { tokens = record { token = t; first = i; last = i } ∷ []; run = None }

-- a run that begins
abbrev pub begun : (List ℕ → Token) → (ℕ → Bool) → ℕ → ℕ → Opening
begun make goes_on i b = record {
  tokens = [];
  run = Some (record { make = make; goes_on = goes_on; first = i; bytes = b ∷ [] });
}

-- the sign that a byte is, or else no token
abbrev pub sign_or_stray : ℕ → Token
sign_or_stray b =
    cond (eqb b 43) Plus
    (cond (eqb b 45) Minus
    (cond (eqb b 42) Times
    (cond (eqb b 94) Power
    (cond (eqb b 40) Open
    (cond (eqb b 41) Close
    (cond (is_character b) Stray NotText))))))

-- what the byte b at the place i makes
abbrev pub opened : ℕ → ℕ → Opening
opened i b =
    cond (eqb b 32) nothing
    (cond (is_letter b) (begun Name is_name_character i b)
    (cond (eqb b 48) (single i (Number (48 ∷ [])))
    (cond (is_digit b) (begun Number is_digit i b)
    (single i (sign_or_stray b)))))

-- a run that ends before the place i
abbrev pub closed : ℕ → Run → Placed
closed i r = record { token = r.make r.bytes; first = r.first; last = i - 1 }

-- a run with one byte more
abbrev pub extended : Run → ℕ → Run
extended r b = record r { bytes = r.bytes ++ b ∷ [] }

-- the tokens of the bytes from the place i on, within a run or not
abbrev pub tokens_from : ℕ → Option Run → List ℕ → List Placed
tokens_from i None [] = []
tokens_from i (Some r) [] = closed i r ∷ []
tokens_from i None (b ∷ bs) = (opened i b).tokens ++ tokens_from (suc i) (opened i b).run bs
tokens_from i (Some r) (b ∷ bs) =
    cond (r.goes_on b) (tokens_from (suc i) (Some (extended r b)) bs)
    (closed i r ∷ ((opened i b).tokens ++ tokens_from (suc i) (opened i b).run bs))

-- the tokens of a line
abbrev pub tokens : List ℕ → List Placed
tokens line = tokens_from 1 None line

-- tokens without their places
abbrev pub unplaced : List Placed → List Token
unplaced ts = map (λ t. t.token) ts
