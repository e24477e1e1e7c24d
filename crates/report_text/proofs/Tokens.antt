-- The tokens of bytes that begin with a name, a number, a sign or a space.
use Rattle.std.proofs.Common.{◌≡◌, ◌∙◌, ℕ, zero, suc, ◌^◌, ◌<◌, ◌≤◌, Bool, true, false, ◌||◌, eqb, leb, List, [], ◌∷◌, ◌++◌, Some, None, length, get_or, sym, subst, ap, ap₂, append_assoc, append-nil, arith}
use Rattle.std.proofs.lemmas.Bool.{and_parts, and_from, or_parts, le-leb, ne_eqb}
use Rattle.std.proofs.lemmas.Bool.Decides.{nat_tests}
use Rattle.std.proofs.lemmas.Fmt.{decimal_is_IsNumeral, decimal_digit, first_decimal}
use Rattle.std.proofs.lemmas.Str.Parse.{digit_from_value}
use Rattle.std.specs.Fmt.{decimal}
use Rattle.std.specs.List.{AllByRecursion}
use Rattle.std.specs.Str.Parse.{AllDigits}
use Rattle.system_text.specs.Characters.{is_letter, is_digit, is_name_character, are_name_characters, is_name}
use Rattle.system_text.specs.Tokens.{Token, Run, Name, Number, Plus, Times, Power, extended, tokens_from, unplaced}

-- the bytes have these tokens, whatever the place of the first
abbrev pub HaveTokens : List ℕ → List Token → Type 0
HaveTokens bytes ts = (i : ℕ) → unplaced (tokens_from i None bytes) ≡ ts

-- nothing that goes on with a run stands at the beginning
abbrev pub EndsRun : (ℕ → Bool) → List ℕ → Type 0
EndsRun goes_on [] = Unit {0}
EndsRun goes_on (b ∷ bs) = goes_on b ≡ false

-- a run takes all bytes that go on with it
run_tokens : (r : Run) (i : ℕ) (bs rest : List ℕ) (ts : List Token) → AllByRecursion (λ b. r.goes_on b ≡ true) bs → EndsRun r.goes_on rest → HaveTokens rest ts
    → unplaced (tokens_from i (Some r) (bs ++ rest)) ≡ r.make (r.bytes ++ bs) ∷ ts
run_tokens r i [] [] ts each ends t = ap₂ (λ bytes us. r.make bytes ∷ us) (sym (append-nil r.bytes)) (t i)
run_tokens r i [] (b ∷ bs) ts each ends t = rw ends (ap₂ (λ bytes us. r.make bytes ∷ us) (sym (append-nil r.bytes)) (t i))
run_tokens r i (b ∷ bs) rest ts each ends t =
    rw each.0 (run_tokens (extended r b) (suc i) bs rest ts each.1 ends t ∙ ap (λ bytes. r.make bytes ∷ ts) (append_assoc r.bytes (b ∷ []) bs))

-- a letter is no space
letter_is_no_space : (b : ℕ) → is_letter b ≡ true → eqb b 32 ≡ false
letter_is_no_space b h = ne_eqb b 32 (λ e. let bad = subst (λ x. is_letter x ≡ true) e h in cc)

-- what may follow in a name, one by one
each_name_character : (bs : List ℕ) → are_name_characters bs ≡ true → AllByRecursion (λ b. is_name_character b ≡ true) bs
each_name_character [] h = tt
each_name_character (b ∷ bs) h =
    let parts = and_parts (is_name_character b) (are_name_characters bs) h in
    (parts.0, each_name_character bs parts.1)

-- a name at the beginning
pub name_tokens : (x rest : List ℕ) (ts : List Token) → is_name x ≡ true → EndsRun is_name_character rest → HaveTokens rest ts → HaveTokens (x ++ rest) (Name x ∷ ts)
name_tokens [] rest ts named ends t i = cc
name_tokens (b ∷ bs) rest ts named ends t i =
    let parts = and_parts (is_letter b) (are_name_characters bs) named in
    rw (letter_is_no_space b parts.0, parts.0)
    (run_tokens (record { make = Name; goes_on = is_name_character; first = i; bytes = b ∷ [] }) (suc i) bs rest ts (each_name_character bs parts.1) ends t)

-- a digit may follow in a name
pub ends_number : (rest : List ℕ) → EndsRun is_name_character rest → EndsRun is_digit rest
ends_number [] ends = tt
ends_number (b ∷ bs) ends = (or_parts (is_digit b) (eqb b 95) (or_parts (is_letter b) (is_digit b || eqb b 95) ends).1).0

-- digits, one by one
digit_test : (b : ℕ) → 48 ≤ b → b ≤ 57 → is_digit b ≡ true
digit_test b low high = and_from (leb 48 b) (leb b 57) (le-leb 48 b low) (le-leb b 57 high)

each_digit : (ds : List ℕ) → AllDigits 10 ds → AllByRecursion (λ b. is_digit b ≡ true) ds
each_digit [] h = tt
each_digit (d ∷ ds) h = let range = digit_from_value d h.0 in (digit_test d range.0 range.1, each_digit ds h.1)

-- a digit is no space and no letter
digit_is_no_space : (b : ℕ) → is_digit b ≡ true → eqb b 32 ≡ false
digit_is_no_space b h = ne_eqb b 32 (λ e. let bad = subst (λ x. is_digit x ≡ true) e h in cc)

digit_is_no_letter : (b : ℕ) → is_digit b ≡ true → is_letter b ≡ false
digit_is_no_letter b h = grind (arith, nat_tests)

-- digits of which the first isn't 0
digits_tokens : (d : ℕ) (ds rest : List ℕ) (ts : List Token) → AllByRecursion (λ b. is_digit b ≡ true) (d ∷ ds) → eqb d 48 ≡ false → EndsRun is_digit rest → HaveTokens rest ts → HaveTokens ((d ∷ ds) ++ rest) (Number (d ∷ ds) ∷ ts)
digits_tokens d ds rest ts each other ends t i =
    rw (digit_is_no_space d each.0, digit_is_no_letter d each.0, other, each.0)
    (run_tokens (record { make = Number; goes_on = is_digit; first = i; bytes = d ∷ [] }) (suc i) ds rest ts each.1 ends t)

-- a number without leading zeros
number_tokens : (ds rest : List ℕ) (ts : List Token) → 0 < length ds → AllDigits 10 ds → 48 < get_or ds 0 0 → EndsRun is_digit rest → HaveTokens rest ts → HaveTokens (ds ++ rest) (Number ds ∷ ts)
number_tokens [] rest ts some digits first ends t = absurd (omega arith)
number_tokens (d ∷ ds) rest ts some digits first ends t = digits_tokens d ds rest ts (each_digit (d ∷ ds) digits) (ne_eqb d 48 (λ e. omega arith)) ends t

-- a number in decimal at the beginning
pub decimal_tokens : (n : ℕ) (rest : List ℕ) (ts : List Token) → n < 2 ^ 64 → EndsRun is_digit rest → HaveTokens rest ts → HaveTokens (decimal n ++ rest) (Number (decimal n) ∷ ts)
decimal_tokens zero rest ts below ends t = subst (λ ds. HaveTokens (ds ++ rest) (Number ds ∷ ts)) (sym (decimal_digit 0 (omega arith))) (λ i. ap (λ us. Number (48 ∷ []) ∷ us) (t (suc i)))
decimal_tokens (suc n) rest ts below ends t =
    let numeral = decimal_is_IsNumeral (suc n) below in
    number_tokens (decimal (suc n)) rest ts numeral.0.0 numeral.0.1 (first_decimal (suc n) (omega arith) below) ends t

-- signs and a space at the beginning
pub times_tokens : (rest : List ℕ) (ts : List Token) → HaveTokens rest ts → HaveTokens (42 ∷ rest) (Times ∷ ts)
times_tokens rest ts t i = ap (λ us. Times ∷ us) (t (suc i))

pub power_tokens : (rest : List ℕ) (ts : List Token) → HaveTokens rest ts → HaveTokens (94 ∷ rest) (Power ∷ ts)
power_tokens rest ts t i = ap (λ us. Power ∷ us) (t (suc i))

pub plus_tokens : (rest : List ℕ) (ts : List Token) → HaveTokens rest ts → HaveTokens (32 ∷ 43 ∷ 32 ∷ rest) (Plus ∷ ts)
plus_tokens rest ts t i = ap (λ us. Plus ∷ us) (t (suc (suc (suc i))))
