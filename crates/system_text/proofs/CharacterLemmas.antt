-- Letters, digits and signs are characters.
use Rattle.std.proofs.Common.{◌≡◌, ◌≢◌, ◌⊎◌, ℕ, ◌+◌, ◌*◌, ◌^◌, ◌≤◌, true, false, ◌&&◌, ◌||◌, leb, eqb, List, [], ◌∷◌, ◌++◌, length, refl, sym, subst, inl, inr, length-append, arith}
use Rattle.std.proofs.lemmas.Bool.{leb-true, le-leb, eqb-true, eqb-false, and_parts, and_from, or_cases}
use Rattle.std.proofs.lemmas.Nat.{pow-add}
use Rattle.std.proofs.lemmas.Str.{digit_value_digit}
use Rattle.std.proofs.lemmas.Int.Digits.{digits_value_push}
use Rattle.std.specs.Str.Parse.{digits_value}
use Rattle.system_text.specs.Characters.{is_character, is_letter, is_digit, is_name_character, are_name_characters, is_name}

-- what a test between two numbers tells
between : (low high b : ℕ) → (leb low b && leb b high) ≡ true → (low ≤ b) × (b ≤ high)
between low high b e =
    let parts = and_parts (leb low b) (leb b high) e in
    (leb-true low b parts.0, leb-true b high parts.1)

is_character_from : (b : ℕ) → 32 ≤ b → b ≤ 126 → is_character b ≡ true
is_character_from b h i = and_from (leb 32 b) (leb b 126) (le-leb 32 b h) (le-leb b 126 i)

pub letter_is_character : (b : ℕ) → is_letter b ≡ true → is_character b ≡ true
letter_is_character b e = by_case (or_cases (leb 65 b && leb b 90) (leb 97 b && leb b 122) e)
  where
    by_case : ((leb 65 b && leb b 90) ≡ true) ⊎ ((leb 97 b && leb b 122) ≡ true) → is_character b ≡ true
    by_case (inl d) = let range = between 65 90 b d in is_character_from b (omega arith) (omega arith)
    by_case (inr d) = let range = between 97 122 b d in is_character_from b (omega arith) (omega arith)

pub digit_is_character : (b : ℕ) → is_digit b ≡ true → is_character b ≡ true
digit_is_character b e = let range = between 48 57 b e in is_character_from b (omega arith) (omega arith)

pub byte_is_character : (n b : ℕ) → is_character n ≡ true → eqb b n ≡ true → is_character b ≡ true
byte_is_character n b h e = subst (λ x. is_character x ≡ true) (sym (eqb-true b n e)) h

pub name_character_is_character : (b : ℕ) → is_name_character b ≡ true → is_character b ≡ true
name_character_is_character b e = by_case (or_cases (is_letter b) (is_digit b || eqb b 95) e)
  where
    otherwise : (is_digit b ≡ true) ⊎ (eqb b 95 ≡ true) → is_character b ≡ true
    otherwise (inl d) = digit_is_character b d
    otherwise (inr d) = byte_is_character 95 b refl d

    by_case : (is_letter b ≡ true) ⊎ ((is_digit b || eqb b 95) ≡ true) → is_character b ≡ true
    by_case (inl d) = letter_is_character b d
    by_case (inr d) = otherwise (or_cases (is_digit b) (eqb b 95) d)

are_name_characters-push : (bs : List ℕ) (b : ℕ) → is_name_character b ≡ true → are_name_characters bs ≡ true → are_name_characters (bs ++ b ∷ []) ≡ true
are_name_characters-push [] b h e = and_from (is_name_character b) true h refl
are_name_characters-push (c ∷ bs) b h e =
    let parts = and_parts (is_name_character c) (are_name_characters bs) e in
    and_from (is_name_character c) (are_name_characters (bs ++ b ∷ [])) parts.0 (are_name_characters-push bs b h parts.1)

-- a longer name
pub is_name-push : (bs : List ℕ) (b : ℕ) → is_name_character b ≡ true → is_name bs ≡ true → is_name (bs ++ b ∷ []) ≡ true
is_name-push [] b h e = absurd cc
is_name-push (c ∷ bs) b h e =
    let parts = and_parts (is_letter c) (are_name_characters bs) e in
    and_from (is_letter c) (are_name_characters (bs ++ b ∷ [])) parts.0 (are_name_characters-push bs b h parts.1)

pub is_name-letter : (b : ℕ) → is_letter b ≡ true → is_name (b ∷ []) ≡ true
is_name-letter b e = and_from (is_letter b) true e refl

-- a number that doesn't begin with 0 is large where it is long
abbrev pub IsFull : List ℕ → Type 0
IsFull digits = 10 ^ length digits ≤ 10 * digits_value 10 digits

pub IsFull-push : (bs : List ℕ) (b : ℕ) → IsFull bs → IsFull (bs ++ b ∷ [])
IsFull-push bs b h =
    let longer : length (bs ++ b ∷ []) ≡ length bs + 1 = length-append bs (b ∷ []) in
    let value = digits_value_push 10 bs b in
    rw (longer, pow-add 10 (length bs) 1, value) (omega arith)

pub IsFull-digit : (b : ℕ) → is_digit b ≡ true → eqb b 48 ≡ false → IsFull (b ∷ [])
IsFull-digit b e d =
    let range = between 48 57 b e in
    let value = digit_value_digit b (range.0, range.1) in
    let other : b ≢ 48 = eqb-false b 48 d in
    let pushed = digits_value_push 10 [] b in
    rw pushed (omega arith)
