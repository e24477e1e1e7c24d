-- The characters of a system text.
use Rattle.std.specs.Prelude.{ℕ, Bool, true, false, ◌&&◌, ◌||◌, leb, eqb, List, [], ◌∷◌}

-- a character: from the space to the tilde
abbrev pub is_character : ℕ → Bool
is_character b = leb 32 b && leb b 126

-- a letter
abbrev pub is_letter : ℕ → Bool
is_letter b = (leb 65 b && leb b 90) || (leb 97 b && leb b 122)

-- a decimal digit
abbrev pub is_digit : ℕ → Bool
is_digit b = leb 48 b && leb b 57

-- what may follow in a name: a letter, a digit or an underscore
abbrev pub is_name_character : ℕ → Bool
is_name_character b = is_letter b || (is_digit b || eqb b 95)

-- each of them may follow in a name
abbrev pub are_name_characters : List ℕ → Bool
are_name_characters [] = true
are_name_characters (b ∷ bs) = is_name_character b && are_name_characters bs

-- a name: a letter, and what may follow in a name
abbrev pub is_name : List ℕ → Bool
is_name [] = false
is_name (b ∷ bs) = is_letter b && are_name_characters bs
