-- What a system text is, by its grammar.
use Rattle.std.specs.Prelude.{◌≡◌, ◌≢◌, ◌⊎◌, ℕ, ◌≤◌, true, false, not, List, [], ◌∷◌, ◌++◌, length, map, filter, Some, Contains, codes, IsTrue}
use Rattle.std.specs.List.{AllByRecursion, IsDistinct, list_any}
use Rattle.std.specs.Str.{bytes_eq}
use Rattle.std.specs.Str.Parse.{digits_value}
use Rattle.polynomials.specs.Primes.{field_primes}
use Rattle.polynomials.specs.Polynomials.{Polynomial}
use Rattle.system_text.specs.Characters.{is_character, is_name}
use Rattle.system_text.specs.Tokens.{Token, Name, Number, tokens, unplaced}
use Rattle.system_text.specs.Readings.{Setting}
use Rattle.system_text.specs.Grammar.{Sum, sum_tokens, sum_value, IsSumWithin}
use Rattle.system_text.specs.Heads.{reserved_names}
use Rattle.system_text.specs.Lines.{lines_of, is_skipped, is_nonzero_line, TextSystem, setting_of}

-- the line has these tokens
abbrev pub HasTokens : List ℕ → List Token → Type 0
HasTokens line ts = unplaced (tokens line) ≡ ts

-- the line has these tokens first, and then spells a sum within the limits whose value is f
pub record SpellsAfter
    (first : List Token) (s : Setting) (line : List ℕ) (f : Polynomial) : Type 0 where
  pub tree : Sum
  pub spelled : HasTokens line (first ++ sum_tokens tree)
  pub value : sum_value s tree ≡ Some f
  pub within : IsSumWithin 0 tree

-- the line spells a sum within the limits whose value is f
abbrev pub SpellsSum : Setting → List ℕ → Polynomial → Type 0
SpellsSum = SpellsAfter []

-- the word that begins a nonzero line
abbrev pub nonzero_word : List Token
nonzero_word = Name (codes "nonzero") ∷ []

-- the line is `nonzero` and such a sum
abbrev pub SpellsNonzero : Setting → List ℕ → Polynomial → Type 0
SpellsNonzero = SpellsAfter nonzero_word

-- the lines spell these polynomials, one each, after these tokens
abbrev pub SpellEach : List Token → Setting → List (List ℕ) → List Polynomial → Type 0
SpellEach first s [] fs = fs ≡ []
SpellEach first s (line ∷ lines) [] = ⊥
SpellEach first s (line ∷ lines) (f ∷ fs) = SpellsAfter first s line f × SpellEach first s lines fs

-- the line is `prime` and this number
pub record SpellsPrime (line : List ℕ) (p : ℕ) : Type 0 where
  pub digits : List ℕ
  pub spelled : HasTokens line (Name (codes "prime") ∷ Number digits ∷ [])
  pub value : digits_value 10 digits ≡ p
  pub offered : Contains field_primes p

-- one to n different names, none of them reserved, each spelled as names are
pub record AreNames (n : ℕ) (names : List (List ℕ)) : Type 0 where
  pub some : names ≢ []
  pub most : length names ≤ n
  pub different : IsDistinct bytes_eq names
  pub free : AllByRecursion (λ x. list_any (bytes_eq x) reserved_names ≡ false) names
  pub spelled : AllByRecursion (λ x. is_name x ≡ true) names

-- the line is `order` and these names
pub record SpellsOrder (n : ℕ) (line : List ℕ) (names : List (List ℕ)) : Type 0 where
  pub spelled : HasTokens line (Name (codes "order") ∷ map Name names)
  pub lawful : AreNames n names

-- the lines that aren't skipped
abbrev pub content_of : List ℕ → List (List ℕ)
content_of bytes = filter (λ line. not (is_skipped line)) (lines_of bytes)

-- each byte is a character or ends a line
abbrev pub HasTextBytes : List ℕ → Type 0
HasTextBytes bytes = AllByRecursion (λ b. IsTrue (is_character b) ⊎ (b ≡ 10)) bytes

-- of these lines those that begin with `nonzero` spell the polynomials that must not vanish, and
-- the others those whose zeros are sought, both in order
pub record SpellPolynomials (n : ℕ) (lines : List (List ℕ)) (system : TextSystem) : Type 0 where
  pub inputs :
      SpellEach [] (setting_of n system)
      (filter (λ line. not (is_nonzero_line line)) lines)
      system.inputs
  pub nonzero :
      SpellEach nonzero_word (setting_of n system)
      (filter is_nonzero_line lines)
      system.nonzero

-- the text is the system: a prime line, an order line, and a line for each polynomial
pub record IsSystemText (n : ℕ) (bytes : List ℕ) (system : TextSystem) : Type 0 where
  pub characters : HasTextBytes bytes
  pub prime_line : List ℕ
  pub order_line : List ℕ
  pub further_lines : List (List ℕ)
  pub lines : content_of bytes ≡ prime_line ∷ order_line ∷ further_lines
  pub prime : SpellsPrime prime_line system.prime
  pub order : SpellsOrder n order_line system.names
  pub polynomials : SpellPolynomials n further_lines system
