-- Tokens that borrow their bytes, and the tokens that they are.
use Rattle.std.specs.Prelude.{◌≡◌, ℕ, ◌+◌, ◌-◌, true, List, [], ◌∷◌, length, drop, Option, Some, None}
use Rattle.std.specs.List.{AllByRecursion}
use Rattle.std.specs.Str.Parse.{AllDigits}
use Rattle.system_text.specs.Characters.{is_name_character}
use Rattle.system_text.specs.Tokens.{Placed as TextPlaced, Token as TextToken, tokens_from}
use Rattle.system_parser.specs.declared.tokens.Token.{Token}
use Rattle.system_parser.specs.declared.tokens.Placed.{Placed}
use Rattle.system_parser.specs.declared.tokens.Token.TheVariants.{Name, Number, Plus, Minus, Times, Power, Open, Close, Stray, NotText}

-- a token with its bytes
abbrev pub token_of : Token → TextToken
token_of (Name bytes) = TextToken.Name bytes.now
token_of (Number bytes) = TextToken.Number bytes.now
token_of Plus = TextToken.Plus
token_of Minus = TextToken.Minus
token_of Times = TextToken.Times
token_of Power = TextToken.Power
token_of Open = TextToken.Open
token_of Close = TextToken.Close
token_of Stray = TextToken.Stray
token_of NotText = TextToken.NotText

-- a token with its places
abbrev pub placed_of : Placed → TextPlaced
placed_of t = record { token = token_of t.token; first = t.first; last = t.last }

-- how many bytes a token has
abbrev pub token_length : TextToken → ℕ
token_length (TextToken.Name bytes) = length bytes
token_length (TextToken.Number bytes) = length bytes
token_length _ = 1

-- the token at this place
abbrev pub token_at : ℕ → TextToken → TextPlaced
token_at i t = record { token = t; first = i; last = i + token_length t - 1 }

-- wherever they stand, the bytes begin with this token, and go on after it
abbrev pub BeginWith : List ℕ → TextToken → Type 0
BeginWith bytes t =
    (i : ℕ)
    → tokens_from i None bytes
    ≡ token_at i t ∷ tokens_from (i + token_length t) None (drop (token_length t) bytes)

-- a name's bytes may stand in names, and a number's are digits
abbrev pub IsSpelled : TextToken → Type 0
IsSpelled (TextToken.Name bytes) = AllByRecursion (λ b. is_name_character b ≡ true) bytes
IsSpelled (TextToken.Number bytes) = AllDigits 10 bytes
IsSpelled _ = Unit {0}

-- what was taken stood in front, or there was nothing, and nothing is left
abbrev pub TakesToken : Option Placed → List TextPlaced → List TextPlaced → Type 0
TakesToken None before after = (before ≡ []) × (after ≡ [])
TakesToken (Some t) before after = before ≡ placed_of t ∷ after
