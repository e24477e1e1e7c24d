-- A text of characters and line feeds has lines of characters.
use Rattle.std.proofs.Common.{◌≡◌, ◌⊎◌, ℕ, suc, Bool, true, false, cond, eqb, List, [], ◌∷◌, map, Option, Some, None, refl, ap, ◌∙◌, inl, inr}
use Rattle.std.proofs.lemmas.Bool.{eqb-true, eqb-false, cond_both}
use Rattle.std.specs.Prelude.{IsTrue}
use Rattle.std.specs.List.{AllByRecursion, onto_first}
use Rattle.system_text.specs.Characters.{is_character}
use Rattle.system_text.specs.Tokens.{Token, Name}
use Rattle.system_text.specs.Lines.{lines_of, first_not_text}
use Rattle.system_text.specs.Grammar.{Sum, TermTree, Factor, Base, First, FirstNegative, Added, TakenAway, Single, Multiplied, Bare, Raised, Numeral, Variable, Parenthesis, sum_tokens, term_tokens, factor_tokens, base_tokens}
use Rattle.system_text.specs.Systems.{HasTextBytes}
use Rattle.system_text.proofs.TokenTexts.{IsText, AllByRecursion-append}

-- a line of characters alone
abbrev pub HasCharacters : List ℕ → Type 0
HasCharacters line = AllByRecursion (λ b. is_character b ≡ true) line

-- the first byte that is none
first_if : (b : Bool) (i : ℕ) (later : Option ℕ) → cond b later (Some i) ≡ None → (b ≡ true) × (later ≡ None)
first_if true i later e = (refl, e)
first_if false i later e = absurd cc

pub characters_from_none : (i : ℕ) (line : List ℕ) → first_not_text i line ≡ None → HasCharacters line
characters_from_none i [] e = tt
characters_from_none i (b ∷ bs) e =
    let parts = first_if (is_character b) i (first_not_text (suc i) bs) e in
    (parts.0, characters_from_none (suc i) bs parts.1)

pub none_from_characters : (i : ℕ) (line : List ℕ) → HasCharacters line → first_not_text i line ≡ None
none_from_characters i [] h = refl
none_from_characters i (b ∷ bs) h = ap (λ c. cond c (first_not_text (suc i) bs) (Some i)) h.0 ∙ none_from_characters (suc i) bs h.1

onto_first_parts : (b : ℕ) (lines : List (List ℕ)) → AllByRecursion HasCharacters (onto_first b lines) → (is_character b ≡ true) × AllByRecursion HasCharacters lines
onto_first_parts b [] h = (h.0.0, tt)
onto_first_parts b (line ∷ lines) h = (h.0.0, (h.0.1, h.1))

onto_first_from : (b : ℕ) (lines : List (List ℕ)) → is_character b ≡ true → AllByRecursion HasCharacters lines → AllByRecursion HasCharacters (onto_first b lines)
onto_first_from b [] e h = ((e, tt), tt)
onto_first_from b (line ∷ lines) e h = ((e, h.0), h.1)

-- a text whose lines have characters alone
pub plain_from_lines : (bytes : List ℕ) → AllByRecursion HasCharacters (lines_of bytes) → HasTextBytes bytes
plain_from_lines [] h = tt
plain_from_lines (b ∷ bs) h =
    cond_both (eqb b 10) ([] ∷ lines_of bs) (onto_first b (lines_of bs)) (λ lines. AllByRecursion HasCharacters lines → HasTextBytes (b ∷ bs))
    (λ e k. (inr (eqb-true b 10 e), plain_from_lines bs k.1))
    (λ e k.
    let parts = onto_first_parts b (lines_of bs) k in
    (inl parts.0, plain_from_lines bs parts.1))
    h

other_byte : (b : ℕ) → IsTrue (is_character b) ⊎ (b ≡ 10) → eqb b 10 ≡ false → is_character b ≡ true
other_byte b (inl h) e = h
other_byte b (inr h) e = absurd (eqb-false b 10 e h)

-- and back
pub lines_from_plain : (bytes : List ℕ) → HasTextBytes bytes → AllByRecursion HasCharacters (lines_of bytes)
lines_from_plain [] h = (tt, tt)
lines_from_plain (b ∷ bs) h =
    cond_both (eqb b 10) ([] ∷ lines_of bs) (onto_first b (lines_of bs)) (AllByRecursion HasCharacters)
    (λ e. (tt, lines_from_plain bs h.1))
    (λ e. onto_first_from b (lines_of bs) (other_byte b h.0 e) (lines_from_plain bs h.1))

-- names are text
pub names_are_text : (names : List (List ℕ)) → AllByRecursion IsText (map Name names)
names_are_text [] = tt
names_are_text (x ∷ names) = (tt, names_are_text names)

mutual
  -- and so are the tokens of a sum
  pub sum_is_text : (f : Sum) → AllByRecursion IsText (sum_tokens f)
  sum_is_text (First t) = term_is_text t
  sum_is_text (FirstNegative t) = (tt, term_is_text t)
  sum_is_text (Added f t) = AllByRecursion-append IsText (sum_tokens f) (Token.Plus ∷ term_tokens t) (sum_is_text f) (tt, term_is_text t)
  sum_is_text (TakenAway f t) = AllByRecursion-append IsText (sum_tokens f) (Token.Minus ∷ term_tokens t) (sum_is_text f) (tt, term_is_text t)

  term_is_text : (t : TermTree) → AllByRecursion IsText (term_tokens t)
  term_is_text (Single f) = factor_is_text f
  term_is_text (Multiplied t f) = AllByRecursion-append IsText (term_tokens t) (Token.Times ∷ factor_tokens f) (term_is_text t) (tt, factor_is_text f)

  factor_is_text : (f : Factor) → AllByRecursion IsText (factor_tokens f)
  factor_is_text (Bare b) = base_is_text b
  factor_is_text (Raised b digits) = AllByRecursion-append IsText (base_tokens b) (Token.Power ∷ Token.Number digits ∷ []) (base_is_text b) (tt, (tt, tt))

  base_is_text : (b : Base) → AllByRecursion IsText (base_tokens b)
  base_is_text (Numeral digits) = (tt, tt)
  base_is_text (Variable x) = (tt, tt)
  base_is_text (Parenthesis f) = (tt, AllByRecursion-append IsText (sum_tokens f) (Token.Close ∷ []) (sum_is_text f) (tt, tt))
