-- What the parser makes of a word that begins with two hyphens.
use Rattle.std.proofs.Common.{◌≡◌, ◌≢◌, ◌⊎◌, inl, inr, ℕ, zero, suc, Bool, true, false, ◌==◌, List, [], ◌∷◌, ◌++◌, Option, Some, None, option_and_then, refl, sym, ap, ap₂, ◌∙◌, cond, subst, arith}
use Rattle.std.specs.Prelude.{codes}
use Rattle.std.proofs.lemmas.Bool.Decides.{nat_tests}
use Rattle.clap.specs.Lexer.{long_of, long_of_rest, name_and_value, strip_byte}
use Rattle.clap.proofs.LexerLemmas.{name_and_value-at, name_and_value-without}
use Rattle.tri_io.specs.Commands.{Item, flag, single_word}
use Rattle.tri_io.specs.Texts.{HasNoEquals, IsPlainName}

-- a name's first byte stands in front of its others
long_of_text : (text : List ℕ) → text ≢ [] → long_of (codes "--" ++ text) ≡ Some (name_and_value text)
long_of_text [] some = absurd (some refl)
long_of_text (x ∷ xs) some = refl

pub long_of_single : (item : Item) → IsPlainName item.name → long_of (single_word item) ≡ Some (item.name, Some item.value)
long_of_single item plain =
    long_of_text (item.name ++ (61 ∷ item.value)) (λ none. some item.name none)
    ∙ ap (λ p. Some p) (name_and_value-at item.name item.value (λ i lt. plain.1 i 0 lt))
  where
    some : (name : List ℕ) → name ++ (61 ∷ item.value) ≡ [] → ⊥
    some [] e = cc
    some (x ∷ xs) e = cc

pub long_of_flag : (item : Item) → IsPlainName item.name → long_of (flag item) ≡ Some (item.name, None)
long_of_flag item plain =
    long_of_text item.name plain.0 ∙ ap (λ p. Some p) (name_and_value-without item.name (λ i lt. plain.1 i 0 lt))

-- a text has no equals sign, or it is cut at the first one
pub record Cut (text : List ℕ) : Type 0 where
  pub name : List ℕ
  pub value : List ℕ
  pub same : text ≡ name ++ (61 ∷ value)
  pub plain : HasNoEquals name

plain_push : (b : ℕ) (bs : List ℕ) → b ≢ 61 → HasNoEquals bs → HasNoEquals (b ∷ bs)
plain_push b bs ne plain zero d lt = ne
plain_push b bs ne plain (suc k) d lt = plain k d (omega arith)

pub cut : (text : List ℕ) → HasNoEquals text ⊎ Cut text
cut [] = inl (λ k d lt. absurd (omega arith))
cut (b ∷ bs) = at (b == 61) refl (cut bs)
  where
    later : b ≢ 61 → HasNoEquals bs ⊎ Cut bs → HasNoEquals (b ∷ bs) ⊎ Cut (b ∷ bs)
    later ne (inl plain) = inl (plain_push b bs ne plain)
    later ne (inr c) = inr (record { name = b ∷ c.name; value = c.value; same = ap (λ xs. b ∷ xs) c.same; plain = plain_push b c.name ne c.plain })

    at : (t : Bool) → (b == 61) ≡ t → HasNoEquals bs ⊎ Cut bs → HasNoEquals (b ∷ bs) ⊎ Cut (b ∷ bs)
    at true e rest =
        let is : b ≡ 61 = grind (arith, nat_tests) in
        inr (record { name = []; value = bs; same = ap (λ x. x ∷ bs) is; plain = λ k d lt. absurd (omega arith) })
    at false e rest = later (grind (arith, nat_tests)) rest

-- ---- a word that the parser takes for an option

-- the word has this name, and with an equals sign this value
pub record IsWord (word : List ℕ) (p : List ℕ × Option (List ℕ)) : Type 0 where
  pub plain : HasNoEquals p.0
  pub alone : p.1 ≡ None → word ≡ codes "--" ++ p.0
  pub valued : (value : List ℕ) → p.1 ≡ Some value → word ≡ codes "--" ++ (p.0 ++ (61 ∷ value))

-- a name without a value, or with one
alone_is : (word text : List ℕ) → word ≡ codes "--" ++ text → HasNoEquals text → IsWord word (text, None)
alone_is word text spelled plain = record { plain = plain; alone = λ _. spelled; valued = λ value e. cc }

valued_is : (word text name value : List ℕ) → word ≡ codes "--" ++ text → text ≡ name ++ (61 ∷ value) → HasNoEquals name → IsWord word (name, Some value)
valued_is word text name value spelled same plain = record {
  plain = plain;
  alone = λ e. cc;
  valued = λ other e. (let is : value ≡ other = cc in spelled ∙ ap (λ t. codes "--" ++ t) (same ∙ ap (λ v. name ++ (61 ∷ v)) is));
}

word_of_text : (word text : List ℕ) → word ≡ codes "--" ++ text → IsWord word (name_and_value text)
word_of_text word text spelled = elim (cut text) [
  | inl plain ↦ subst (λ (p : List ℕ × Option (List ℕ)). IsWord word p) (sym (name_and_value-without text (λ i lt. plain i 0 lt))) (alone_is word text spelled plain)
  | inr c ↦ subst (λ (p : List ℕ × Option (List ℕ)). IsWord word p)
      (sym (ap name_and_value c.same ∙ name_and_value-at c.name c.value (λ i lt. c.plain i 0 lt)))
      (valued_is word text c.name c.value spelled c.same c.plain)
]

byte_is : (b : ℕ) → (b == 45) ≡ true → b ≡ 45
byte_is b e = grind (arith, nat_tests)

pub word_is : (word : List ℕ) (p : List ℕ × Option (List ℕ)) → long_of word ≡ Some p → IsWord word p
word_is [] p e = cc
word_is (a ∷ []) p e = first (a == 45) e
  where
    first : (t : Bool) → option_and_then long_of_rest (option_and_then (strip_byte 45) (cond t (Some []) None)) ≡ Some p → IsWord (a ∷ []) p
    first true f = cc
    first false f = cc
word_is (a ∷ b ∷ text) p e = first (a == 45) refl e
  where
    third : (rest : List ℕ) → (a ∷ b ∷ rest) ≡ codes "--" ++ rest → long_of_rest rest ≡ Some p → IsWord (a ∷ b ∷ rest) p
    third [] spelled f = cc
    third (x ∷ xs) spelled f =
        let is : name_and_value (x ∷ xs) ≡ p = cc in
        subst (λ (q : List ℕ × Option (List ℕ)). IsWord (a ∷ b ∷ x ∷ xs) q) is (word_of_text (a ∷ b ∷ x ∷ xs) (x ∷ xs) spelled)

    second : (t : Bool) → a ≡ 45 → (b == 45) ≡ t → option_and_then long_of_rest (cond t (Some text) None) ≡ Some p → IsWord (a ∷ b ∷ text) p
    second true is_a at f = third text (ap₂ (λ x y. x ∷ y ∷ text) is_a (byte_is b at)) f
    second false is_a at f = cc

    first : (t : Bool) → (a == 45) ≡ t → option_and_then long_of_rest (option_and_then (strip_byte 45) (cond t (Some (b ∷ text)) None)) ≡ Some p → IsWord (a ∷ b ∷ text) p
    first true at f = second (b == 45) (byte_is a at) refl f
    first false at f = cc
