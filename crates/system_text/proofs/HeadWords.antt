-- The word that begins a head line is read exactly where it stands first.
use Rattle.std.proofs.Common.{◌≡◌, ℕ, true, List, [], ◌∷◌, Ok, refl}
use Rattle.std.proofs.lemmas.Slice.Eq.{bytes_eq-Decides}
use Rattle.std.specs.Str.{bytes_eq}
use Rattle.system_text.specs.Tokens.{Token, Placed, Name, unplaced}
use Rattle.system_text.specs.Faults.{misplaced}
use Rattle.system_text.specs.Heads.{after_word, word_first}
use Rattle.system_text.proofs.Passed.{ok_from_test}

-- the word first, as it is read
pub word_is_spelled : (number end : ℕ) (word : List ℕ) (ts us : List Placed) → word_first number word end ts ≡ Ok us → unplaced ts ≡ Name word ∷ unplaced us
word_is_spelled number end word [] us e = absurd cc
word_is_spelled number end word (t ∷ ts) us e = by_token t.token refl e
  where
    by_token : (x : Token) → t.token ≡ x → after_word number word t x ts ≡ Ok us → unplaced (t ∷ ts) ≡ Name word ∷ unplaced us
    by_token (Name x) d k =
        let passed = ok_from_test (bytes_eq x word) ts (misplaced number t) us k in
        let same : x ≡ word = (bytes_eq-Decides x word).0 passed.0 in
        rw (d, same, passed.1) refl
    by_token Token.Plus d k = absurd cc
    by_token _ d k = absurd cc

-- and back
pub word_is_read : (number end : ℕ) (word : List ℕ) (ts : List Placed) (xs : List Token) → unplaced ts ≡ Name word ∷ xs → (us : List Placed) × (word_first number word end ts ≡ Ok us) × (unplaced us ≡ xs)
word_is_read number end word [] xs e = absurd cc
word_is_read number end word (t ∷ ts) xs e =
    let token : t.token ≡ Name word = cc in
    let same : bytes_eq word word ≡ true = (bytes_eq-Decides word word).1 refl in
    (ts, rw (token, same) refl, cc)
