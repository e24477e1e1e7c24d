-- One more name of an order line.
use Rattle.std.proofs.Common.{◌≡◌, ℕ, ◌<◌, ◌≤◌, true, false, cond, leb, eqb, ◌&&◌, ◌||◌, inl, inr, List, [], ◌∷◌, ◌++◌, length, Ok, Err, Result, ap, ◌∙◌, arith}
use Rattle.std.specs.List.{AllByRecursion, list_any}
use Rattle.std.specs.Str.{bytes_eq}
use Rattle.std.proofs.lemmas.Bool.{and_parts, leb-true, eqb-true, or_cases}
use Rattle.std.proofs.lemmas.Bool.Decides.{leb_tells}
use Rattle.system_text.specs.Characters.{is_letter, is_digit, is_name_character}
use Rattle.system_text.specs.Tokens.{Placed, Name}
use Rattle.system_text.specs.Faults.{Fault, fault}
use Rattle.system_text.specs.Heads.{reserved_names, with_name}

module _ (n : ℕ) (names : List (List ℕ)) (t : Placed) (x : List ℕ) where
  -- whether it is one of the names before it, where it isn't reserved and there is room
  by_names : list_any (bytes_eq x) reserved_names ≡ false → length names < n → with_name n names t (Name x) ≡ cond (list_any (bytes_eq x) names) (Err (fault 6 t.first)) (Ok (names ++ x ∷ []))
  by_names free room =
      ap (λ b. cond b (Err (fault 4 t.first)) (cond (leb n (length names)) (Err (fault 5 t.first)) (cond (list_any (bytes_eq x) names) (Err (fault 6 t.first)) (Ok (names ++ x ∷ []))))) free
      ∙ ap (λ b. cond {A = Result (List (List ℕ)) Fault} b (Err (fault 5 t.first)) (cond (list_any (bytes_eq x) names) (Err (fault 6 t.first)) (Ok (names ++ x ∷ [])))) (lt-leb_false room)
    where
      lt-leb_false : length names < n → leb n (length names) ≡ false
      lt-leb_false less = elim (leb_tells n (length names)) [
        | inl h ↦ let most : n ≤ length names = h.1 in absurd (omega arith)
        | inr h ↦ h.0
      ]

  pub name_repeats : list_any (bytes_eq x) reserved_names ≡ false → length names < n → list_any (bytes_eq x) names ≡ true → with_name n names t (Name x) ≡ Err (fault 6 t.first)
  name_repeats free room repeated = by_names free room ∙ ap (λ b. cond {A = Result (List (List ℕ)) Fault} b (Err (fault 6 t.first)) (Ok (names ++ x ∷ []))) repeated

  pub name_is_new : list_any (bytes_eq x) reserved_names ≡ false → length names < n → list_any (bytes_eq x) names ≡ false → with_name n names t (Name x) ≡ Ok (names ++ x ∷ [])
  name_is_new free room new = by_names free room ∙ ap (λ b. cond {A = Result (List (List ℕ)) Fault} b (Err (fault 6 t.first)) (Ok (names ++ x ∷ []))) new

-- names are written in ASCII
small_letter : (b : ℕ) → is_letter b ≡ true → b < 128
small_letter b e = elim (or_cases (leb 65 b && leb b 90) (leb 97 b && leb b 122) e) [
  | inl upper ↦ let most : b ≤ 90 = leb-true b 90 (and_parts (leb 65 b) (leb b 90) upper).1 in omega arith
  | inr lower ↦ let most : b ≤ 122 = leb-true b 122 (and_parts (leb 97 b) (leb b 122) lower).1 in omega arith
]

small_other : (b : ℕ) → (is_digit b || eqb b 95) ≡ true → b < 128
small_other b e = elim (or_cases (is_digit b) (eqb b 95) e) [
  | inl digit ↦ let most : b ≤ 57 = leb-true b 57 (and_parts (leb 48 b) (leb b 57) digit).1 in omega arith
  | inr line ↦ let is : b ≡ 95 = eqb-true b 95 line in omega arith
]

small_character : (b : ℕ) → is_name_character b ≡ true → b < 128
small_character b e = elim (or_cases (is_letter b) (is_digit b || eqb b 95) e) [
  | inl letter ↦ small_letter b letter
  | inr other ↦ small_other b other
]

pub small_characters : (bs : List ℕ) → AllByRecursion (λ b. is_name_character b ≡ true) bs → AllByRecursion (λ b. b < 128) bs
small_characters [] h = tt
small_characters (b ∷ bs) h = (small_character b h.0, small_characters bs h.1)
