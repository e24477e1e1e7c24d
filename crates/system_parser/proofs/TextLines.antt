-- The lines of a text, taken from its front.
use Rattle.std.proofs.Common.{◌≡◌, ℕ, suc, ◌+◌, ◌≤◌, Bool, true, false, not, cond, eqb, List, [], ◌∷◌, length, take, drop, Option, refl, sym, ap, ap₂, ◌∙◌, arith}
use Rattle.std.specs.List.{onto_first, prefix_len}
use Rattle.std.proofs.lemmas.List.Splits.{length-slice_split}
use Rattle.std.proofs.lemmas.List.Sums.{count_by-le-length}
use Rattle.system_text.specs.Lines.{lines_of}
use Rattle.system_parser.specs.Systems.{lines_left, after_first}

-- a text has a line more than line feeds
pub length-lines_of : (bytes : List ℕ) → length (lines_of bytes) ≤ length bytes + 1
length-lines_of bytes = omega (arith, length-slice_split (λ b. eqb b 10) bytes, count_by-le-length (λ b. eqb b 10) bytes)

-- how many bytes stand before the first line feed
abbrev first_length : List ℕ → ℕ
first_length bytes = prefix_len (λ b. not (eqb b 10)) bytes

split_by_test : (b : ℕ) (bs : List ℕ) (t : Bool) (n : ℕ) → eqb b 10 ≡ t → n ≡ first_length bs → lines_of bs ≡ take n bs ∷ lines_left (after_first (drop n bs)) → cond t ([] ∷ lines_of bs) (onto_first b (lines_of bs)) ≡ take (cond (not t) (1 + n) 0) (b ∷ bs) ∷ lines_left (after_first (drop (cond (not t) (1 + n) 0) (b ∷ bs)))
split_by_test b bs true n e counted later = refl
split_by_test b bs false n e counted later =
    let more : 1 + n ≡ suc n = omega arith in
    rw more (ap (onto_first b) later)

-- the first line goes up to the first line feed
first_line : (bytes : List ℕ) → lines_of bytes ≡ take (first_length bytes) bytes ∷ lines_left (after_first (drop (first_length bytes) bytes))
first_line [] = refl
first_line (b ∷ bs) = split_by_test b bs (eqb b 10) (first_length bs) refl refl (first_line bs)

-- the same, with a number that was counted
pub first_line_of : (bytes line : List ℕ) (rest : Option (List ℕ)) (n : ℕ) → n ≡ first_length bytes → line ≡ take n bytes → rest ≡ after_first (drop n bytes) → lines_of bytes ≡ line ∷ lines_left rest
first_line_of bytes line rest n counted front back =
    first_line bytes
    ∙ (ap (λ k. take k bytes ∷ lines_left (after_first (drop k bytes))) (sym counted)
    ∙ ap₂ (λ l r. l ∷ lines_left r) (sym front) (sym back))
