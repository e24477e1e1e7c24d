-- Whether a line is skipped, by what stands after its spaces.
use Rattle.std.proofs.Common.{◌≡◌, ℕ, suc, ◌+◌, Bool, true, false, cond, eqb, List, [], ◌∷◌, drop, Option, Some, None, refl, sym, ap, ◌∙◌, arith}
use Rattle.std.specs.List.{prefix_len, slice_get}
use Rattle.system_text.specs.Lines.{is_skipped}

-- how many spaces the line begins with
abbrev spaces : List ℕ → ℕ
spaces line = prefix_len (λ b. eqb b 32) line

-- nothing, or the beginning of a comment
abbrev pub skipped_by : Option ℕ → Bool
skipped_by None = true
skipped_by (Some b) = eqb b 35

skipped_by_test : (b : ℕ) (bs : List ℕ) (t : Bool) → is_skipped bs ≡ skipped_by (slice_get (drop (spaces bs) bs) 0) → cond t (is_skipped bs) (eqb b 35) ≡ skipped_by (slice_get (drop (cond t (1 + spaces bs) 0) (b ∷ bs)) 0)
skipped_by_test b bs true later =
    let more : 1 + spaces bs ≡ suc (spaces bs) = omega arith in
    rw more later
skipped_by_test b bs false later = refl

is_skipped-after : (line : List ℕ) → is_skipped line ≡ skipped_by (slice_get (drop (spaces line) line) 0)
is_skipped-after [] = refl
is_skipped-after (b ∷ bs) = skipped_by_test b bs (eqb b 32) (is_skipped-after bs)

-- the first byte after the spaces decides
pub skipped_by_first : (k : ℕ) (line rest : List ℕ) (first : Option ℕ) → k ≡ spaces line → rest ≡ drop k line → first ≡ slice_get rest 0 → skipped_by first ≡ is_skipped line
skipped_by_first k line rest first counted after is =
    sym (is_skipped-after line
    ∙ (ap (λ n. skipped_by (slice_get (drop n line) 0)) (sym counted)
    ∙ (ap (λ l. skipped_by (slice_get l 0)) (sym after) ∙ ap skipped_by (sym is))))
