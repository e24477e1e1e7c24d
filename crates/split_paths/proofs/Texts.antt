-- The text of a path, one number after the other.
use Rattle.std.proofs.Common.{◌≡◌, ◌≤◌, ◌∙◌, ℕ, List, [], ◌∷◌, ◌++◌, length, take, map, ap, sym, append-nil}
use Rattle.std.proofs.lemmas.List.{take_all}
use Rattle.std.specs.Fmt.{decimal}
use Rattle.split_paths.specs.Paths.{path_text}
use Rattle.std.specs.List.{flat_map, join_with_byte}

-- what is joined by a byte is the first, and then that byte before each of the others
pub join_with_byte-flat_map : (f : ℕ → List ℕ) (c i : ℕ) (is : List ℕ)
    → join_with_byte c (map f (i ∷ is)) ≡ f i ++ flat_map (λ j. c ∷ f j) is
join_with_byte-flat_map f c i [] = sym (append-nil (f i))
join_with_byte-flat_map f c i (j ∷ js) = ap (λ rest. f i ++ (c ∷ rest)) (join_with_byte-flat_map f c j js)

-- the first number was written, and then the others up to the last
pub text_whole : (written first_text path : List ℕ) (first : ℕ) (others : List ℕ) (n : ℕ)
    → path ≡ first ∷ others → first_text ≡ decimal first → length others ≤ n
    → written ≡ first_text ++ flat_map (λ j. 46 ∷ decimal j) (take n others)
    → written ≡ path_text path
text_whole written first_text path first others n path_is first_is all_done so_far =
    so_far
    ∙ (ap (λ (ys : List ℕ). first_text ++ flat_map (λ j. 46 ∷ decimal j) ys) (take_all n others all_done)
    ∙ (ap (λ (xs : List ℕ). xs ++ flat_map (λ j. 46 ∷ decimal j) others) first_is
    ∙ (sym (join_with_byte-flat_map decimal 46 first others) ∙ ap path_text (sym path_is))))
