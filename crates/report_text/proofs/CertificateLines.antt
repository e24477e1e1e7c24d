-- The lines of a certificate, from one polynomial of the chain to the next.
use Rattle.std.proofs.Common.{◌≡◌, ◌∙◌, ℕ, ◌+◌, ◌<◌, ◌≤◌, false, List, [], ◌∷◌, ◌++◌, Some, length, drop, slice_get, refl, ap, subst, append_assoc, arith, lt-ltb}
use Rattle.std.proofs.lemmas.Option.{get_or_from_slice_get, slice_get_within}
use Rattle.std.proofs.lemmas.List.{drop_all}
use Rattle.std.proofs.lemmas.List.Elements.{All-get_or}
use Rattle.std.specs.List.{All}
use Rattle.item_lists.proofs.Places.{drop_at}
use Rattle.std.specs.List.{filter_map, flat_map, zip}
use Rattle.polynomials.specs.Polynomials.{Polynomial}
use Rattle.polynomials.specs.Views.{main_var}
use Rattle.zero_sets.specs.ZeroSets.{is_variable_below, members_below}
use Rattle.report_text.specs.Certified.{with_line}

-- the lines of the cofactors of a chain's polynomials below v
abbrev pub lines_below : List (List ℕ) → ℕ → List Polynomial → List Polynomial → List ℕ
lines_below names v chain bs = flat_map (with_line names) (zip (filter_map main_var (members_below v chain)) bs)

-- what holds of each holds of one
pub held_at : {A : Type 0} (P : A → Type 0) (xs : List A) (i : ℕ) (x : A) → All P xs → slice_get xs i ≡ Some x → P x
held_at P xs i x all at = subst P (get_or_from_slice_get xs i x x at) (All-get_or P xs i x (slice_get_within xs i x at) all)

-- at the polynomial t of the chain
module _ (v : ℕ) (chain : List Polynomial) (i : ℕ) (t : Polynomial) (h : slice_get chain i ≡ Some t) where
  -- it isn't below v
  pub members_skip : is_variable_below v (main_var t) ≡ false → members_below v (drop i chain) ≡ members_below v (drop (i + 1) chain)
  members_skip above = ap (λ ts. members_below v ts) (drop_at chain i t h) ∙ rw (above, members_below) refl

  -- it is
  pub members_take : (u : ℕ) → main_var t ≡ Some u → u < v → members_below v (drop i chain) ≡ t ∷ members_below v (drop (i + 1) chain)
  members_take u main less = ap (λ ts. members_below v ts) (drop_at chain i t h) ∙ rw (ap (is_variable_below v) main ∙ lt-ltb u v less, members_below) refl

  -- so a cofactor is its own
  pub cofactor_left : (u : ℕ) → main_var t ≡ Some u → u < v → (k : ℕ) (bs : List Polynomial) → k + length (members_below v (drop i chain)) ≡ length bs
      → k + 1 + length (members_below v (drop (i + 1) chain)) ≡ length bs
  cofactor_left u main less k bs all = let one = ap (λ (ts : List Polynomial). length ts) (members_take u main less) in omega arith

  -- and its line comes first
  pub lines_take : (names : List (List ℕ)) (u : ℕ) → main_var t ≡ Some u → u < v → (bs : List Polynomial) (k : ℕ) (b : Polynomial) → slice_get bs k ≡ Some b
      → lines_below names v (drop i chain) (drop k bs) ≡ with_line names (u, b) ++ lines_below names v (drop (i + 1) chain) (drop (k + 1) bs)
  lines_take names u main less bs k b at =
      ap (λ ts. flat_map (with_line names) (zip (filter_map main_var ts) (drop k bs))) (members_take u main less)
      ∙ (ap (λ ds. flat_map (with_line names) (zip (filter_map main_var (t ∷ members_below v (drop (i + 1) chain))) ds)) (drop_at bs k b at) ∙ rw main refl)

-- a line that is written is the next of those to come
pub line_written : (text line rest all written : List ℕ) → written ≡ text ++ line → text ++ (line ++ rest) ≡ all → written ++ rest ≡ all
line_written text line rest all written appended so_far = ap (λ x. x ++ rest) appended ∙ (append_assoc text line rest ∙ so_far)

-- behind the last polynomial of the chain there is none
pub lines_end : (names : List (List ℕ)) (v i : ℕ) (chain bs : List Polynomial) → length chain ≤ i → lines_below names v (drop i chain) bs ≡ []
lines_end names v i chain bs past = ap (λ ts. lines_below names v ts bs) (drop_all i chain past)
