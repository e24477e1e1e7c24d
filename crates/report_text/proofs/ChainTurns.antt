-- The texts that are to come, from one item to the next.
use Rattle.std.proofs.Common.{◌≡◌, ◌∙◌, ℕ, ◌+◌, List, ◌++◌, Some, drop, slice_get, sym, ap, append_assoc}
use Rattle.std.specs.List.{flat_map}
use Rattle.std.specs.Prelude.{codes}
use Rattle.polynomials.specs.Polynomials.{Polynomial}
use Rattle.item_lists.proofs.Places.{drop_at}
use Rattle.report_text.specs.Polynomials.{poly_text}
use Rattle.report_text.specs.Lines.{poly_line}

-- the text of the next item is written
pub text_turn : {A : Type 0} (text_of : A → List ℕ) (xs : List A) (i : ℕ) (x : A) → slice_get xs i ≡ Some x
    → (text written all : List ℕ) → written ≡ text ++ text_of x
    → text ++ flat_map text_of (drop i xs) ≡ all
    → written ++ flat_map text_of (drop (i + 1) xs) ≡ all
text_turn {A} text_of xs i x h text written all appended so_far =
    ap (λ y. y ++ flat_map text_of (drop (i + 1) xs)) appended
    ∙ (append_assoc text (text_of x) (flat_map text_of (drop (i + 1) xs))
    ∙ (ap (λ (ys : List A). text ++ flat_map text_of ys) (sym (drop_at xs i x h)) ∙ so_far))

module _ (names : List (List ℕ)) (fs : List Polynomial) (i : ℕ) (f : Polynomial) (h : slice_get fs i ≡ Some f) where
  -- the line of the next polynomial is written
  pub line_turn : (text begun filled ended all : List ℕ)
      → begun ≡ text ++ codes "poly " → filled ≡ begun ++ poly_text names f → ended ≡ filled ++ codes "\n"
      → text ++ flat_map (poly_line names) (drop i fs) ≡ all
      → ended ++ flat_map (poly_line names) (drop (i + 1) fs) ≡ all
  line_turn text begun filled ended all begins fills ends so_far =
      text_turn (poly_line names) fs i f h text ended all line so_far
    where
      line : ended ≡ text ++ poly_line names f
      line =
          ends
          ∙ (ap (λ x. x ++ codes "\n") (fills ∙ (ap (λ x. x ++ poly_text names f) begins ∙ append_assoc text (codes "poly ") (poly_text names f)))
          ∙ (append_assoc text (codes "poly " ++ poly_text names f) (codes "\n")
          ∙ ap (λ x. text ++ x) (append_assoc (codes "poly ") (poly_text names f) (codes "\n"))))
