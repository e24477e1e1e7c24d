-- The lines that are to come.
use Rattle.std.proofs.Common.{◌≡◌, ◌∙◌, ℕ, ◌+◌, List, ◌++◌, Some, drop, slice_get, sym, ap, append_assoc}
use Rattle.polynomials.specs.Polynomials.{Polynomial}
use Rattle.item_lists.proofs.Places.{drop_at}
use Rattle.report_text.specs.Lines.{nonzero_line}
use Rattle.report_text.specs.Answers.{nonzero_text}

-- the line of the next polynomial is written
pub line_turn : (names : List (List ℕ)) (fs : List Polynomial) (i : ℕ) (f : Polynomial) (text line ended all : List ℕ)
    → slice_get fs i ≡ Some f → line ≡ nonzero_line names f → ended ≡ text ++ line
    → text ++ nonzero_text names (drop i fs) ≡ all → ended ++ nonzero_text names (drop (i + 1) fs) ≡ all
line_turn names fs i f text line ended all h is_line ends so_far =
    let rest = nonzero_text names (drop (i + 1) fs) in
    ap (λ x. x ++ rest) (ends ∙ ap (λ x. text ++ x) is_line)
    ∙ (append_assoc text (nonzero_line names f) rest
    ∙ (ap (λ (xs : List Polynomial). text ++ nonzero_text names xs) (sym (drop_at fs i f h)) ∙ so_far))
