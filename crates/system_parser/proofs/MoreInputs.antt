-- One more line of a text.
use Rattle.std.proofs.Common.{◌≡◌, ℕ, suc, ◌+◌, List, ◌∷◌, length, Ok, Err, Result, sym, ap, ◌∙◌, add-one}
use Rattle.system_text.specs.Faults.{Refusal}
use Rattle.system_text.specs.Lines.{TextSystem, Progress, read_line, read_lines, refusal_in}

-- what is left after a line that was read
pub read_lines-next : (n number end : ℕ) (before after : Progress) (line : List ℕ) (lines rest : List (List ℕ)) (whole : Result TextSystem Refusal) → lines ≡ line ∷ rest → read_line n before line ≡ Ok after → read_lines n number end before lines ≡ whole → read_lines n (number + 1) (length line + 1) after rest ≡ whole
read_lines-next n number end before after line lines rest whole first read is =
    ap (λ k. read_lines n k (length line + 1) after rest) (add-one number)
    ∙ (sym (ap (read_lines n number end before) first
    ∙ ap (λ r. elim r as (λ _. Result TextSystem Refusal) [ Ok next ↦ read_lines n (suc number) (length line + 1) next rest | Err e ↦ Err (refusal_in (suc number) e) ]) read) ∙ is)
