-- The text of an answer: what must not vanish, its chains in path order, and how it ends; and the
-- summary that stands for it where the system was made.
use Rattle.std.specs.Prelude.{ℕ, Bool, true, false, List, [], ◌++◌, length, sum_by, Option, Some, None}
use Rattle.std.specs.List.{flat_map}
use Rattle.polynomials.specs.Polynomials.{Polynomial}
use Rattle.split_paths.specs.Answer.{Answer}
use Rattle.split_paths.specs.declared.event.Why.{Why}
use Rattle.finish_rules.specs.Leaves.{Leaf}
use Rattle.report_text.specs.Lines.{nonzero_line, end_line, stopped_line, summary_lines}
use Rattle.report_text.specs.Certified.{chain_text}

-- the polynomials that must not vanish
abbrev pub nonzero_text : List (List ℕ) → List Polynomial → List ℕ
nonzero_text names nonzero = flat_map (nonzero_line names) nonzero

-- a leaf with its path
abbrev pub leaf_text : List (List ℕ) → (List ℕ × Leaf) → List ℕ
leaf_text names leaf = chain_text names leaf.0 leaf.1.chain leaf.1.certificates

-- the last line: how many chains there are, or where a branch was stopped
abbrev pub last_line : ℕ → Option (List ℕ × Why) → List ℕ
last_line count None = end_line count
last_line count (Some stop) = stopped_line stop.0 stop.1

-- the text of the answer to a system with these names and these polynomials that must not vanish
abbrev pub answer_text : List (List ℕ) → List Polynomial → Answer Leaf → List ℕ
answer_text names nonzero answer =
    nonzero_text names nonzero
    ++ (flat_map (leaf_text names) answer.chains
    ++ last_line (length answer.chains) answer.stop)

-- whether the answer was stopped
abbrev pub is_stopped : Option (List ℕ × Why) → Bool
is_stopped None = false
is_stopped (Some stop) = true

-- how many polynomials the chains of an answer have together
abbrev pub count_polys : List (List ℕ × Leaf) → ℕ
count_polys chains = sum_by (λ (leaf : List ℕ × Leaf). length leaf.1.chain) chains

-- where a branch was stopped, if one was
abbrev pub stop_text : Option (List ℕ × Why) → List ℕ
stop_text None = []
stop_text (Some stop) = stopped_line stop.0 stop.1

-- the summary of the answer to the system that is made from k
abbrev pub summary_text : ℕ → Answer Leaf → List ℕ
summary_text k answer =
    summary_lines k (length answer.chains) (count_polys answer.chains) ++ stop_text answer.stop
