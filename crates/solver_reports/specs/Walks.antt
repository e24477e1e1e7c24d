-- What a walk of a tree gives: the text of its answer or what that counts to, and whether it was
-- stopped.
use Rattle.std.specs.Prelude.{ℕ, ◌+◌, Bool, List, ◌++◌, length, Option}
use Rattle.std.specs.List.{flat_map}
use Rattle.polynomials.specs.Polynomials.{Polynomial}
use Rattle.split_paths.specs.Answer.{Answer}
use Rattle.split_paths.specs.declared.event.Why.{Why}
use Rattle.finish_rules.specs.Leaves.{Leaf}
use Rattle.report_text.specs.Answers.{answer_text, count_polys, is_stopped, last_line, leaf_text, stop_text}
use Rattle.report_text.specs.Lines.{summary_lines}

-- a text, and whether it ends at a branch that was stopped
pub record Walk : Type 0 where
  pub text : List ℕ
  pub stopped : Bool

-- the text of an answer, and whether it was stopped
abbrev pub walk_of : List (List ℕ) → List Polynomial → Answer Leaf → Walk
walk_of names nonzero answer =
    record { text = answer_text names nonzero answer; stopped = is_stopped answer.stop }

-- the text so far of an answer, and how many chains it has
pub record Front : Type 0 where
  pub text : List ℕ
  pub count : ℕ

-- the text of an answer's chains and of its end, behind so many chains
abbrev pub later_text : List (List ℕ) → ℕ → Answer Leaf → List ℕ
later_text names count answer =
    flat_map (leaf_text names) answer.chains
    ++ last_line (count + length answer.chains) answer.stop

-- what an answer counts to: its chains, their polynomials together, and where it was stopped
pub record Counts : Type 0 where
  pub chains : ℕ
  pub polys : ℕ
  pub stop : Option (List ℕ × Why)

-- the counts of an answer behind those of a front
abbrev pub counts_behind : ℕ → ℕ → Answer Leaf → Counts
counts_behind chains polys answer = record {
  chains = chains + length answer.chains;
  polys = polys + count_polys answer.chains;
  stop = answer.stop;
}

-- the counts of an answer
abbrev pub counts_of : Answer Leaf → Counts
counts_of answer = record {
  chains = length answer.chains;
  polys = count_polys answer.chains;
  stop = answer.stop;
}

-- the summary of an answer with these counts, to the system that is made from k, and whether it was
-- stopped
abbrev pub summary_of : ℕ → Counts → Walk
summary_of k counts = record {
  text = summary_lines k counts.chains counts.polys ++ stop_text counts.stop;
  stopped = is_stopped counts.stop;
}
