-- What a printer does with a chain.
use Rattle.std.specs.Prelude.{◌≡◌, ℕ, ◌+◌, List, Option}
use Rattle.std.specs.Io.KnownBytes.{Appends}
use Rattle.tri_io.specs.Faults.{Rose}
use Rattle.tri_io.specs.Transfers.{AppendsPart}
use Rattle.report_text.specs.Answers.{leaf_text}
use Rattle.finish_rules.specs.Leaves.{Leaf}
use Rattle.tri_many.specs.declared.output.Fault.{Fault}
use Rattle.tri_many.specs.declared.output.Fault.TheVariants.{Memory, Write}

-- over a sink, by what it took and by the count of its faults
module _ {K : Type 0} (taken : K → Option (List ℕ)) (faults : K → ℕ)
    (names : List (List ℕ)) (leaf : List ℕ × Leaf) where
  -- the sink takes the chain's text, and no fault is counted; the chain is counted
  pub record Prints (count_before count_after : ℕ) (before after : K) : Type 0 where
    pub text : Appends (taken before) (taken after) (leaf_text names leaf)
    pub kept : faults after ≡ faults before
    pub count : count_after ≡ count_before + 1

  -- without memory the sink stays as it is; where a write fails it takes a part of the text, and a
  -- fault is counted
  abbrev pub FailsToPrint : Fault → K → K → Type 0
  FailsToPrint Memory before after = after ≡ before
  FailsToPrint Write before after =
      Rose (faults before) (faults after)
      × AppendsPart (taken before) (taken after) (leaf_text names leaf)
