-- The laws of ranks: they have one length, and such lists don't fall for ever.
use Rattle.std.specs.Prelude.{◌≡◌, ℕ, suc, ◌+◌, List, length}
use Rattle.zero_sets.specs.Tasks.{Task}
use Rattle.rank_rules.specs.Orders.{IsLessFromFirst}
use Rattle.rank_rules.specs.Ranks.{rank_of}

-- there is no endless row of lists of the length m, each less than the one before
abbrev pub RanksEnd : Type 0
RanksEnd =
    (m : ℕ) (ranks : ℕ → List ℕ)
    → ((i : ℕ) → length (ranks i) ≡ m)
    → ((i : ℕ) → IsLessFromFirst (ranks (suc i)) (ranks i))
    → ⊥

-- all ranks by k variables are such lists, of one length
abbrev pub RanksHaveOneLength : Type 0
RanksHaveOneLength = (p n k w : ℕ) (task : Task) → length (rank_of p n k w task) ≡ k + 2
