-- Psi, beta and the next row of canonical lists of terms are canonical.
use Rattle.std.proofs.Common.{ℕ, ◌<◌, Some, None}
use Rattle.division_rules.specs.Lists.{list_operations}
use Rattle.division_rules.specs.RemainderRows.{TurnBefore}
use Rattle.division_rules.specs.PolynomialRows.{IsPolynomialTurnBefore}
use Rattle.division_rules.proofs.CanonicalViews.{canonical_operations}

module _ (p n : ℕ) (many : 1 < p) where
  -- what is remembered of a turn, with its proof
  abbrev pub up_memory : (m : TurnBefore (list_operations p n)) → IsPolynomialTurnBefore p n m → TurnBefore (canonical_operations p n many)
  up_memory None i = None
  up_memory (Some m) i = Some ((m.0, i), m.1)
