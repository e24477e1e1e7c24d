-- One turn of remainder rows within a width.
use Rattle.std.specs.Prelude.{◌≢◌, ℕ, true, false, List, [], Option, Some, None, unwrap_or}
use Rattle.mono_words.specs.declared.mono.TheConstants.{VARS}
use Rattle.polynomials.specs.Polynomials.{Polynomial, IsPolynomial, is_zero}
use Rattle.division_rules.specs.Operations.{lead}
use Rattle.division_rules.specs.Rows.{Row}
use Rattle.division_rules.specs.Within.{and_then}
use Rattle.division_rules.specs.RemainderRows.{TurnBefore, divided, fall}
use Rattle.division_rules.specs.RemainderRowsWithin.{psi_within, beta_within, undivided_within}
use Rattle.pseudo_division.specs.FieldOperations.{operations}
use Rattle.subresultants.specs.declared.turn.NextRow.{NextRow}
use Rattle.subresultants.specs.declared.turn.NextRow.TheVariants.{Zero, Later}

-- psi of the turn before is canonical and isn't 0
abbrev pub IsTurnBeforeOver : (p : ℕ) → TurnBefore (operations p) → Type 0
IsTurnBeforeOver p None = Unit {0}
IsTurnBeforeOver p (Some m) = IsPolynomial p VARS m.0 × (m.0 ≢ [])

-- psi and beta of the turn in which the degree has fallen by d from the row f
abbrev pub divisors_within :
    (p w v : ℕ) → TurnBefore (operations p) → Row Polynomial → ℕ → Option (Polynomial × Polynomial)
divisors_within p w v m f d =
    and_then (psi_within (operations p) w m (lead (operations p) v f.first)) (λ q.
    and_then (beta_within (operations p) w m (lead (operations p) v f.first) q d) (λ b.
    Some (q, b)))

-- what a turn makes of the row s before its division: a zero row, or one that is divided by beta
abbrev pub divided_turn :
    (p w v : ℕ)
    → TurnBefore (operations p)
    → Row Polynomial
    → Row Polynomial
    → Row Polynomial
    → Option NextRow
divided_turn p w v m f g s = elim (is_zero s.first) [
  | true ↦ Some (Zero s)
  | false ↦ and_then (divisors_within p w v m f (fall (operations p) v f g)) (λ qb.
      Some
      (Later (unwrap_or (divided (operations p) w qb.1 s) s) (qb.0, fall (operations p) v f g)))
]

-- the row after f and g below a chain, with what the next turn remembers
abbrev pub turn_within :
    (p w v : ℕ)
    → List (Row Polynomial)
    → TurnBefore (operations p)
    → Row Polynomial
    → Row Polynomial
    → Option NextRow
turn_within p w v chain m f g =
    and_then (undivided_within (operations p) w v chain f g) (λ s. divided_turn p w v m f g s)
