-- From the reduced initial to what has no main variable of the chain, one variable at a time.
use Rattle.std.specs.Prelude.{ℕ, zero, suc, Bool, true, false, not, eqb, List, [], ◌∷◌, map, filter, Option, Some, None}
use Rattle.polynomials.specs.Polynomials.{Polynomial, monic, is_zero}
use Rattle.polynomials.specs.Views.{degree_in}
use Rattle.zero_sets.specs.ZeroSets.{member_in, members_below}
use Rattle.zero_sets.specs.Tasks.{is_known_nonzero}
use Rattle.division_rules.specs.Cofactors.{first_cofactor}
use Rattle.division_rules.specs.Lists.{list_operations}
use Rattle.division_rules.specs.RemainderRows.{LaterRows, leads}
use Rattle.division_rules.specs.RemainderRowsWithin.{remainder_rows_within}
use Rattle.division_rules.specs.Rows.{Row}
use Rattle.division_rules.specs.Turns.{last_row}
use Rattle.split_paths.specs.declared.splitter.Step.{Step}
use Rattle.split_paths.specs.declared.splitter.Step.TheVariants.{Emit}
use Rattle.cofactor_laws.specs.RowsWithCofactors.{row_of_c, row_of_t, rows_of_chain}
use Rattle.tree_laws.specs.Steps.{fitting_then, gives_way_to}
use Rattle.finish_rules.specs.Remainders.{remainder_of}
use Rattle.finish_rules.specs.Identities.{composed_within}

-- an identity of the initial, and whether it was composed since the initial was reduced
pub record IdentitySoFar : Type 0 where
  pub row : Row Polynomial
  pub composed : Bool

-- those of fs that aren't known nonzero under ns, made monic
abbrev pub unknown_monic : ℕ → List Polynomial → List Polynomial → List Polynomial
unknown_monic p ns fs = map (monic p) (filter (λ f. not (is_known_nonzero p ns f)) fs)

-- what becomes of an identity: it goes on, or gives way to polynomials of which one vanishes
abbrev pub Turned : Type 0
Turned = Step Polynomial (Row Polynomial)

-- in n variables modulo p, with products within the width w, by a triangular set, where the
-- polynomials ns don't vanish
module _ (p n w : ℕ) (chain ns : List Polynomial) where
  -- the remainder rows in u of t and c below t, with cofactors
  abbrev pub rows_at : ℕ → Polynomial → Polynomial → Option (LaterRows Polynomial)
  rows_at u t c =
      let below = members_below u chain in
      remainder_rows_within (list_operations p n) w u (rows_of_chain p n below)
      (row_of_t n t below) (row_of_c n c below)

  -- the polynomial so far, where it was composed: where it wasn't, it vanishes only where the
  -- initial does
  abbrev pub composed_first : IdentitySoFar → List Polynomial
  composed_first s = elim s.composed [ true ↦ s.row.first ∷ [] | false ↦ [] ]

  -- of these one vanishes, where the zero row's cofactor of the polynomial so far has the remainder
  -- b, and the rows have the leads ls
  abbrev pub vanishing : IdentitySoFar → List Polynomial → Polynomial → List Polynomial
  vanishing s ls b =
      elim (is_zero b) [ true ↦ unknown_monic p ns ls | false ↦ b ∷ composed_first s ]

  -- the turn where the rows end without a zero row: the last is composed with the identity so far
  abbrev pub coprime_turn : (IdentitySoFar → Turned) → IdentitySoFar → Row Polynomial → Turned
  coprime_turn further s last =
      fitting_then (composed_within p n w s.row last)
      (λ f. further (record { row = f; composed = true }))

  -- the turn where they end with the zero row z: something vanishes
  abbrev pub common_turn : IdentitySoFar → List Polynomial → Row Polynomial → Turned
  common_turn s ls z =
      fitting_then (remainder_of p n w chain (first_cofactor (list_operations p n) z))
      (λ b. gives_way_to (vanishing s ls b))

  -- the turn at u by the rows after the polynomial so far
  abbrev pub turn_by_rows :
      ℕ → (IdentitySoFar → Turned) → IdentitySoFar → List (Row Polynomial) → Option (Row Polynomial)
      → Turned
  turn_by_rows u further s later None =
      coprime_turn further s (last_row (row_of_c n s.row.first (members_below u chain)) later)
  turn_by_rows u further s later (Some z) =
      let c = row_of_c n s.row.first (members_below u chain) in
      common_turn s (leads (list_operations p n) u (c ∷ later)) z

  -- the turn at u, where t is the polynomial with that main variable; there is none where u doesn't
  -- occur in the polynomial so far
  abbrev pub turn_at : ℕ → (IdentitySoFar → Turned) → IdentitySoFar → Option Polynomial → Turned
  turn_at u further s None = further s
  turn_at u further s (Some t) = elim (eqb (degree_in u s.row.first) 0) [
    | true ↦ further s
    | false ↦ fitting_then (rows_at u t s.row.first)
        (λ rows. turn_by_rows u further s rows.later rows.last)
  ]

  -- the turns at the variables below u, the greatest first
  abbrev pub turns_below : ℕ → IdentitySoFar → Turned
  turns_below zero s = Emit s.row
  turns_below (suc u) s = turn_at u (λ f. turns_below u f) s (member_in u chain)
