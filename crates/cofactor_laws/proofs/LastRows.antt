-- The last of remainder rows that don't end with a zero row.
use Rattle.std.proofs.Common.{◌≡◌, ◌≢◌, ℕ, suc, ◌<◌, List, [], ◌∷◌, inl, inr, sym, ap, subst, arith}
use Rattle.std.proofs.lemmas.Bool.{cases_eq}
use Rattle.polynomials.specs.Polynomials.{Polynomial, ArePolynomials}
use Rattle.polynomials.specs.Views.{degree_in, IsFreeOf}
use Rattle.polynomials.proofs.MainVariables.{free_above_main_var}
use Rattle.zero_sets.specs.ZeroSets.{members_below}
use Rattle.division_rules.specs.Chains.{EachRow}
use Rattle.division_rules.specs.Lists.{list_operations}
use Rattle.division_rules.specs.PolynomialRows.{ArePolynomialRows}
use Rattle.division_rules.specs.RemainderRows.{LaterRows}
use Rattle.division_rules.specs.Rows.{Row, first_entries}
use Rattle.division_rules.specs.Turns.{last_row, DegreesFall}
use Rattle.division_rules.proofs.RowsShape.{last_of, last_degree}
use Rattle.row_laws.specs.Words.{IsReducedBy, StartRemainderRows}
use Rattle.row_laws.specs.Degrees.{IsRowFreeOf, HaveFallingDegrees}
use Rattle.row_laws.specs.Members.{IsMember, LacksMainFrom}
use Rattle.row_laws.proofs.FallingRows.{remainder_rows_fall, remainder_rows_are_free}
use Rattle.row_laws.proofs.Members.{members_are_placed, members_start_remainder_rows, reduced_by_whole}
use Rattle.row_laws.proofs.ReductionValues.{first_entries-unit_rows}
use Rattle.cofactor_laws.specs.RowsWithCofactors.{row_of_c, row_of_t, rows_of_chain, rows_with_cofactors}
use Rattle.cofactor_laws.specs.TriangularSets.{StartIn, LastRowsAreReduced}
use Rattle.cofactor_laws.proofs.ReducedCofactors.{start_rows, are_rows, rows_lack}
use Rattle.cofactor_laws.proofs.SetZeros.{ArePolynomials-parts}

-- what lacks v, and greater variables that f lacks, lacks the main variables from v on where f lacks
-- the greater ones
lacks_with : (v : ℕ) (f g : Polynomial) (chain : List Polynomial) → IsFreeOf v g → ((x : ℕ) → v < x → IsFreeOf x f → IsFreeOf x g) → LacksMainFrom (suc v) f chain → LacksMainFrom v g chain
lacks_with v f g [] free alike lacks = tt
lacks_with v f g (t ∷ chain) free alike lacks = (
  (λ x main from. elim (cases_eq x v) [
    | inl same ↦ subst (λ y. IsFreeOf y g) (sym same) free
    | inr other ↦ alike x (omega (arith, from, other)) (lacks.0 x main (omega (arith, from, other)))
  ]),
  lacks_with v f g chain free alike lacks.1,
)

module _ (p n w v : ℕ) (chain : List Polynomial) (t c : Polynomial) (starts : StartIn p n v chain t c) where
  abbrev below : List Polynomial
  below = members_below v chain

  abbrev first : Row Polynomial
  first = row_of_c n c below

  abbrev rows : LaterRows Polynomial
  rows = rows_with_cofactors p n w v t c below

  member : IsMember v chain t
  member = members_are_placed v chain t starts.triangular starts.member

  start : StartRemainderRows v below t c
  start = members_start_remainder_rows v chain t c starts.triangular starts.member starts.reduced starts.occurs

  generators : ArePolynomials p n (c ∷ t ∷ below)
  generators =
      let parts = ArePolynomials-parts p n below (t ∷ member.more) (subst (ArePolynomials p n) member.parts starts.canonical.1) in
      (starts.canonical.0, (parts.1.0, parts.0))

  are : ArePolynomialRows p n (row_of_t n t below ∷ first ∷ rows_of_chain p n below)
  are = are_rows p n starts.prime v t c below generators

  falling : HaveFallingDegrees p n v (first_entries (rows_of_chain p n below)) first rows
  falling = remainder_rows_fall p n w v (rows_of_chain p n below) (row_of_t n t below) first starts.prime are (start_rows p n v t c below start)

  -- it isn't 0
  pub last_nonzero : (last_row first rows.later).first ≢ []
  last_nonzero = last_of (λ h. h.first ≢ []) first rows.later (λ none. let some = starts.occurs in let is : degree_in v c ≡ 0 = ap (degree_in v) none in omega (arith, some, is)) falling.nonzero

  -- it is reduced by what stands below v
  pub last_reduced : IsReducedBy (last_row first rows.later).first below
  last_reduced = last_of (λ h. IsReducedBy h.first below) first rows.later start.reduced (subst (λ fs. EachRow (λ h. IsReducedBy h.first fs) rows.later) (first_entries-unit_rows p n 2 below) falling.reduced)

  -- a greater variable that c lacks doesn't occur in it
  pub last_lacks : (x : ℕ) → v < x → IsFreeOf x c → IsFreeOf x (last_row first rows.later).first
  last_lacks x less free_c =
      let lacking = rows_lack p n starts.prime v t c below x less start.below (free_above_main_var v x t member.main less) free_c in
      (last_of (IsRowFreeOf x) first rows.later lacking.1.0 (remainder_rows_are_free p n w v x (rows_of_chain p n below) (row_of_t n t below) first starts.prime are (start_rows p n v t c below start) (λ same. omega (arith, less, same)) lacking).0).0

-- the law
pub last_rows_are_reduced : LastRowsAreReduced
last_rows_are_reduced p n w v chain t c starts none = record {
  nonzero = last_nonzero p n w v chain t c starts;
  free = free;
  lacks = lacks;
  reduced = reduced_by_whole v chain (last_row g later).first (last_reduced p n w v chain t c starts) lacks;
}
  where
    g : Row Polynomial
    g = row_of_c n c (members_below v chain)

    later : List (Row Polynomial)
    later = (rows_with_cofactors p n w v t c (members_below v chain)).later

    free : IsFreeOf v (last_row g later).first
    free = last_degree (list_operations p n) v g later (subst (DegreesFall (list_operations p n) v g later) none (falling p n w v chain t c starts).falls)

    lacks : LacksMainFrom v (last_row g later).first chain
    lacks = lacks_with v c (last_row g later).first chain free (last_lacks p n w v chain t c starts) starts.lacks
