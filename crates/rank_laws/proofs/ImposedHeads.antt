-- The rows after an imposed polynomial: their leads are new heads.
use Rattle.std.proofs.Common.{◌≡◌, ◌≢◌, ℕ, suc, ◌<◌, ◌≤◌, List, [], ◌∷◌, Option, Some, sym, subst, arith}
use Rattle.std.specs.List.{AllByRecursion}
use Rattle.polynomials.specs.Primes.{IsPrime}
use Rattle.polynomials.specs.Polynomials.{Polynomial, IsPolynomial, ArePolynomials}
use Rattle.polynomials.specs.Views.{degree_in, main_var, IsFreeOf}
use Rattle.polynomials.proofs.MainVariables.{free_above_main_var}
use Rattle.zero_sets.specs.ZeroSets.{IsTriangular, member_in, members_below}
use Rattle.division_rules.specs.Chains.{EachRow}
use Rattle.division_rules.specs.Lists.{list_operations}
use Rattle.division_rules.specs.PolynomialRows.{IsPolynomialRow}
use Rattle.division_rules.specs.Rows.{Row, plain, plains}
use Rattle.division_rules.specs.Turns.{last_row, DegreesFall}
use Rattle.division_rules.proofs.Up.{plains_canonical}
use Rattle.division_rules.specs.Rows.{first_entries}
use Rattle.row_laws.specs.Words.{IsReducedBy, StartRemainderRows}
use Rattle.row_laws.specs.Degrees.{HaveFallingDegrees}
use Rattle.row_laws.proofs.FallingRows.{remainder_rows_fall}
use Rattle.row_laws.proofs.Members.{members_start_remainder_rows, members_reduce}
use Rattle.row_laws.proofs.ReductionValues.{first_entries-plains}
use Rattle.impose_laws.proofs.CommonRows.{chain_without, occurring_nonzero}
use Rattle.impose_laws.proofs.RowShapes.{rows, rows_canonical, rows_nonzero, rows_without}
use Rattle.impose_laws.proofs.RowStarts.{IsStart}
use Rattle.impose_rules.proofs.ChainParts.{member_of_chain, each_canonical}
use Rattle.finish_laws.proofs.Mains.{lacks_all}
use Rattle.rank_laws.proofs.Phases.{IsNewHead}
use Rattle.impose_rules.proofs.Lists.{each_both}
use Rattle.division_rules.specs.RemainderRows.{leads}
use Rattle.rank_laws.proofs.Leads.{IsReducedRow, lead_free_from, leads_new}

-- reduced polynomial by polynomial
pub reduced_each : (f : Polynomial) (chain : List Polynomial) → AllByRecursion (λ u. (v : ℕ) → main_var u ≡ Some v → degree_in v f < degree_in v u) chain → IsReducedBy f chain
reduced_each f [] each = tt
reduced_each f (t ∷ chain) each = (each.0, reduced_each f chain each.1)

-- the last of falling rows has no greater degree than the first
pub last_low : (p n v : ℕ) (g : Row Polynomial) (later : List (Row Polynomial)) (o : Option (Row Polynomial)) → DegreesFall (list_operations p n) v g later o → degree_in v (last_row g later).first ≤ degree_in v g.first
last_low p n v g [] o falls = omega arith
last_low p n v g (h ∷ later) o falls =
    let rest = last_low p n v h later o falls.2 in
    let less : degree_in v h.first < degree_in v g.first = falls.0 in
    omega (arith, rest, less)

module _ (p n w v : ℕ) (prime : IsPrime p) (chain : List Polynomial) (are : ArePolynomials p n chain) (triangular : IsTriangular chain) (t g : Polynomial) (reduced : IsReducedBy g chain) (main : main_var g ≡ Some v) (found : member_in v chain ≡ Some t) (start : IsStart p n v (members_below v chain) t g) where
  abbrev below : List Polynomial
  below = members_below v chain

  main_t : main_var t ≡ Some v
  main_t = (member_of_chain (IsPolynomial p n) v chain t found (each_canonical p n chain are)).1

  starts : StartRemainderRows v (first_entries (plains below)) t g
  starts = subst (λ fs. StartRemainderRows v fs t g) (sym (first_entries-plains below)) (members_start_remainder_rows v chain t g triangular found reduced start.occurs)

  falling : HaveFallingDegrees p n v (first_entries (plains below)) (plain g) (rows p n prime w v below t g start)
  falling = remainder_rows_fall p n w v (plains below) (plain t) (plain g) prime ((start.canonical_t, tt), ((start.canonical_c, tt), plains_canonical p n below start.canonical_chain)) starts

  -- no variable after v
  rows_after : (x : ℕ) → suc v ≤ x → EachRow (λ h. IsFreeOf x h.first) (rows p n prime w v below t g start).later
  rows_after x from = rows_without p n prime w v below t g start x (chain_without p n prime w v below t g start x from) (free_above_main_var v x t main_t from) (free_above_main_var v x g main from)

  -- what holds for each variable of each row holds of each row for each variable
  each_after : (later : List (Row Polynomial)) → ((x : ℕ) → suc v ≤ x → EachRow (λ h. IsFreeOf x h.first) later) → EachRow (λ h. (x : ℕ) → suc v ≤ x → IsFreeOf x h.first) later
  each_after [] free = tt
  each_after (h ∷ later) free = ((λ x from. (free x from).0), each_after later (λ x from. (free x from).1))

  rows_join : (later : List (Row Polynomial)) → EachRow (IsPolynomialRow p n) later → EachRow (λ h. h.first ≢ []) later → EachRow (λ h. IsReducedBy h.first (first_entries (plains below))) later → EachRow (λ h. (x : ℕ) → suc v ≤ x → IsFreeOf x h.first) later → EachRow (IsReducedRow p n v chain) later
  rows_join [] canonical nonzero less free = tt
  rows_join (h ∷ later) canonical nonzero less free = (record { canonical = canonical.0.0; nonzero = nonzero.0; below = subst (IsReducedBy h.first) (first_entries-plains below) less.0; lacks = lacks_all (suc v) h.first chain free.0 }, rows_join later canonical.1 nonzero.1 less.1 free.1)

  -- g and the rows after it
  pub rows_new : EachRow (IsReducedRow p n v chain) (plain g ∷ (rows p n prime w v below t g start).later)
  rows_new = (record { canonical = start.canonical_c; nonzero = occurring_nonzero v g start.occurs; below = members_reduce v g chain reduced; lacks = lacks_all (suc v) g chain (λ x from. free_above_main_var v x g main from) }, rows_join (rows p n prime w v below t g start).later (rows_canonical p n prime w v below t g start).0 (rows_nonzero p n prime w v below t g start) falling.reduced (each_after (rows p n prime w v below t g start).later rows_after))

  leads_after : (later : List (Row Polynomial)) → EachRow (λ h. (x : ℕ) → suc v ≤ x → IsFreeOf x h.first) later → AllByRecursion (λ l. (x : ℕ) → v ≤ x → IsFreeOf x l) (leads (list_operations p n) v later)
  leads_after [] free = tt
  leads_after (h ∷ later) free = (lead_free_from v h.first free.0, leads_after later free.1)

  -- their leads
  pub leads_imposed : AllByRecursion (λ l. IsNewHead p n chain l × ((x : ℕ) → v ≤ x → IsFreeOf x l)) (leads (list_operations p n) v (plain g ∷ (rows p n prime w v below t g start).later))
  leads_imposed = each_both (IsNewHead p n chain) (λ l. (x : ℕ) → v ≤ x → IsFreeOf x l) (leads (list_operations p n) v (plain g ∷ (rows p n prime w v below t g start).later)) (leads_new p n v chain (plain g ∷ (rows p n prime w v below t g start).later) rows_new) (leads_after (plain g ∷ (rows p n prime w v below t g start).later) ((λ x from. free_above_main_var v x g main from), each_after (rows p n prime w v below t g start).later rows_after))
