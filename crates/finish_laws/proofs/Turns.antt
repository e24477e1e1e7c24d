-- What holds at each turn of an initial holds of what becomes of it.
use Rattle.std.proofs.Common.{◌≡◌, ◌≢◌, ℕ, zero, suc, ◌≤◌, true, false, eqb, List, [], ◌∷◌, Option, Some, None, refl, arith}
use Rattle.std.proofs.lemmas.Bool.{eqb-true, eqb-false}
use Rattle.polynomials.specs.Polynomials.{Polynomial, is_zero}
use Rattle.polynomials.specs.Views.{degree_in, IsFreeOf}
use Rattle.zero_sets.specs.ZeroSets.{member_in, members_below}
use Rattle.division_rules.specs.Cofactors.{first_cofactor}
use Rattle.division_rules.specs.Lists.{list_operations}
use Rattle.division_rules.specs.RemainderRows.{LaterRows, leads}
use Rattle.division_rules.specs.Rows.{Row}
use Rattle.division_rules.specs.Turns.{last_row}
use Rattle.division_rules.proofs.ListLaws.{zero_by_test, not_zero_by_test}
use Rattle.division_rules.proofs.Steps.{choose}
use Rattle.split_paths.specs.declared.splitter.Step.TheVariants.{Gone, Emit, TooWide}
use Rattle.cofactor_laws.specs.RowsWithCofactors.{row_of_c}
use Rattle.tree_laws.specs.Steps.{fitting_then, gives_way_to}
use Rattle.tree_laws.proofs.Steps.{fitting_holds}
use Rattle.finish_rules.specs.Remainders.{remainder_of}
use Rattle.finish_rules.specs.Identities.{initial_row, composed_within}
use Rattle.finish_rules.specs.Turns.{IdentitySoFar, Turned, rows_at, vanishing, turn_by_rows, turn_at, turns_below}
use Rattle.finish_rules.specs.Initials.{turned_from, turned}

-- the rows that are made at u of the polynomial so far, where it has u and t is the one for u
pub record MakesRows (p n w u : ℕ) (chain ns : List Polynomial) (f : Row Polynomial) (t : Polynomial) (rows : LaterRows Polynomial) : Type 0 where
  pub found : member_in u chain ≡ Some t
  pub occurs : 1 ≤ degree_in u f.first
  pub fits : rows_at p n w chain ns u t f.first ≡ Some rows

-- I holds of the progress before the turn at each variable, Q of what becomes of it
pub record TurnsKeep (p n w : ℕ) (chain ns : List Polynomial) (I : ℕ → IdentitySoFar → Type 0) (Q : Turned → Type 0) : Type 0 where
  pub wide : Q TooWide
  pub done : (s : IdentitySoFar) → I 0 s → Q (Emit s.row)
  -- u is no main variable
  pub absent : (u : ℕ) (s : IdentitySoFar) → I (suc u) s → member_in u chain ≡ None → I u s
  -- or doesn't occur
  pub skipped : (u : ℕ) (s : IdentitySoFar) → I (suc u) s → IsFreeOf u s.row.first → I u s
  -- the rows end without a zero row
  pub coprime : (u : ℕ) (s : IdentitySoFar) (t : Polynomial) (rows : LaterRows Polynomial) (f : Row Polynomial) → I (suc u) s → MakesRows p n w u chain ns s.row t rows → rows.last ≡ None → composed_within p n w s.row (last_row (row_of_c n s.row.first (members_below u chain)) rows.later) ≡ Some f → I u (record { row = f; composed = true })
  -- or with one
  pub common : (u : ℕ) (s : IdentitySoFar) (t : Polynomial) (rows : LaterRows Polynomial) (z : Row Polynomial) (b : Polynomial) → I (suc u) s → MakesRows p n w u chain ns s.row t rows → rows.last ≡ Some z → remainder_of p n w chain (first_cofactor (list_operations p n) z) ≡ Some b → Q (gives_way_to (vanishing p n w chain ns s (leads (list_operations p n) u (row_of_c n s.row.first (members_below u chain) ∷ rows.later)) b))

module _ (p n w : ℕ) (chain ns : List Polynomial) (I : ℕ → IdentitySoFar → Type 0) (Q : Turned → Type 0) (keep : TurnsKeep p n w chain ns I Q) where
  -- the turn by its rows
  by_rows : (u : ℕ) (further : IdentitySoFar → Turned) → ((s : IdentitySoFar) → I u s → Q (further s)) → (s : IdentitySoFar) (t : Polynomial) (rows : LaterRows Polynomial) → I (suc u) s → MakesRows p n w u chain ns s.row t rows → (last : Option (Row Polynomial)) → rows.last ≡ last → Q (turn_by_rows p n w chain ns u further s rows.later last)
  by_rows u further each s t rows holds made None e = fitting_holds Q (composed_within p n w s.row (last_row (row_of_c n s.row.first (members_below u chain)) rows.later)) (λ f. further (record { row = f; composed = true })) keep.wide (λ f composed. each (record { row = f; composed = true }) (keep.coprime u s t rows f holds made e composed))
  by_rows u further each s t rows holds made (Some z) e = fitting_holds Q (remainder_of p n w chain (first_cofactor (list_operations p n) z)) (λ b. gives_way_to (vanishing p n w chain ns s (leads (list_operations p n) u (row_of_c n s.row.first (members_below u chain) ∷ rows.later)) b)) keep.wide (λ b reduced. keep.common u s t rows z b holds made e reduced)

  at_member : (u : ℕ) (further : IdentitySoFar → Turned) → ((s : IdentitySoFar) → I u s → Q (further s)) → (s : IdentitySoFar) → I (suc u) s → (o : Option Polynomial) → member_in u chain ≡ o → Q (turn_at p n w chain ns u further s o)
  at_member u further each s holds None e = each s (keep.absent u s holds e)
  at_member u further each s holds (Some t) e = choose Q (eqb (degree_in u s.row.first) 0) (further s) (fitting_then (rows_at p n w chain ns u t s.row.first) (λ rows. turn_by_rows p n w chain ns u further s rows.later rows.last)) (λ none. each s (keep.skipped u s holds (eqb-true (degree_in u s.row.first) 0 none))) (λ some. fitting_holds Q (rows_at p n w chain ns u t s.row.first) (λ rows. turn_by_rows p n w chain ns u further s rows.later rows.last) keep.wide (λ rows made. by_rows u further each s t rows holds (record { found = e; occurs = (let other = eqb-false (degree_in u s.row.first) 0 some in omega arith); fits = made }) rows.last refl))

  -- from any variable down
  pub turns_keep : (u : ℕ) (s : IdentitySoFar) → I u s → Q (turns_below p n w chain ns u s)
  turns_keep zero s holds = keep.done s holds
  turns_keep (suc u) s holds = at_member u (λ f. turns_below p n w chain ns u f) (turns_keep u) s holds (member_in u chain) refl

  -- from the initial on: it is gone where it is reduced to 0, and else it starts the turns
  pub turned_keeps : (v : ℕ) (h : Polynomial) → ((f : Row Polynomial) → initial_row p n w h (members_below v chain) ≡ Some f → f.first ≡ [] → Q Gone) → ((f : Row Polynomial) → initial_row p n w h (members_below v chain) ≡ Some f → f.first ≢ [] → I v (record { row = f; composed = false })) → Q (turned p n w chain ns v h)
  turned_keeps v h gone starts = fitting_holds Q (initial_row p n w h (members_below v chain)) (λ f. turned_from p n w chain ns v f) keep.wide (λ f made. choose Q (is_zero f.first) Gone (turns_below p n w chain ns v (record { row = f; composed = false })) (λ null. gone f made (zero_by_test f.first null)) (λ some. turns_keep v (record { row = f; composed = false }) (starts f made (not_zero_by_test f.first some))))
