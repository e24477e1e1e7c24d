-- How remainder rows end at a point where the first two and the chain are zero, and no lead is.
use Rattle.std.proofs.Common.{◌≡◌, ◌≢◌, ℕ, zero, suc, List, [], ◌∷◌, take, slice_get, Option, Some, None, refl, ap, ◌∙◌}
use Rattle.polynomials.specs.Polynomials.{Polynomial}
use Rattle.polynomials.specs.Views.{degree_in, lead_in}
use Rattle.polynomials.proofs.Degrees.{lead_in_itself}
use Rattle.zero_sets.specs.Domains.{Tables, value_at}
use Rattle.zero_sets.specs.ZeroSets.{AreNonZero}
use Rattle.division_rules.specs.Lists.{list_operations}
use Rattle.division_rules.specs.Rows.{Row}
use Rattle.division_rules.specs.RemainderRows.{LaterRows, remainder_rows, leads}
use Rattle.division_rules.specs.Turns.{DegreesFall, last_row}
use Rattle.row_laws.specs.Vanishing.{AreZeroByLeads, EndInCommonZero, RemainderRowsEndInCommonZero}
use Rattle.row_laws.proofs.FallingRows.{remainder_rows_fall}
use Rattle.row_laws.proofs.VanishingRows.{remainder_rows_vanish}

-- what holds of c and of the row at each place holds of the last row
last_by_places : (Q : Row Polynomial → Type 0) (c : Row Polynomial) (later : List (Row Polynomial)) → Q c → ((i : ℕ) (h : Row Polynomial) → slice_get later i ≡ Some h → Q h) → Q (last_row c later)
last_by_places Q c [] own each = own
last_by_places Q c (h ∷ later) own each = last_by_places Q h later (each 0 h refl) (λ i g there. each (suc i) g there)

module _ (p n v : ℕ) (r : Tables) (xs : List ℕ) where
  -- the first of what isn't zero isn't
  take_nonzero : (i : ℕ) (fs : List Polynomial) → AreNonZero r xs fs → AreNonZero r xs (take i fs)
  take_nonzero zero fs h = tt
  take_nonzero (suc i) [] h = tt
  take_nonzero (suc i) (f ∷ fs) h = (h.0, take_nonzero i fs h.1)

  -- the lead of the last row isn't zero where none is
  last_lead : (c : Row Polynomial) (later : List (Row Polynomial)) → AreNonZero r xs (leads (list_operations p n) v (c ∷ later)) → value_at r xs (lead_in v (last_row c later).first) ≢ r.nil
  last_lead c [] h = h.0
  last_lead c (f ∷ later) h = last_lead f later h.1

  -- where no zero row follows, the last row doesn't have v
  last_degree : (c : Row Polynomial) (later : List (Row Polynomial)) → DegreesFall (list_operations p n) v c later None → degree_in v (last_row c later).first ≡ 0
  last_degree c [] falls = falls
  last_degree c (f ∷ later) falls = last_degree f later falls.2

  -- rows that vanish unless leads do, where none does
  ends_in_common_zero : (c : Row Polynomial) (rows : LaterRows Polynomial) → value_at r xs c.first ≡ r.nil → DegreesFall (list_operations p n) v c rows.later rows.last → AreZeroByLeads p n v r xs c rows.later → AreNonZero r xs (leads (list_operations p n) v (c ∷ rows.later)) → EndInCommonZero r xs c rows
  ends_in_common_zero c rows zero_c falls vanish others = go rows.last refl falls
    where
      null : value_at r xs (last_row c rows.later).first ≡ r.nil
      null = last_by_places (λ h. value_at r xs h.first ≡ r.nil) c rows.later zero_c (λ i h there. vanish i h there (take_nonzero i (leads (list_operations p n) v (c ∷ rows.later)) others))

      go : (last : Option (Row Polynomial)) → rows.last ≡ last → DegreesFall (list_operations p n) v c rows.later last → EndInCommonZero r xs c rows
      go (Some z) is fall = record { zero_row = z; last = is; zero = null }
      go None is fall = absurd (last_lead c rows.later others (ap (value_at r xs) (lead_in_itself v (last_row c rows.later).first (last_degree c rows.later fall)) ∙ null))

-- the law
pub remainder_rows_end_in_common_zero : RemainderRowsEndInCommonZero
remainder_rows_end_in_common_zero p n w v r xs chain t c prime at are start zeros others = ends_in_common_zero p n v r xs c (remainder_rows (list_operations p n) w v chain t c) zeros.1.0 (remainder_rows_fall p n w v chain t c prime are start).falls (remainder_rows_vanish p n w v r xs chain t c prime at are start zeros) others
