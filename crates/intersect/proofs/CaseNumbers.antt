-- The numbers of leads in cases are those of leads.
use Rattle.std.proofs.Common.{◌≡◌, ℕ, suc, ◌+◌, ◌≤◌, Bool, true, false, List, [], ◌∷◌, ◌++◌, length, map, refl, arith}
use Rattle.std.specs.List.{AllByRecursion}
use Rattle.polynomials.specs.Polynomials.{Polynomial}
use Rattle.zero_sets.specs.Tasks.{is_known_nonzero, with_nonzero}
use Rattle.impose_rules.specs.Leads.{unknown_from, lead_cases}
use Rattle.impose_rules.proofs.Lists.{each_appended}
use Rattle.subresultants.specs.declared.outcome.RowEnds.{RowEnds}
use Rattle.intersect.specs.declared.cases.Case.{Case}
use Rattle.intersect.specs.declared.cases.Case.TheVariants.{Lead, Initial}
use Rattle.intersect.specs.Cases.{IsCaseOf, AreCasesOf, initial_cases, member_cases, cases_of_rows}

module _ (p k : ℕ) where
  abbrev AreNumbers : List ℕ → Type 0
  AreNumbers js = AllByRecursion (λ j. (1 ≤ j) × (j ≤ k)) js

  numbers_from : (ns : List Polynomial) (j : ℕ) (hs : List Polynomial) → 1 ≤ j → j + length hs ≤ k + 1 → AreNumbers (unknown_from p ns j hs)
  numbers_from ns j [] one up = tt
  numbers_from ns j (h ∷ hs) one up = go (is_known_nonzero p ns h) (numbers_from (with_nonzero p ns h) (suc j) hs (omega arith) (omega arith))
    where
      go : (b : Bool) → AreNumbers (unknown_from p (with_nonzero p ns h) (suc j) hs) → AreNumbers (elim b as (λ _. List ℕ) [ true ↦ unknown_from p (with_nonzero p ns h) (suc j) hs | false ↦ j ∷ unknown_from p (with_nonzero p ns h) (suc j) hs ])
      go true later = later
      go false later = ((one, omega arith), later)

  lead_numbers : (ns ls : List Polynomial) → length ls ≡ k → AreNumbers (lead_cases p ns ls)
  lead_numbers ns [] count = tt
  lead_numbers ns (l ∷ ls) count = numbers_from (with_nonzero p ns l) 2 ls (omega arith) (omega arith)

  cases_of_numbers : (js : List ℕ) → AreNumbers js → AreCasesOf k (map Lead js)
  cases_of_numbers [] h = tt
  cases_of_numbers (j ∷ js) h = (h.0, cases_of_numbers js h.1)

  initial_is_case : (ns ls : List Polynomial) → AreCasesOf k (initial_cases p ns ls)
  initial_is_case ns [] = tt
  initial_is_case ns (l ∷ ls) = go (is_known_nonzero p ns l)
    where
      go : (b : Bool) → AreCasesOf k (elim b as (λ _. List Case) [ true ↦ [] | false ↦ Initial ∷ [] ])
      go true = tt
      go false = (tt, tt)

  member_is_case : (w : ℕ) (rows : RowEnds) (common : Bool) → AreCasesOf k (member_cases p w rows common)
  member_is_case w rows true = (tt, tt)
  member_is_case w rows false = tt

-- in the cases by rows
pub rows_have_cases : (p w : ℕ) (ns : List Polynomial) (rows : RowEnds) (common : Bool) → AreCasesOf (length rows.leads) (cases_of_rows p w ns rows common)
rows_have_cases p w ns rows common = each_appended (IsCaseOf (length rows.leads)) (member_cases p w rows common ++ map Lead (lead_cases p ns rows.leads)) (initial_cases p ns rows.leads) (each_appended (IsCaseOf (length rows.leads)) (member_cases p w rows common) (map Lead (lead_cases p ns rows.leads)) (member_is_case p (length rows.leads) w rows common) (cases_of_numbers p (length rows.leads) (lead_cases p ns rows.leads) (lead_numbers p (length rows.leads) ns rows.leads refl))) (initial_is_case p (length rows.leads) ns rows.leads)

-- the last case, and those before it
pub cases_split : (k : ℕ) (before : List Case) (last : Case) → AreCasesOf k (before ++ last ∷ []) → AreCasesOf k before × IsCaseOf k last
cases_split k [] last each = (tt, each.0)
cases_split k (case ∷ before) last each =
    let rest = cases_split k before last each.1 in
    ((each.0, rest.0), rest.1)
