-- The cases of a polynomial that is imposed.
use Rattle.std.specs.Prelude.{ℕ, ◌≤◌, Bool, true, false, List, [], ◌∷◌, ◌++◌, map}
use Rattle.std.specs.List.{AllByRecursion}
use Rattle.polynomials.specs.Polynomials.{Polynomial}
use Rattle.zero_sets.specs.Tasks.{is_known_nonzero}
use Rattle.impose_rules.specs.Factors.{stripped}
use Rattle.impose_rules.specs.Leads.{lead_cases}
use Rattle.subresultants.specs.declared.outcome.RowEnds.{RowEnds}
use Rattle.intersect.specs.declared.cases.Case.{Case}
use Rattle.intersect.specs.declared.cases.Case.TheVariants.{Member, Lead, Initial}

-- the number of a lead is that of one of k leads, counted from 1
abbrev pub IsCaseOf : ℕ → Case → Type 0
IsCaseOf k (Member t) = Unit {0}
IsCaseOf k (Lead j) = (1 ≤ j) × (j ≤ k)
IsCaseOf k Initial = Unit {0}

-- each is a case of k leads
abbrev pub AreCasesOf : ℕ → List Case → Type 0
AreCasesOf k cases = AllByRecursion (IsCaseOf k) cases

-- the first lead, the initial, has a case unless it is known nonzero under ns
abbrev pub initial_cases : ℕ → List Polynomial → List Polynomial → List Case
initial_cases p ns [] = []
initial_cases p ns (l ∷ ls) = elim (is_known_nonzero p ns l) [ true ↦ [] | false ↦ Initial ∷ [] ]

-- the last row, without the leads, has a case where the rows are common
abbrev pub member_cases : ℕ → ℕ → RowEnds → Bool → List Case
member_cases p w rows false = []
member_cases p w rows true = Member (stripped p w rows.leads rows.last.first) ∷ []

-- the cases by remainder rows, which are common or not
abbrev pub cases_of_rows : ℕ → ℕ → List Polynomial → RowEnds → Bool → List Case
cases_of_rows p w ns rows common =
    member_cases p w rows common
    ++ map Lead (lead_cases p ns rows.leads)
    ++ initial_cases p ns rows.leads

-- the cases of r by its initial alone, the one lead
abbrev pub cases_of_head : ℕ → ℕ → List Polynomial → Polynomial → List Polynomial → List Case
cases_of_head p w ns r ls = Member (stripped p w ls r) ∷ initial_cases p ns ls
