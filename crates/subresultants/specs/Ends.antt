-- What is kept of remainder rows: the last one with the leads, and the zero row.
use Rattle.std.specs.Prelude.{◌≢◌, ℕ, List, [], ◌∷◌, All}
use Rattle.mono_words.specs.declared.mono.TheConstants.{VARS}
use Rattle.polynomials.specs.Polynomials.{Polynomial, ArePolynomials}
use Rattle.division_rules.specs.Rows.{Row, plain}
use Rattle.division_rules.specs.Turns.{last_row}
use Rattle.subresultants.specs.AllRows.{RemainderRows, AllRemainders}
use Rattle.subresultants.specs.AllRows as all
use Rattle.subresultants.specs.declared.outcome.RowEnds.{RowEnds}
use Rattle.subresultants.specs.declared.outcome.Remainders.{Remainders}
use Rattle.subresultants.specs.declared.outcome.Remainders.TheVariants.{Coprime, Common, TooWide}

-- the last of rows, and 0 without cofactors where there is none
abbrev pub last_of : List (Row Polynomial) → Row Polynomial
last_of [] = plain []
last_of (f ∷ rows) = last_row f rows

-- the last row, and all leads
abbrev pub end_of : RemainderRows → RowEnds
end_of r = record { last = last_of r.rows; leads = r.leads }

-- the same ending
abbrev pub ends_of : AllRemainders → Remainders
ends_of (all.Coprime r) = Coprime (end_of r)
ends_of (all.Common r z) = Common (end_of r) z
ends_of all.TooWide = TooWide

-- P holds of the last row, and of the zero row where there is one
abbrev pub EachEnd : (Row Polynomial → Type 0) → Remainders → Type 0
EachEnd P (Coprime r) = P r.last
EachEnd P (Common r z) = P r.last × P z
EachEnd P TooWide = Unit {0}

-- P holds of the last row with the leads, where there are any
abbrev pub IfEnds : (RowEnds → Type 0) → Remainders → Type 0
IfEnds P (Coprime r) = P r
IfEnds P (Common r z) = P r
IfEnds P TooWide = Unit {0}

-- there are leads, each is canonical, and none is 0
pub record HasLeads (p : ℕ) (r : RowEnds) : Type 0 where
  pub some : r.leads ≢ []
  pub over : ArePolynomials p VARS r.leads
  pub nonzero : All (λ l. l ≢ []) r.leads
