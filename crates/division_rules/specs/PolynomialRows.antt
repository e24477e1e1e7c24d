-- Rows whose entries are canonical polynomials.
use Rattle.std.specs.Prelude.{ℕ, List, Option, IfSome}
use Rattle.polynomials.specs.Polynomials.{Polynomial, IsPolynomial, ArePolynomials}
use Rattle.division_rules.specs.Rows.{Row}
use Rattle.division_rules.specs.RemainderRows.{LaterRows}
use Rattle.division_rules.specs.Chains.{EachRow, IfRow}

-- the first entry and the cofactors are canonical polynomials in n variables modulo p
abbrev pub IsPolynomialRow : ℕ → ℕ → Row Polynomial → Type 0
IsPolynomialRow p n f = IsPolynomial p n f.first × ArePolynomials p n f.cofactors

-- each row is one of canonical polynomials
abbrev pub ArePolynomialRows : ℕ → ℕ → List (Row Polynomial) → Type 0
ArePolynomialRows p n rows = EachRow (IsPolynomialRow p n) rows

-- so are the later rows, and the last, where there is one
abbrev pub AreRemainderRows : ℕ → ℕ → LaterRows Polynomial → Type 0
AreRemainderRows p n rows = ArePolynomialRows p n rows.later × IfRow (IsPolynomialRow p n) rows.last

-- the psi that is remembered of a turn is canonical
abbrev pub IsPolynomialTurnBefore : ℕ → ℕ → Option (Polynomial × ℕ) → Type 0
IsPolynomialTurnBefore p n m = IfSome m (λ x. IsPolynomial p n x.0)
