-- The laws of printed polynomials: they spell what was printed, and read as it.
use Rattle.std.specs.Prelude.{◌≡◌, ℕ, ◌^◌, ◌<◌, ◌≤◌, List, ◌++◌, Ok, IsTrue, codes}
use Rattle.std.specs.List.{AllByRecursion}
use Rattle.polynomials.specs.Polynomials.{Term, Polynomial, IsPolynomial}
use Rattle.polynomials.specs.Views.{degree_in}
use Rattle.polynomials.specs.Fits.{most_exponent}
use Rattle.system_text.specs.Laws.{IsNamedPolynomial}
use Rattle.system_text.specs.Limits.{most_digits}
use Rattle.system_text.specs.Readings.{Setting}
use Rattle.system_text.specs.Sums.{read_sum}
use Rattle.system_text.specs.Lines.{is_nonzero_line, read_nonzero}
use Rattle.system_text.specs.Systems.{SpellsSum, SpellsNonzero, AreNames}
use Rattle.report_text.specs.Polynomials.{poly_text}

-- no number in the text of f passes a limit of system texts
pub record IsWithinText (f : Polynomial) : Type 0 where
  pub coefficients : AllByRecursion (λ (t : Term). t.1 < 10 ^ most_digits) f
  pub exponents : (v : ℕ) → degree_in v f ≤ most_exponent

-- f is a canonical polynomial over names that a system may have, within the limits of its text
pub record IsPrintable (s : Setting) (f : Polynomial) : Type 0 where
  pub many : 1 < s.modulus
  pub lawful : AreNames s.variables s.names
  pub canonical : IsNamedPolynomial s.modulus s.variables s.names f
  pub within : IsWithinText f

-- the text of a polynomial spells it
abbrev pub PrintedPolynomialsAreSpelled : Type 0
PrintedPolynomialsAreSpelled =
    (s : Setting) (f : Polynomial) → IsPrintable s f → SpellsSum s (poly_text s.names f) f

-- and reads as the same polynomial
abbrev pub PrintedPolynomialsAreRead : Type 0
PrintedPolynomialsAreRead =
    (s : Setting) (f : Polynomial) → IsPrintable s f → read_sum s (poly_text s.names f) ≡ Ok f

-- a nonzero line without its line feed spells its polynomial
abbrev pub PrintedNonzeroLinesAreSpelled : Type 0
PrintedNonzeroLinesAreSpelled =
    (s : Setting) (f : Polynomial)
    → IsPrintable s f
    → SpellsNonzero s (codes "nonzero " ++ poly_text s.names f) f

-- and reads as the same polynomial
abbrev pub PrintedNonzeroLinesAreRead : Type 0
PrintedNonzeroLinesAreRead =
    (s : Setting) (f : Polynomial)
    → IsPrintable s f
    → IsTrue (is_nonzero_line (codes "nonzero " ++ poly_text s.names f))
    × (read_nonzero s (codes "nonzero " ++ poly_text s.names f) ≡ Ok f)

-- the text spells f, in n exponents: over each modulus of which f has residues, where the names are
-- those that a system may have
abbrev pub SpellsOver : ℕ → List (List ℕ) → Polynomial → List ℕ → Type 0
SpellsOver n names f text =
    (p : ℕ) → 1 < p → AreNames n names → IsPolynomial p n f
    → SpellsSum (record { modulus = p; variables = n; names = names }) text f

-- the text is a line that spells, after the word `nonzero`, f in the same sense
pub record SpellsNonzeroOver
    (n : ℕ) (names : List (List ℕ)) (f : Polynomial) (text : List ℕ) : Type 0 where
  pub line : List ℕ
  pub ended : text ≡ line ++ codes "\n"
  pub spells :
      (p : ℕ) → 1 < p → AreNames n names → IsPolynomial p n f
      → SpellsNonzero (record { modulus = p; variables = n; names = names }) line f
