-- The polynomials of a system are lawful.
use Rattle.std.proofs.Common.{ℕ, ◌≤◌, List, length, Contains, slice_index_or}
use Rattle.std.proofs.lemmas.List.Elements.{All-contains_itself, recursion_from_All}
use Rattle.polynomials.specs.Monomials.{most_exponent}
use Rattle.polynomials.specs.Polynomials.{Polynomial}
use Rattle.polynomials.specs.Views.{degree_in}
use Rattle.system_text.specs.Laws.{IsNamedPolynomial, AreNamedPolynomials}
use Rattle.case_laws.specs.Lawful.{IsLawfulPolynomial, AreLawfulPolynomials}

module _ (p n : ℕ) (names : List (List ℕ)) where
  -- a named polynomial with small exponents is lawful
  lawful_named : (f : Polynomial) → IsNamedPolynomial p n names f → ((v : ℕ) → degree_in v f ≤ most_exponent) → IsLawfulPolynomial p n (length names) f
  lawful_named f named small = record { canonical = named.0; named = named.1; small = small }

  -- and so are several
  pub all_lawful : (fs : List Polynomial) → AreNamedPolynomials p n names fs → ((f : Polynomial) → Contains fs f → (v : ℕ) → degree_in v f ≤ most_exponent) → AreLawfulPolynomials p n (length names) fs
  all_lawful fs named small = recursion_from_All (IsLawfulPolynomial p n (length names)) fs (λ k d below. lawful_named (slice_index_or fs k d) (named (slice_index_or fs k d) (All-contains_itself fs k d below)) (small (slice_index_or fs k d) (All-contains_itself fs k d below)))
