-- The words of division, at lists of terms, are those of polynomials.
use Rattle.std.specs.Prelude.{◌≡◌, ℕ, List}
use Rattle.polynomials.specs.Polynomials.{Polynomial}
use Rattle.polynomials.specs.Views.{initial_of}
use Rattle.polynomials.specs.Sums.{combination}
use Rattle.polynomials.specs.Fits.{power_of, power_within}
use Rattle.division_rules.specs.Operations.{initial, power}
use Rattle.division_rules.specs.Rows.{combined}
use Rattle.division_rules.specs.Within.{power_of_within}
use Rattle.division_rules.specs.Lists.{list_operations}

-- combinations, powers with and without a width, and initials
pub record AreListWords (p n : ℕ) : Type 0 where
  pub combined :
      (cs gs : List Polynomial) → combined (list_operations p n) cs gs ≡ combination p cs gs
  pub power : (f : Polynomial) (e : ℕ) → power (list_operations p n) f e ≡ power_of p n f e
  pub power_within :
      (w : ℕ) (f : Polynomial) (e : ℕ)
      → power_of_within (list_operations p n) w f e ≡ power_within p n w f e
  pub initial : (f : Polynomial) → initial (list_operations p n) f ≡ initial_of f

-- for every modulus and number of variables
abbrev pub WordsAreListWords : Type 0
WordsAreListWords = (p n : ℕ) → AreListWords p n
