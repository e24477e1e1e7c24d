-- Lists of lawful polynomials by their parts.
use Rattle.std.proofs.Common.{◌≡◌, ℕ, ◌≤◌, List, [], ◌∷◌}
use Rattle.std.specs.List.{AllByRecursion}
use Rattle.polynomials.specs.Polynomials.{Polynomial, IsPolynomial, ArePolynomials}
use Rattle.polynomials.specs.Views.{degree_in, AreFreeOf}
use Rattle.impose_rules.proofs.ChainParts.{canonical_each}
use Rattle.impose_rules.proofs.Lists.{each_implied}
use Rattle.finish_laws.specs.Lawful.{IsLawfulPolynomial, AreLawfulPolynomials}

-- no degree of f is greater than 65,535
abbrev pub IsSmall : Polynomial → Type 0
IsSmall f = (v : ℕ) → degree_in v f ≤ 65535

-- nor one of any of fs
abbrev pub AreSmall : List Polynomial → Type 0
AreSmall fs = AllByRecursion IsSmall fs

module _ (p n k : ℕ) where
  -- lawful polynomials are canonical
  pub canonical_lawful : (fs : List Polynomial) → AreLawfulPolynomials p n k fs → ArePolynomials p n fs
  canonical_lawful fs lawful = canonical_each p n fs (each_implied (IsLawfulPolynomial p n k) (IsPolynomial p n) (λ f of_f. of_f.canonical) fs lawful)

  -- without the variables from k on
  pub free_lawful : (v : ℕ) → k ≤ v → (fs : List Polynomial) → AreLawfulPolynomials p n k fs → AreFreeOf v fs
  free_lawful v past fs lawful = each_implied (IsLawfulPolynomial p n k) (λ f. degree_in v f ≡ 0) (λ f of_f. of_f.named v past) fs lawful

  -- with degrees that are small
  pub small_lawful : (fs : List Polynomial) → AreLawfulPolynomials p n k fs → AreSmall fs
  small_lawful fs lawful = each_implied (IsLawfulPolynomial p n k) IsSmall (λ f of_f. of_f.small) fs lawful

  -- and what is all that is lawful
  pub lawful_parts : (fs : List Polynomial) → ArePolynomials p n fs → ((v : ℕ) → k ≤ v → AreFreeOf v fs) → AreSmall fs → AreLawfulPolynomials p n k fs
  lawful_parts [] canonical free small = tt
  lawful_parts (f ∷ fs) canonical free small = (record { canonical = canonical.0; named = λ v past. (free v past).0; small = small.0 }, lawful_parts fs canonical.1 (λ v past. (free v past).1) small.1)
