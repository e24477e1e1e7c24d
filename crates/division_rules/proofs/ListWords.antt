-- The operations on lists of terms, in the words of polynomials.
use Rattle.std.proofs.Common.{◌≡◌, ℕ, zero, suc, Option, Some, None, refl, ap, ◌∙◌}
use Rattle.polynomials.specs.Polynomials.{Polynomial, product_of}
use Rattle.polynomials.specs.Views.{lead_in, main_var, lead_in_main, initial_of}
use Rattle.polynomials.specs.Fits.{power_of as list_power, product_so_far, power_within}
use Rattle.polynomials.proofs.Degrees.{lead_in_itself}
use Rattle.polynomials.proofs.MainVariables.{free_without_main_var}
use Rattle.division_rules.specs.Operations.{initial, power}
use Rattle.division_rules.specs.Lists.{variable_or_zero, list_operations}
use Rattle.division_rules.specs.Within.{and_then, times_within, power_of_within}
use Rattle.division_rules.specs.ListWords.{WordsAreListWords}

module _ (p n : ℕ) where
  -- the initial, which for a constant is the constant
  pub list_initial : (f : Polynomial) → initial (list_operations p n) f ≡ initial_of f
  list_initial f = go (main_var f) refl
    where
      go : (o : Option ℕ) → main_var f ≡ o → lead_in (variable_or_zero o) f ≡ lead_in_main f o
      go None e = lead_in_itself 0 f (free_without_main_var f e 0)
      go (Some v) e = refl

  -- powers
  pub list_power_of : (f : Polynomial) (e : ℕ) → power (list_operations p n) f e ≡ list_power p n f e
  list_power_of f zero = refl
  list_power_of f (suc zero) = refl
  list_power_of f (suc (suc e)) = ap (λ x. product_of p x f) (list_power_of f (suc e))

  module _ (w : ℕ) where
    -- powers within a width
    pub list_power_within : (f : Polynomial) (e : ℕ) → power_of_within (list_operations p n) w f e ≡ power_within p n w f e
    list_power_within f zero = refl
    list_power_within f (suc zero) = refl
    list_power_within f (suc (suc e)) = ap (λ z. and_then z (λ x. times_within (list_operations p n) w x f)) (list_power_within f (suc e)) ∙ go (power_within p n w f (suc e))
      where
        go : (z : Option Polynomial) → and_then z (λ x. times_within (list_operations p n) w x f) ≡ product_so_far p w f z
        go None = refl
        go (Some x) = refl

-- the law
pub words_are_list_words : WordsAreListWords
words_are_list_words p n = record {
  combined = λ cs gs. refl;
  power = list_power_of p n;
  power_within = list_power_within p n;
  initial = list_initial p n;
}
