-- Total degrees, and the numbers of terms of polynomials of low degree.
use Rattle.std.specs.Prelude.{ℕ, suc, ◌≤◌, max, [], ◌∷◌, sum, length}
use Rattle.polynomials.specs.Polynomials.{Polynomial, IsPolynomial}
use Rattle.polynomials.specs.Views.{degree_in, IsFreeOf}

-- the greatest sum of the exponents of a term, and 0 for the zero polynomial
abbrev pub total_degree : Polynomial → ℕ
total_degree [] = 0
total_degree (t ∷ f) = max (sum t.0) (total_degree f)

-- only variables below k occur in f
abbrev pub HasVariablesBelow : ℕ → Polynomial → Type 0
HasVariablesBelow k f = (v : ℕ) → k ≤ v → IsFreeOf v f

-- how many terms there are in one variable, and of total degree at most 1
pub record HasFewTerms (f : Polynomial) : Type 0 where
  pub in_one_variable : HasVariablesBelow 1 f → length f ≤ suc (degree_in 0 f)
  pub linear : (k : ℕ) → HasVariablesBelow k f → total_degree f ≤ 1 → length f ≤ suc k

-- that is so for each canonical polynomial
abbrev pub TermsAreFew : Type 0
TermsAreFew = (p n : ℕ) (f : Polynomial) → IsPolynomial p n f → HasFewTerms f
