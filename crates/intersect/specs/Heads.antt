-- Polynomials that are imposed, with the leads by which their cases are told apart.
use Rattle.std.specs.Prelude.{◌≡◌, ◌≢◌, ℕ, [], All, Some}
use Rattle.mono_words.specs.declared.mono.TheConstants.{VARS}
use Rattle.polynomials.specs.Polynomials.{IsPolynomial, ArePolynomials}
use Rattle.polynomials.specs.Views.{main_var}
use Rattle.intersect.specs.declared.head.Head.{Head}

-- the polynomial is canonical with that main variable, and the leads are canonical and not 0
pub record IsHeadOver (p : ℕ) (head : Head) : Type 0 where
  pub main : main_var head.poly ≡ Some head.variable
  pub canonical : IsPolynomial p VARS head.poly
  pub leads : ArePolynomials p VARS head.leads
  pub nonzero : All (λ l. l ≢ []) head.leads
