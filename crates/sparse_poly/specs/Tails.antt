-- Factors of which the second has no variable greater than v, so that its lead in v stands first.
use Rattle.std.specs.Prelude.{◌≡◌, ◌<◌, ℕ, true}
use Rattle.mono_words.specs.declared.mono.TheConstants.{VARS}
use Rattle.polynomials.specs.Polynomials.{Polynomial, IsPolynomial}
use Rattle.polynomials.specs.Views.{IsFreeOf}
use Rattle.polynomials.specs.Fits.{fits}

-- both are canonical modulo p, their product fits the width w, and v is the greatest variable of f
pub record HaveProductWithin (p w v : ℕ) (a f : Polynomial) : Type 0 where
  pub left : IsPolynomial p VARS a
  pub right : IsPolynomial p VARS f
  pub fit : fits w a f ≡ true
  pub greatest : (u : ℕ) → v < u → IsFreeOf u f
