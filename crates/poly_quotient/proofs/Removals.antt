-- Division by a factor as often as there is a quotient, turn by turn.
use Rattle.std.proofs.Common.{◌≡◌, ◌≢◌, ℕ, zero, suc, ◌<◌, false, [], Some, None, sum, refl, sym, ap, ◌∙◌, arith}
use Rattle.polynomials.specs.Primes.{IsPrime}
use Rattle.polynomials.specs.Polynomials.{Polynomial, IsPolynomial}
use Rattle.polynomials.specs.Views.{is_constant}
use Rattle.polynomials.specs.Fits.{degrees}
use Rattle.division_rules.specs.Quotients.{quotient_within, without_factor, factor_bound}
use Rattle.division_rules.proofs.QuotientFacts.{quotient_within_canonical, quotient_within_nonzero}
use Rattle.division_rules.proofs.FactorBounds.{sum_of_degrees_positive, sum_of_degrees_adds}

-- what is left of a: more turns than its degrees allow make of it what they make of a
abbrev pub IsLeft : ℕ → ℕ → ℕ → Polynomial → Polynomial → Polynomial → Type 0
IsLeft p n w b a left = (k : ℕ) × (sum (degrees left) < k) × (left ≢ []) × IsPolynomial p n left × (without_factor p w b k left ≡ without_factor p w b (factor_bound a) a)

-- what isn't constant isn't 0
pub varies_nonzero : (b : Polynomial) → is_constant b ≡ false → b ≢ []
varies_nonzero b varies none =
    let constant = ap is_constant none in
    cc

module _ (p n w : ℕ) (prime : IsPrime p) (b : Polynomial) (ib : IsPolynomial p n b) (varies : is_constant b ≡ false) (a : Polynomial) where
  -- at first all is left
  pub all_left : IsPolynomial p n a → a ≢ [] → IsLeft p n w b a a
  all_left i some = (factor_bound a, omega arith, some, i, refl)

  -- a turn takes a factor away, and degrees with it
  pub factor_taken : (left q : Polynomial) → quotient_within p w left b ≡ Some q → IsLeft p n w b a left → IsLeft p n w b a q × (sum (degrees q) < sum (degrees left))
  factor_taken left q e (zero, below, some, i, same) = absurd (omega arith)
  factor_taken left q e (suc k, below, some, i, same) =
      let adds = sum_of_degrees_adds p n w prime b ib left q i e some in
      let positive = sum_of_degrees_positive b varies in (
        (
          k,
          omega arith,
          quotient_within_nonzero p n w left b q prime i ib e some,
          quotient_within_canonical p n w left b q prime i ib e,
          sym (ap (λ o. elim o as (λ _. Polynomial) [ None ↦ left | Some r ↦ without_factor p w b k r ]) e) ∙ same,
        ),
        omega arith,
      )

  -- without a quotient nothing more is taken
  pub none_taken : (left : Polynomial) → quotient_within p w left b ≡ None → IsLeft p n w b a left → left ≡ without_factor p w b (factor_bound a) a
  none_taken left e (zero, below, some, i, same) = absurd (omega arith)
  none_taken left e (suc k, below, some, i, same) = sym (ap (λ o. elim o as (λ _. Polynomial) [ None ↦ left | Some r ↦ without_factor p w b k r ]) e) ∙ same
