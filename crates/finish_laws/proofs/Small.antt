-- What keeps the degrees of polynomials at most 65,535.
use Rattle.std.proofs.Common.{◌≡◌, ℕ, zero, suc, ◌≤◌, true, List, [], ◌∷◌, Option, Some, None, refl, sym, ap, ◌∙◌, subst, inl, inr, arith}
use Rattle.polynomials.specs.Primes.{inverse_of}
use Rattle.polynomials.specs.Polynomials.{Polynomial, sum_of, negative_of, product_of, monic}
use Rattle.polynomials.specs.Views.{degree_in, lead_in, tail_in, is_constant}
use Rattle.polynomials.specs.Fits.{fits}
use Rattle.polynomials.proofs.Degrees.{degree_in-sum_of, degree_in-negative_of, degree_in-scaled, degree_in-product_of, degree_in-coefficient_in, degree_in-without_power}
use Rattle.polynomials.proofs.FitsLemmas.{fits_in_each_variable}
use Rattle.polynomials.proofs.Integral.{zero-product_of, product_of-zero}
use Rattle.division_rules.specs.Quotients.{quotient_within, without_factor, factor_bound, without_factors}
use Rattle.division_rules.proofs.Quotients.{quotient_within_fits, quotient_within_divisor}
use Rattle.division_rules.proofs.Steps.{choose}
use Rattle.impose_rules.specs.Factors.{stripped}
use Rattle.finish_laws.proofs.Parts.{IsSmall}

-- 0 has the degree 0
pub zero_small : IsSmall []
zero_small v = omega arith

-- sums, negatives, monic forms, leads and tails don't raise degrees
pub sum_small : (p : ℕ) (f g : Polynomial) → IsSmall f → IsSmall g → IsSmall (sum_of p f g)
sum_small p f g small_f small_g v = degree_in-sum_of v p 65535 f g (small_f v) (small_g v)

pub negative_small : (p : ℕ) (f : Polynomial) → IsSmall f → IsSmall (negative_of p f)
negative_small p f small v = subst (λ d. d ≤ 65535) (sym (degree_in-negative_of v p f)) (small v)

pub monic_small : (p : ℕ) (f : Polynomial) → IsSmall f → IsSmall (monic p f)
monic_small p [] small v = small v
monic_small p (t ∷ f) small v = subst (λ d. d ≤ 65535) (sym (degree_in-scaled v p (inverse_of p t.1) (t ∷ f))) (small v)

pub lead_small : (x : ℕ) (f : Polynomial) → IsSmall f → IsSmall (lead_in x f)
lead_small x f small v = degree_in-coefficient_in v x (degree_in x f) 65535 f (small v)

pub tail_small : (x : ℕ) (f : Polynomial) → IsSmall f → IsSmall (tail_in x f)
tail_small x f small v = degree_in-without_power v x (degree_in x f) 65535 f (small v)

-- a product that fits is small, whatever its factors
pub product_small : (p w : ℕ) (f g : Polynomial) → fits w f g ≡ true → IsSmall (product_of p f g)
product_small p w f g fit = elim ((fits_in_each_variable w f g).0 fit) [
  | inl none ↦ subst IsSmall (sym (ap (λ x. product_of p x g) none ∙ zero-product_of p g)) zero_small
  | inr (inl none) ↦ subst IsSmall (sym (ap (product_of p f) none ∙ product_of-zero p f)) zero_small
  | inr (inr both) ↦ λ v.
      let bound = degree_in-product_of v p (degree_in v f) (degree_in v g) f g (omega arith) (omega arith) in
      let within = both.1 v in
      omega arith
]

-- and so is a quotient within a width
pub quotient_small : (p w : ℕ) (f b q : Polynomial) → quotient_within p w f b ≡ Some q → IsSmall q
quotient_small p w f b q e = elim ((fits_in_each_variable w q b).0 (quotient_within_fits p w f b q e)) [
  | inl none ↦ subst IsSmall (sym none) zero_small
  | inr (inl none) ↦ absurd (quotient_within_divisor p w f b q e none)
  | inr (inr both) ↦ λ v.
      let within = both.1 v in
      omega arith
]

module _ (p w : ℕ) where
  -- where there is a quotient what follows for it holds
  quotient_or_itself : (b f : Polynomial) (divide : Polynomial → Polynomial) → IsSmall f → ((q : Polynomial) → IsSmall q → IsSmall (divide q)) → (o : Option Polynomial) → quotient_within p w f b ≡ o → IsSmall (elim o [ None ↦ f | Some q ↦ divide q ])
  quotient_or_itself b f divide small each None e = small
  quotient_or_itself b f divide small each (Some q) e = each q (quotient_small p w f b q e)

  -- so what is left without a factor is small
  without_factor_small : (b : Polynomial) (k : ℕ) (f : Polynomial) → IsSmall f → IsSmall (without_factor p w b k f)
  without_factor_small b zero f small = small
  without_factor_small b (suc k) f small = quotient_or_itself b f (λ q. without_factor p w b k q) small (λ q small_q. without_factor_small b k q small_q) (quotient_within p w f b) refl

  without_factors_small : (bs : List Polynomial) (f : Polynomial) → IsSmall f → IsSmall (without_factors p w bs f)
  without_factors_small [] f small = small
  without_factors_small (b ∷ bs) f small = choose IsSmall (is_constant b) (without_factors p w bs f) (without_factors p w bs (without_factor p w b (factor_bound f) f)) (λ e. without_factors_small bs f small) (λ e. without_factors_small bs (without_factor p w b (factor_bound f) f) (without_factor_small b (factor_bound f) f small))

  -- and what is left without several, made monic
  pub stripped_small : (bs : List Polynomial) (f : Polynomial) → IsSmall f → IsSmall (stripped p w bs f)
  stripped_small bs f small = monic_small p (without_factors p w bs f) (without_factors_small bs f small)
