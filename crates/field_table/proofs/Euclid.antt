-- Remainders on the way to an inverse.
use Rattle.std.proofs.Common.{◌≡◌, ℕ, ◌*◌, ◌-◌, ◌/◌, ◌+◌, ◌%◌, ◌<◌, sym, ◌∙◌, ap, arith}
use Rattle.std.proofs.Math.Nat.{mul_assoc, mul-add-mod_self_left, mod-eq_of_lt, div-le_self}
use Rattle.std.proofs.lemmas.Nat.{div-add-mod', mul-mod_first, mul-mod_second, mod_below}
use Rattle.polynomials.specs.Primes.{IsPrime}
use Rattle.polynomials.proofs.InverseLemmas.{turned_product, remainder_positive}

-- rest is a residue other than 0, and a times the product modulo p
pub record IsStepOfEuclid (p a rest product : ℕ) : Type 0 where
  pub positive : 0 < rest
  pub below : rest < p
  pub product_below : product < p
  pub multiple : a * product % p ≡ rest

-- modulo p, the negative of the quotient of p by rest, times rest, is the remainder
remainder_as_multiple : (p rest : ℕ) → 0 < rest → rest < p → rest * (p - p / rest) % p ≡ p % rest
remainder_as_multiple p rest pos below =
    let multiple : rest * (p - p / rest) ≡ p * (rest - 1) + p % rest
    = turned_product p rest (rest - 1) (p / rest) (p % rest) (p - p / rest) (omega arith)
    (omega (arith, div-add-mod' p rest)) (omega (arith, div-le_self p rest)) in
    ap (λ x. x % p) multiple ∙ mul-add-mod_self_left p (rest - 1) (p % rest)
    ∙ mod-eq_of_lt (omega (arith, mod_below p rest pos))

-- the next remainder, with its product
pub next_step : (p a rest product : ℕ) → IsPrime p → 1 < rest → IsStepOfEuclid p a rest product → IsStepOfEuclid p a (p % rest) (product * (p - p / rest) % p)
next_step p a rest product prime many step =
    let t : ℕ = p - p / rest in
    record {
      positive = remainder_positive p rest prime many step.below;
      below = omega (arith, mod_below p rest (omega arith), step.below);
      product_below = mod_below (product * t) p (omega (arith, step.below));
      multiple =
          mul-mod_second a (product * t) p ∙ ap (λ x. x % p) (sym (mul_assoc a product t))
          ∙ sym (mul-mod_first (a * product) t p) ∙ ap (λ x. x * t % p) step.multiple
          ∙ remainder_as_multiple p rest step.positive step.below;
    }
