-- The order and the equality of words are those of monomials.
use Rattle.std.proofs.Common.{◌≡◌, ℕ, zero, suc, ◌/◌, ◌%◌, ◌^◌, ◌<◌, ◌∙◌, ap, arith}
use Rattle.std.specs.Ordering.{nat_cmp, ordering_then}
use Rattle.std.proofs.lemmas.Bool.Decides.{nat_tests}
use Rattle.polynomials.specs.Monomials.{monomial_order}
use Rattle.mono_words.specs.Words.{exponents, upper_below}

-- the upper exponents decide, and then the lowest
upper_first : (a b : ℕ) → ordering_then (nat_cmp (a / 65536) (b / 65536)) (nat_cmp (a % 65536) (b % 65536)) ≡ nat_cmp a b
upper_first a b = grind (arith, nat_tests)

-- the order of words of n exponents
pub order-exponents : (n a b : ℕ) → a < 65536 ^ n → b < 65536 ^ n → monomial_order (exponents n a) (exponents n b) ≡ nat_cmp a b
unfolding exponents
order-exponents zero a b small below = grind (arith, nat_tests)
order-exponents (suc n) a b small below =
    ap (λ o. ordering_then o (nat_cmp (a % 65536) (b % 65536))) (order-exponents n (a / 65536) (b / 65536) (upper_below n a small) (upper_below n b below)) ∙ upper_first a b
