-- The word 0, of variables that don't occur.
use Rattle.std.proofs.Common.{◌≡◌, ◌∙◌, ℕ, zero, suc, max, [], ◌∷◌, length, replicate, refl, sym, ap, ap₂, arith}
use Rattle.polynomials.specs.Monomials.{Monomial, exponent_of, MonomialDivides}
use Rattle.polynomials.specs.Fits.{greater_exponents}
use Rattle.polynomials.proofs.Exponents.{exponent_of-replicate}
use Rattle.mono_words.specs.Words.{exponents}
use Rattle.mono_words.proofs.Lanes.{length-exponents}

-- it has no exponent other than 0
exponents_of_zero : (n : ℕ) → exponents n 0 ≡ replicate n 0
unfolding exponents
exponents_of_zero zero = refl
exponents_of_zero (suc n) = ap (λ m. 0 ∷ m) (exponents_of_zero n)

-- so it divides each monomial
pub zero_divides : (n w : ℕ) (m : Monomial) → w ≡ 0 → MonomialDivides (exponents n w) m
zero_divides n w m none = λ v.
    let first : exponent_of v (exponents n w) ≡ 0 = ap (λ k. exponent_of v (exponents n k)) none ∙ (ap (exponent_of v) (exponents_of_zero n) ∙ exponent_of-replicate n v) in
    omega arith

-- no exponent is less than 0
greater_than_zeros : (n : ℕ) (l : Monomial) → length l ≡ n → greater_exponents l (replicate n 0) ≡ l
greater_than_zeros zero [] count = refl
greater_than_zeros zero (d ∷ l) count = absurd (omega arith)
greater_than_zeros (suc n) [] count = absurd (omega arith)
greater_than_zeros (suc n) (d ∷ l) count =
    let same : max d 0 ≡ d = omega arith in
    ap₂ ◌∷◌ same (greater_than_zeros n l (omega arith))

-- so beside it the exponents of a word stay
pub greater_than_zero : (n w k : ℕ) → k ≡ 0 → exponents n w ≡ greater_exponents (exponents n w) (exponents n k)
greater_than_zero n w k none =
    sym (ap (λ j. greater_exponents (exponents n w) (exponents n j)) none
    ∙ (ap (greater_exponents (exponents n w)) (exponents_of_zero n)
    ∙ greater_than_zeros n (exponents n w) (length-exponents n w)))
