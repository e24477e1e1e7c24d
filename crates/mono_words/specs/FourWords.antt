-- Monomials in sixteen variables as four words of four exponents.
use Rattle.std.specs.Prelude.{◌≡◌, ℕ, ◌+◌, ◌*◌, ◌^◌, ◌<◌, ◌++◌, take, drop}
use Rattle.std.proofs.Common.{ap₂, ◌∙◌}
use Rattle.polynomials.specs.Monomials.{Monomial}
use Rattle.mono_words.specs.Words.{exponents, packed, packed-exponents}

-- the exponents of four words, the least variables in the first
unfoldable pub four_words : ℕ → ℕ → ℕ → ℕ → Monomial
four_words a b c d = exponents 4 a ++ (exponents 4 b ++ (exponents 4 c ++ exponents 4 d))

-- the numbers have four exponents each
pub record AreWords (a b c d : ℕ) : Type 0 where
  pub first : a < 65536 ^ 4
  pub second : b < 65536 ^ 4
  pub third : c < 65536 ^ 4
  pub fourth : d < 65536 ^ 4

-- the exponents of m from the variable 4 * i on
abbrev pub word_of : ℕ → Monomial → Monomial
word_of i m = take 4 (drop (4 * i) m)

-- m with other exponents from the variable 4 * i on
abbrev pub with_word : Monomial → ℕ → Monomial → Monomial
with_word m i word = take (4 * i) m ++ (word ++ drop (4 * i + 4) m)

-- what is made of four words is the same if it is made of their exponents
pub packed-four_words :
    {B : Type 0} (make : ℕ → ℕ → ℕ → ℕ → B) (a b c d : ℕ) →
    AreWords a b c d →
    make
    (packed (word_of 0 (four_words a b c d))) (packed (word_of 1 (four_words a b c d)))
    (packed (word_of 2 (four_words a b c d))) (packed (word_of 3 (four_words a b c d)))
    ≡ make a b c d
unfolding four_words exponents
packed-four_words make a b c d below =
    ap₂ (λ (x y : ℕ). make x y (packed (exponents 4 c)) (packed (exponents 4 d)))
    (packed-exponents 4 a below.first) (packed-exponents 4 b below.second)
    ∙ ap₂ (λ (x y : ℕ). make a b x y)
    (packed-exponents 4 c below.third) (packed-exponents 4 d below.fourth)
