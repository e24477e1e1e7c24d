-- Facts on monomials from those on their four words.
use Rattle.std.proofs.Common.{◌≡◌, ℕ, zero, suc, ◌≤◌, ◌↔◌, Bool, true, ◌&&◌, [], ◌∷◌, ◌++◌, length, replicate, IsTrue, refl, sym, ◌∙◌, ap₂, arith}
use Rattle.std.proofs.lemmas.Bool.{and_parts, and_from}
use Rattle.polynomials.specs.Monomials.{Monomial, exponent_of, monomial_product}
use Rattle.polynomials.specs.Fits.{greater_exponents, is_exponent_list}
use Rattle.mono_words.specs.Words.{exponents}
use Rattle.mono_words.specs.FourWords.{four_words}
use Rattle.mono_words.proofs.Lanes.{length-exponents, exponent_small, exponents_small}

-- R holds of the exponents of each variable
abbrev pub OfEach : (ℕ → ℕ → Type 0) → Monomial → Monomial → Type 0
OfEach R l m = (v : ℕ) → R (exponent_of v l) (exponent_of v m)

-- of the least variable and of the others
of_each-cons : (R : ℕ → ℕ → Type 0) (d e : ℕ) (l m : Monomial) → R d e → OfEach R l m → OfEach R (d ∷ l) (e ∷ m)
of_each-cons R d e l m least others zero = least
of_each-cons R d e l m least others (suc v) = others v

-- of two lists joined, it holds in both
of_each_parts : (R : ℕ → ℕ → Type 0) (k l m n : Monomial) → R 0 0 → length k ≡ length m → OfEach R (k ++ l) (m ++ n) → OfEach R k m × OfEach R l n
of_each_parts R [] l [] n none same each = ((λ v. none), each)
of_each_parts R [] l (e ∷ m) n none same each = absurd (omega arith)
of_each_parts R (d ∷ k) l [] n none same each = absurd (omega arith)
of_each_parts R (d ∷ k) l (e ∷ m) n none same each =
    let later = of_each_parts R k l m n none (omega arith) (λ v. each (suc v)) in
    (of_each-cons R d e k m (each 0) later.0, later.1)

-- and where it holds in both, it holds of the whole
of_each_whole : (R : ℕ → ℕ → Type 0) (k l m n : Monomial) → length k ≡ length m → OfEach R k m → OfEach R l n → OfEach R (k ++ l) (m ++ n)
of_each_whole R [] l [] n same first second v = second v
of_each_whole R [] l (e ∷ m) n same first second v = absurd (omega arith)
of_each_whole R (d ∷ k) l [] n same first second v = absurd (omega arith)
of_each_whole R (d ∷ k) l (e ∷ m) n same first second zero = first 0
of_each_whole R (d ∷ k) l (e ∷ m) n same first second (suc v) = of_each_whole R k l m n (omega arith) (λ u. first (suc u)) second v

-- R holds of the exponents of each variable, word by word
pub record OfEachWord (R : ℕ → ℕ → Type 0) (a b c d e f g h : ℕ) : Type 0 where
  pub first : OfEach R (exponents 4 a) (exponents 4 e)
  pub second : OfEach R (exponents 4 b) (exponents 4 f)
  pub third : OfEach R (exponents 4 c) (exponents 4 g)
  pub fourth : OfEach R (exponents 4 d) (exponents 4 h)

-- words have as many exponents
same_lengths : (a b : ℕ) → length (exponents 4 a) ≡ length (exponents 4 b)
same_lengths a b = length-exponents 4 a ∙ sym (length-exponents 4 b)

pub each_word : (R : ℕ → ℕ → Type 0) (a b c d e f g h : ℕ) → R 0 0 → OfEach R (four_words a b c d) (four_words e f g h) → OfEachWord R a b c d e f g h
unfolding four_words
each_word R a b c d e f g h none each =
    let lower = of_each_parts R (exponents 4 a) _ (exponents 4 e) _ none (same_lengths a e) each in
    let middle = of_each_parts R (exponents 4 b) _ (exponents 4 f) _ none (same_lengths b f) lower.1 in
    let upper = of_each_parts R (exponents 4 c) _ (exponents 4 g) _ none (same_lengths c g) middle.1 in
    record { first = lower.0; second = middle.0; third = upper.0; fourth = upper.1 }

pub from_each_word : (R : ℕ → ℕ → Type 0) (a b c d e f g h : ℕ) → OfEachWord R a b c d e f g h → OfEach R (four_words a b c d) (four_words e f g h)
unfolding four_words
from_each_word R a b c d e f g h each =
    of_each_whole R (exponents 4 a) _ (exponents 4 e) _ (same_lengths a e) each.first
    (of_each_whole R (exponents 4 b) _ (exponents 4 f) _ (same_lengths b f) each.second
    (of_each_whole R (exponents 4 c) _ (exponents 4 g) _ (same_lengths c g) each.third each.fourth))

-- four tests, each of which decides it of one word, decide it of the whole
pub test_of_each : (R : ℕ → ℕ → Type 0) (a b c d e f g h : ℕ) (s t u v : Bool) → R 0 0 → (IsTrue s ↔ OfEach R (exponents 4 a) (exponents 4 e)) → (IsTrue t ↔ OfEach R (exponents 4 b) (exponents 4 f)) → (IsTrue u ↔ OfEach R (exponents 4 c) (exponents 4 g)) → (IsTrue v ↔ OfEach R (exponents 4 d) (exponents 4 h)) → IsTrue (((s && t) && u) && v) ↔ OfEach R (four_words a b c d) (four_words e f g h)
test_of_each R a b c d e f g h s t u v none first second third fourth = (
  (λ i.
      let upper = and_parts ((s && t) && u) v i in
      let middle = and_parts (s && t) u upper.0 in
      let lower = and_parts s t middle.0 in
      from_each_word R a b c d e f g h (record {
        first = first.0 lower.0;
        second = second.0 lower.1;
        third = third.0 middle.1;
        fourth = fourth.0 upper.1;
      })),
  (λ i.
      let words = each_word R a b c d e f g h none i in
      and_from ((s && t) && u) v
      (and_from (s && t) u (and_from s t (first.1 words.first) (second.1 words.second)) (third.1 words.third))
      (fourth.1 words.fourth)),
)

-- the words of the product are the products of the words
pub four_words-product : (a b c d e f g h p q r s : ℕ) → exponents 4 p ≡ monomial_product (exponents 4 a) (exponents 4 e) → exponents 4 q ≡ monomial_product (exponents 4 b) (exponents 4 f) → exponents 4 r ≡ monomial_product (exponents 4 c) (exponents 4 g) → exponents 4 s ≡ monomial_product (exponents 4 d) (exponents 4 h) → four_words p q r s ≡ monomial_product (four_words a b c d) (four_words e f g h)
unfolding four_words exponents
four_words-product a b c d e f g h p q r s first second third fourth =
    ap₂ ◌++◌ first (ap₂ ◌++◌ second (ap₂ ◌++◌ third fourth))

-- and so for the greater exponents
pub four_words-greater : (a b c d e f g h p q r s : ℕ) → exponents 4 p ≡ greater_exponents (exponents 4 a) (exponents 4 e) → exponents 4 q ≡ greater_exponents (exponents 4 b) (exponents 4 f) → exponents 4 r ≡ greater_exponents (exponents 4 c) (exponents 4 g) → exponents 4 s ≡ greater_exponents (exponents 4 d) (exponents 4 h) → four_words p q r s ≡ greater_exponents (four_words a b c d) (four_words e f g h)
unfolding four_words exponents
four_words-greater a b c d e f g h p q r s first second third fourth =
    ap₂ ◌++◌ first (ap₂ ◌++◌ second (ap₂ ◌++◌ third fourth))

-- there are sixteen exponents of 16 bits
pub length-four_words : (a b c d : ℕ) → length (four_words a b c d) ≡ 16
unfolding four_words exponents
length-four_words a b c d = refl

is_exponent_list-append : (l m : Monomial) → is_exponent_list l ≡ true → is_exponent_list m ≡ true → is_exponent_list (l ++ m) ≡ true
is_exponent_list-append [] m first second = second
is_exponent_list-append (e ∷ l) m first second =
    let parts = and_parts _ (is_exponent_list l) first in
    and_from _ _ parts.0 (is_exponent_list-append l m parts.1 second)

pub four_words_small : (a b c d : ℕ) → is_exponent_list (four_words a b c d) ≡ true
unfolding four_words
four_words_small a b c d =
    is_exponent_list-append (exponents 4 a) _ (exponents_small 4 a)
    (is_exponent_list-append (exponents 4 b) _ (exponents_small 4 b)
    (is_exponent_list-append (exponents 4 c) _ (exponents_small 4 c) (exponents_small 4 d)))

exponent_of-append : (l m : Monomial) → ((v : ℕ) → exponent_of v l ≤ 65535) → ((v : ℕ) → exponent_of v m ≤ 65535) → (v : ℕ) → exponent_of v (l ++ m) ≤ 65535
exponent_of-append [] m first second v = second v
exponent_of-append (e ∷ l) m first second zero = first 0
exponent_of-append (e ∷ l) m first second (suc v) = exponent_of-append l m (λ u. first (suc u)) second v

pub four_words_exponent : (a b c d v : ℕ) → exponent_of v (four_words a b c d) ≤ 65535
unfolding four_words
four_words_exponent a b c d =
    exponent_of-append (exponents 4 a) _ (exponent_small 4 a)
    (exponent_of-append (exponents 4 b) _ (exponent_small 4 b)
    (exponent_of-append (exponents 4 c) _ (exponent_small 4 c) (exponent_small 4 d)))

-- words of 0 are the monomial 1
pub four_words-one : (a : ℕ) → exponents 4 a ≡ replicate 4 0 → four_words a a a a ≡ replicate 16 0
unfolding four_words
four_words-one a none = ap₂ ◌++◌ none (ap₂ ◌++◌ none (ap₂ ◌++◌ none none))
