-- A word divides another exactly where it is no greater and the difference adds to it without a carry.
use Rattle.std.proofs.Common.{◌≡◌, ℕ, true, refl, ◌<◌, leb, arith}
use Rattle.std.proofs.lemmas.Bool.Decides.{nat_tests}
use Rattle.mono_words.specs.Words.{exponents}
use Rattle.mono_words.proofs.Lanes.{difference_of, divides_from_difference}
use Rattle.mono_words.proofs.ZeroWords.{zero_divides}
use Rattle.mono_words.proofs.word.Word.divides.Goals as goal

-- a greater number isn't at most a smaller one
not_at_most : (a b : ℕ) → b < a → leb a b ≡ true → ⊥
not_at_most a b greater test = grind (arith, nat_tests)

pub returns-then-self-other : goal.returns-then-self-other
returns-then-self-other c = (
  (λ h. divides_from_difference 4 c.args.self.bits c.args.other.bits c.if-self-other.true (c.adds_without_carry.ensures.0 h)),
  (λ d. c.adds_without_carry.ensures.1 (difference_of 4 c.args.self.bits c.args.other.bits (omega arith) (omega arith) d).1),
)

pub returns-else-self-other : goal.returns-else-self-other
returns-else-self-other c = (
  (λ h. absurd (not_at_most c.args.self.bits c.args.other.bits c.if-self-other.false h)),
  (λ d. absurd (omega (arith, (difference_of 4 c.args.self.bits c.args.other.bits (omega arith) (omega arith) d).0))),
)

pub returns-then-self-eq0 : goal.returns-then-self-eq0
returns-then-self-eq0 c = (
  (λ h. zero_divides 4 c.args.self.bits (exponents 4 c.args.other.bits) c.if-self-eq0.true),
  (λ d. refl),
)
