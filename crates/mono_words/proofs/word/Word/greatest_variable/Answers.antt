-- The highest bit stands in the exponent of the greatest variable.
use Rattle.std.proofs.Common.{◌/◌, ◌∙◌, sym, ap, arith, Some}
use Rattle.std.proofs.lemmas.Nat.{leading_top}
use Rattle.polynomials.specs.Monomials.{greatest_variable}
use Rattle.mono_words.specs.Words.{exponents}
use Rattle.mono_words.proofs.Places.{greatest_variable-zero, greatest_variable-bit}
use Rattle.mono_words.proofs.word.Word.greatest_variable.Goals as goal

pub returns-then-self-eq0-clause-value : goal.returns-then-self-eq0-clause-value
returns-then-self-eq0-clause-value c =
    sym (greatest_variable-zero 4) ∙ ap (λ x. greatest_variable (exponents 4 x)) (sym c.if-self-eq0.true)

pub returns-else-self-eq0-clause-value : goal.returns-else-self-eq0-clause-value
returns-else-self-eq0-clause-value c =
    let top = leading_top 64 c.args.self.bits (omega (arith, c.if-self-eq0.false)) (omega arith) in
    ap (λ x. Some (x / 16)) (omega (arith, top.1))
    ∙ sym (greatest_variable-bit 4 c.args.self.bits top.0 (omega (arith, top.1)) top.2 top.3)
