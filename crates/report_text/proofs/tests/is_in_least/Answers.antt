-- What is past the greatest variable doesn't occur, and the others were passed.
use Rattle.std.proofs.Common.{◌^◌, inl, inr, arith}
use Rattle.std.proofs.lemmas.Bool.{cases_lt}
use Rattle.mono_words.specs.declared.mono.TheConstants.{VARS}
use Rattle.polynomials.proofs.ExponentsBelow.{degree_in-past}
use Rattle.report_text.proofs.tests.is_in_least.Goals as goal

pub returns : goal.returns
returns c = λ yes v past. elim (cases_lt v VARS) [
  | inl below ↦ c.loop-v.invariant v past (omega arith)
  | inr up ↦ degree_in-past (2 ^ 32) VARS v c.args.f.now up c.terms.ensures.canonical
]
