-- Terms at the same places are compared.
use Rattle.mono_words.specs.declared.mono.TheConstants.{VARS}
use Rattle.chains.proofs.MonicTests.{different_lengths, coefficient_small}
use Rattle.chains.proofs.monic_forms.is_multiple.Goals as goal

pub returns-then-t-u : goal.returns-then-t-u
returns-then-t-u c = different_lengths c.args.f c.args.c c.args.t.now c.args.u.now c.if-t-u.true

pub is_multiple_term-requires-clause-coefficient : goal.is_multiple_term-requires-clause-coefficient
is_multiple_term-requires-clause-coefficient c = coefficient_small c.args.f VARS c.args.t.now c.loop-i.i c.index-t-i.result c.requires.over c.loop-i-test.true c.index-t-i.is
