-- Each turn takes a factor away.
use Rattle.std.proofs.Common.{◌∙◌, sym}
use Rattle.mono_words.specs.declared.mono.TheConstants.{VARS}
use Rattle.poly_quotient.proofs.Removals.{factor_taken, none_taken}
use Rattle.poly_quotient.proofs.factors.without.Goals as goal

pub loop-left-smaller : goal.loop-left-smaller
loop-left-smaller c = (factor_taken c.args.w.field VARS c.args.w.width c.facts.ensures.prime c.args.b.now c.requires.right c.requires.varies c.args.a c.loop-left.left c.in-Some.quotient (sym c.in_ok-quotient.ensures.value ∙ c.in-Some.is) c.loop-left.invariant).1

pub loop-left-preserved : goal.loop-left-preserved
loop-left-preserved c = (factor_taken c.args.w.field VARS c.args.w.width c.facts.ensures.prime c.args.b.now c.requires.right c.requires.varies c.args.a c.loop-left.left c.in-Some.quotient (sym c.in_ok-quotient.ensures.value ∙ c.in-Some.is) c.loop-left.invariant).0

pub returns : goal.returns
returns c =
    none_taken c.args.w.field VARS c.args.w.width c.facts.ensures.prime c.args.b.now c.requires.right c.requires.varies c.args.a c.loop-left.left (sym c.in_ok-quotient.ensures.value ∙ c.in_default.is) c.loop-left.invariant
