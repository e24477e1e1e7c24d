-- A canonical polynomial is added, unless it is 0.
use Rattle.std.proofs.Common.{sym, subst, ◌∙◌}
use Rattle.mono_words.specs.declared.mono.TheConstants.{VARS}
use Rattle.polynomials.specs.Polynomials.{ArePolynomials}
use Rattle.intersect.proofs.TaskParts.{nonzero_added}
use Rattle.intersect.proofs.samples.nonzero.Goals as goal
use Rattle.intersect.proofs.samples.nonzero.Goals.{then-not-is_zero+in_ok-add, else-not-is_zero}

pub loop-terms-preserved : goal.loop-terms-preserved
loop-terms-preserved c = elim c.if-not-is_zero.branch [
  | then-not-is_zero+in_ok-add w ↦ subst (ArePolynomials c.args.f VARS) (sym (w.known-is ∙ w.in_ok-add.ensures.ok)) (nonzero_added c.args.f VARS c.facts.ensures.prime c.loop-terms.known c.in_ok-h.h c.loop-terms.invariant c.in_ok-h.ensures)
  | else-not-is_zero w ↦ subst (ArePolynomials c.args.f VARS) (sym w.known-is) c.loop-terms.invariant
]
