-- A canonical polynomial takes its place.
use Rattle.std.proofs.Common.{sym, subst}
use Rattle.mono_words.specs.declared.mono.TheConstants.{VARS}
use Rattle.polynomials.specs.Polynomials.{ArePolynomials}
use Rattle.chains.proofs.Additions.{member_added}
use Rattle.intersect.proofs.samples.chain.Goals as goal

pub loop-terms-preserved : goal.loop-terms-preserved
loop-terms-preserved c = subst (ArePolynomials c.args.f VARS) (sym c.in_ok-chain.ensures.value) (member_added c.args.f VARS c.in_ok-poly.field-0 c.loop-terms.chain c.loop-terms.invariant c.in_ok-poly.ensures)
