-- A canonical polynomial is added.
use Rattle.std.proofs.Common.{sym, subst}
use Rattle.mono_words.specs.declared.mono.TheConstants.{VARS}
use Rattle.polynomials.specs.Polynomials.{ArePolynomials}
use Rattle.polynomials.proofs.PolynomialLists.{ArePolynomials-push}
use Rattle.certificates.proofs.tests.polys.Goals as goal

pub loop-terms-preserved : goal.loop-terms-preserved
loop-terms-preserved c = subst (ArePolynomials c.args.f VARS) (sym c.in_ok-push.ensures.ok) (ArePolynomials-push c.args.f VARS c.loop-terms.list c.in_ok-poly.field-0 c.loop-terms.invariant c.in_ok-poly.ensures)
