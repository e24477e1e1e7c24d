-- The polynomial that was read is canonical, as those before it.
use Rattle.std.proofs.Common.{sym, subst}
use Rattle.mono_words.specs.declared.mono.TheConstants.{VARS}
use Rattle.polynomials.specs.Polynomials.{ArePolynomials}
use Rattle.polynomials.proofs.PolynomialLists.{ArePolynomials-push}
use Rattle.system_parser.proofs.text.add_polynomial.Goals as goal

pub returns-in_ok-push-clause-over : goal.returns-in_ok-push-clause-over
returns-in_ok-push-clause-over c = record {
  names = c.requires.over.names;
  inputs = c.requires.over.inputs;
  nonzero = subst (ArePolynomials c.args.system.now.field VARS) (sym c.in_ok-push.ensures.ok) (ArePolynomials-push c.args.system.now.field VARS c.args.system.now.nonzero c.in_ok-nonzero.nonzero c.requires.over.nonzero c.in_ok-nonzero.ensures.over);
}

pub returns-in_ok-push-2-clause-over : goal.returns-in_ok-push-2-clause-over
returns-in_ok-push-2-clause-over c = record {
  names = c.requires.over.names;
  inputs = subst (ArePolynomials c.args.system.now.field VARS) (sym c.in_ok-push-2.ensures.ok) (ArePolynomials-push c.args.system.now.field VARS c.args.system.now.inputs c.in_ok-input.input c.requires.over.inputs c.in_ok-input.ensures.over);
  nonzero = c.requires.over.nonzero;
}
