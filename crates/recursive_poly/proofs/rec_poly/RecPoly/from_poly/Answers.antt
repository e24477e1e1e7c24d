-- The coefficients determine the polynomial.
use Rattle.std.proofs.Common.{◌^◌, arith}
use Rattle.mono_words.specs.declared.mono.TheConstants.{VARS}
use Rattle.recursive_poly.proofs.Powers.{coefficients_determine}
use Rattle.recursive_poly.proofs.rec_poly.RecPoly.from_poly.Goals as goal

pub returns-clause-whole : goal.returns-clause-whole
returns-clause-whole c = coefficients_determine (2 ^ 32) VARS c.args.v c.args.f (omega arith) c.requires c.facts.ensures.canonical
