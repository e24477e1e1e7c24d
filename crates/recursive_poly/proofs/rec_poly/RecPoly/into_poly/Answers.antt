-- What was held has the coefficients that are seen, and they determine it.
use Rattle.std.proofs.Common.{◌^◌, sym, ap, ◌∙◌, arith}
use Rattle.mono_words.specs.declared.mono.TheConstants.{VARS}
use Rattle.recursive_poly.specs.Recursive.{whole}
use Rattle.recursive_poly.proofs.Powers.{coefficients_determine}
use Rattle.recursive_poly.proofs.rec_poly.RecPoly.into_poly.Goals as goal

pub returns-clause-whole : goal.returns-clause-whole
returns-clause-whole c = sym (ap whole (sym c.self.view_is) ∙ coefficients_determine (2 ^ 32) VARS c.self.inside.variable c.self.inside.poly (omega arith) c.self.invariant.0 c.self.invariant.1)
