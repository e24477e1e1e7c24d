-- A modulus of the table is below 2^32.
use Rattle.std.proofs.Common.{arith, ◌^◌}
use Rattle.mono_words.specs.declared.mono.TheConstants.{VARS}
use Rattle.sparse_poly.proofs.Passes.{IsPolynomial-wider}
use Rattle.sparse_poly.proofs.poly.Poly.with_degrees.Goals as goal

pub invariant_of-result : goal.invariant_of-result
invariant_of-result c = (
  IsPolynomial-wider c.args.f (2 ^ 32) VARS c.args.terms.items (let most = c.facts.ensures.most in omega arith) c.requires.canonical,
  c.requires.degrees,
)
