-- The coefficients so far are residues.
use Rattle.std.proofs.Common.{◌<◌, All}
use Rattle.polynomials.specs.Polynomials.{Term}
use Rattle.arithmetic_bench.proofs.operands.operand.Given as goal

abbrev pub invariant-loop-place : goal.invariant-loop-place
invariant-loop-place l = All (λ (t : Term). t.1 < l.f) l.terms.items
