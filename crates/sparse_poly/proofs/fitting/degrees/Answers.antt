-- A further term makes the exponents the greater of both: itself where it has no greater one.
use Rattle.std.proofs.Common.{◌≡◌, ◌∙◌, ℕ, max, arith, ap}
use Rattle.polynomials.specs.Monomials.{exponent_of}
use Rattle.polynomials.specs.Views.{degree_in}
use Rattle.polynomials.proofs.FitsLemmas.{exponent_of-greater}
use Rattle.sparse_poly.proofs.Passes.{degree_turn}
use Rattle.sparse_poly.proofs.fitting.degrees.Goals as goal
use Rattle.sparse_poly.proofs.fitting.degrees.Goals.{Joined-not-divides, then-not-divides, else-not-divides}

-- each exponent is the greater of that of the terms before and that of the term
greater : (c : Joined-not-divides) (v : ℕ) → exponent_of v c.if-not-divides.degrees ≡ max (exponent_of v c.before.loop-t.degrees) (exponent_of v c.before.t-item.result.0)
greater c v = elim c.if-not-divides.branch [
  | then-not-divides w ↦ ap (exponent_of v) (w.degrees-is ∙ w.max_exponents-degrees.ensures) ∙ exponent_of-greater v c.before.loop-t.degrees c.before.t-item.result.0
  | else-not-divides w ↦ ap (exponent_of v) w.degrees-is ∙ (let below = c.before.divides.ensures.0 w.if-not-divides.false v in omega arith)
]

pub loop-t-preserved : goal.loop-t-preserved
loop-t-preserved c = λ v.
    rw (greater c v)
    (degree_turn v (exponent_of v c.loop-t.degrees) (degree_in v c.args.terms.now) c.args.terms.now c.loop-t.t-index c.t-item.result c.loop-t-test.true c.t-item.is (c.loop-t.invariant v))
