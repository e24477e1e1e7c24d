-- Degrees that fit, in each variable.
use Rattle.std.proofs.Common.{◌≢◌, ◌+◌, ◌≤◌, ◌<◌, List, [], ◌∷◌, length, refl, sym, ap₂, subst, arith}
use Rattle.polynomials.specs.Polynomials.{Term}
use Rattle.sparse_poly.proofs.FittingPairs.{fits-from_degrees}
use Rattle.sparse_poly.proofs.fitting.fits.Goals as goal

-- what isn't 0 has a term
some : (f : List Term) → f ≢ [] → 0 < length f
some [] nonzero = absurd (nonzero refl)
some (t ∷ f) nonzero = omega arith

pub returns-then-term_count-width : goal.returns-then-term_count-width
returns-then-term_count-width c =
    fits-from_degrees c.args.width c.args.a.now c.args.b.now
    (some c.args.a.now (λ e. let t = c.if-is_zero.ensures.1 e in cc))
    (some c.args.b.now (λ e. let t = c.if-is_zero-2.ensures.1 e in cc))
    (rw (← c.term_count.ensures, ← c.term_count-2.ensures) c.if-term_count-width.true) _ (
      (λ h v. subst (λ k. k ≤ 65535) (ap₂ ◌+◌ (c.degrees.ensures v) (c.degrees-then-term_count-width.ensures v)) (c.fits.ensures.0 h v)),
      (λ h. c.fits.ensures.1 (λ v. subst (λ k. k ≤ 65535) (sym (ap₂ ◌+◌ (c.degrees.ensures v) (c.degrees-then-term_count-width.ensures v))) (h v))),
    )
