-- The polynomial at the place is the monic form, or a later one is.
use Rattle.std.proofs.Common.{sym, ap, ◌∙◌, ◌+◌, drop, true, ◌||◌}
use Rattle.polynomials.specs.Polynomials.{monic}
use Rattle.zero_sets.specs.Tasks.{is_member}
use Rattle.chains.proofs.Takings.{looks_on}
use Rattle.chains.proofs.nonzero.NonZero.has_monic_form.Goals as goal

pub returns-then-is_monic_form : goal.returns-then-is_monic_form
returns-then-is_monic_form c =
    let rest = drop (c.loop-i.i + 1) c.self.inside.polys in
    looks_on (is_member (monic c.args.f c.args.h.now)) c.self.inside.polys c.loop-i.i c.at.result.now true c.at.ensures (ap (λ b. b || is_member (monic c.args.f c.args.h.now) rest) (sym c.is_monic_form.ensures ∙ c.if-is_monic_form.true)) c.loop-i.invariant ∙ ap (is_member (monic c.args.f c.args.h.now)) c.self.view_is

pub loop-i-preserved : goal.loop-i-preserved
loop-i-preserved c =
    let rest = drop (c.loop-i.i + 1) c.self.inside.polys in
    looks_on (is_member (monic c.args.f c.args.h.now)) c.self.inside.polys c.loop-i.i c.at.result.now (is_member (monic c.args.f c.args.h.now) rest) c.at.ensures (ap (λ b. b || is_member (monic c.args.f c.args.h.now) rest) (sym c.is_monic_form.ensures ∙ c.if-is_monic_form.false)) c.loop-i.invariant
