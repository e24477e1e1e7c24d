-- The polynomial at the place has the main variable, or a later one does.
use Rattle.std.proofs.Common.{sym, ap, ◌∙◌, ◌+◌, drop, true, false, Some}
use Rattle.zero_sets.specs.ZeroSets.{member_in}
use Rattle.chains.proofs.Takings.{looks_on}
use Rattle.chains.proofs.MemberSteps.{member_by}
use Rattle.chains.proofs.chain.Chain.at.Goals as goal

pub returns-then-is_at : goal.returns-then-is_at
returns-then-is_at c = looks_on (member_in c.args.v) c.self.inside.polys c.loop-i.i c.at-t.result.now (Some c.at-t.result.now) c.at-t.ensures (member_by c.args.v c.at-t.result.now (drop (c.loop-i.i + 1) c.self.inside.polys) true (sym c.is_at.ensures ∙ c.if-is_at.true)) c.loop-i.invariant ∙ ap (member_in c.args.v) c.self.view_is

pub loop-i-preserved : goal.loop-i-preserved
loop-i-preserved c = looks_on (member_in c.args.v) c.self.inside.polys c.loop-i.i c.at-t.result.now (member_in c.args.v (drop (c.loop-i.i + 1) c.self.inside.polys)) c.at-t.ensures (member_by c.args.v c.at-t.result.now (drop (c.loop-i.i + 1) c.self.inside.polys) false (sym c.is_at.ensures ∙ c.if-is_at.false)) c.loop-i.invariant
