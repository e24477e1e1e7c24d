-- The main variable at the place occurs, or a later one is looked at.
use Rattle.std.proofs.Common.{sym, ap, ◌∙◌, ◌+◌, drop, false, ◌&&◌}
use Rattle.finish_rules.specs.Checks.{is_free_of_main}
use Rattle.chains.proofs.Takings.{looks_on}
use Rattle.certificates.proofs.checks.is_free_of_main.Goals as goal

pub returns-then-not-lacks_main : goal.returns-then-not-lacks_main
returns-then-not-lacks_main c =
    let rest = drop (c.loop-i.i + 1) c.args.list.now in
    looks_on (is_free_of_main c.args.f.now) c.args.list.now c.loop-i.i c.at-t.result.now false c.at-t.ensures (ap (λ b. b && is_free_of_main c.args.f.now rest) (sym c.lacks_main.ensures ∙ c.if-not-lacks_main.true)) c.loop-i.invariant

pub loop-i-preserved : goal.loop-i-preserved
loop-i-preserved c =
    let rest = drop (c.loop-i.i + 1) c.args.list.now in
    looks_on (is_free_of_main c.args.f.now) c.args.list.now c.loop-i.i c.at-t.result.now (is_free_of_main c.args.f.now rest) c.at-t.ensures (ap (λ b. b && is_free_of_main c.args.f.now rest) (sym c.lacks_main.ensures ∙ c.if-not-lacks_main.false)) c.loop-i.invariant
