-- What is left, and what is taken, was there.
use Rattle.std.proofs.Common.{◌≡◌, ◌<◌, ◌∙◌, ◌%◌, length, subst, arith}
use Rattle.std.proofs.Math.Nat.{mod-lt}
use Rattle.split_paths.specs.Key.{IsTrueEvent}
use Rattle.collector.proofs.Samples.{left_over, taken_out}
use Rattle.collector.proofs.tests.take_at.Goals as goal

pub returns-clause-left : goal.returns-clause-left
returns-clause-left g c = left_over (IsTrueEvent g.N.Named.events) c.args.events.now.items _ _ c.remove.ensures.items c.requires

pub returns-clause-event : goal.returns-clause-event
returns-clause-event g c =
    let some : 0 < c.len.result = let fewer = c.remove.ensures.len in let same = c.len.ensures in omega arith in
    let same : c.len.result ≡ length c.args.events.now.items = c.len.ensures ∙ c.args.events.now.ok.0 in
    let within : c.args.k % c.len.result < length c.args.events.now.items = subst (λ n. c.args.k % c.len.result < n) same (mod-lt c.args.k some) in
    taken_out (IsTrueEvent g.N.Named.events) c.args.events.now.items _ _ c.remove.ensures.value within c.requires
