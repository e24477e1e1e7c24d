-- Until the answer nothing changes.
use Rattle.std.proofs.Common.{◌≡◌}
use Rattle.offer_deck.proofs.thief.Thief.steal.Given as goal

abbrev pub invariant-loop : goal.invariant-loop
invariant-loop g l = l.self ≡ l.fn.self
