use Rattle.std.specs.Vec.Iter.{into_iter_items, into_iter_len}
use Rattle.offer_deck.proofs.ComingHome.{one_home}
use Rattle.offer_deck.proofs.owner.Owner.close.Goals as goal

pub loop-thief-preserved : goal.loop-thief-preserved
loop-thief-preserved g c =
    one_home c.loop-thief.desk _ c.in-Some.thief (into_iter_items c.loop-thief.thief-iterator) (into_iter_items c.next.new.self) (into_iter_len c.loop-thief.thief-iterator) (into_iter_len c.next.new.self) c.args.self c.args.thieves.items c.loop-thief.invariant c.in-Some.ensures.steps.0 c.in-Some.ensures.steps.1 c.absorb.ensures
