-- With those to come, the thieves so far are all that are given back.
use Rattle.std.specs.Vec.Iter.{into_iter_items, into_iter_len}
use Rattle.offer_deck.proofs.ComingHome.{ComesHome}
use Rattle.offer_deck.proofs.owner.Owner.close.Given as goal

abbrev pub invariant-loop-thief : goal.invariant-loop-thief
invariant-loop-thief g l =
    ComesHome l.desk (into_iter_items l.thief-iterator) (into_iter_len l.thief-iterator) l.fn.self l.fn.thieves.items
