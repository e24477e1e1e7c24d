-- So many thieves were made.
use Rattle.offer_deck.specs.Dealt.{AreNewThieves}
use Rattle.offer_deck.proofs.making.deal.Given as goal

abbrev pub invariant-loop : goal.invariant-loop
invariant-loop g l = AreNewThieves l.desk l.all.items l.fn.desk.room l.counter
