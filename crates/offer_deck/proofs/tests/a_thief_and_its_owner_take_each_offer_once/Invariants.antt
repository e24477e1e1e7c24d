-- The key is that of a tree of four leaves.
use Rattle.split_paths.specs.Tree.{events_of, offers_of}
use Rattle.offer_deck.specs.Fourfold.{fourfold, fourfold_root}
use Rattle.offer_deck.proofs.tests.a_thief_and_its_owner_take_each_offer_once.Given as goal

abbrev pub ghosts-trade : goal.ghosts-trade
ghosts-trade g a = record { events = events_of fourfold fourfold_root; offers = offers_of fourfold fourfold_root }
