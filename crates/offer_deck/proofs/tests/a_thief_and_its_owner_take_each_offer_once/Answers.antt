use Rattle.std.proofs.Common.{◌<◌, ℕ, refl, subst, sym, arith}
use Rattle.split_paths.specs.Key.{IsTrueOffer}
use Rattle.split_paths.specs.Places.{Place}
use Rattle.split_paths.specs.Tree.{offers_of}
use Rattle.offer_deck.specs.Fourfold.{fourfold, fourfold_root, fourfold_child}
use Rattle.offer_deck.proofs.tests.a_thief_and_its_owner_take_each_offer_once.Goals as goal

abbrev IsOffered : Place ℕ → Type 0
IsOffered = IsTrueOffer (offers_of fourfold fourfold_root)

-- the root is the first of the five places, and its children follow
first : IsOffered (fourfold_child 1)
first = let within : 1 < 5 = omega arith in (1, within, refl)

second : IsOffered (fourfold_child 2)
second = let within : 2 < 5 = omega arith in (2, within, refl)

third : IsOffered (fourfold_child 3)
third = let within : 3 < 5 = omega arith in (3, within, refl)

fourth : IsOffered (fourfold_child 4)
fourth = let within : 4 < 5 = omega arith in (4, within, refl)

pub trade-requires-clause-key : goal.trade-requires-clause-key
trade-requires-clause-key g c =
    record {
      step = fourfold;
      root = fourfold_root;
      whole = refl;
      same_events = refl;
      same_offers = refl;
    }

pub trade-requires-clause-early : goal.trade-requires-clause-early
trade-requires-clause-early g c = (
  subst IsOffered (sym c.in_ok-child.ensures) first,
  subst IsOffered (sym c.in_ok-child-2.ensures) second,
)

pub trade-requires-clause-late : goal.trade-requires-clause-late
trade-requires-clause-late g c = (
  subst IsOffered (sym c.in_ok-child-3.ensures) third,
  subst IsOffered (sym c.in_ok-child-4.ensures) fourth,
)
