-- The one event and the one offer are a tree's.
use Rattle.std.proofs.Common.{◌<◌, refl, arith}
use Rattle.split_paths.specs.declared.splitter.Step.TheVariants.{Emit}
use Rattle.split_paths.specs.Key.{IsTreeKey, IsTrueEvent, IsTrueOffer}
use Rattle.lanes_bench.specs.OneLeaf.{only_event, only_offer, only_events, only_offers}

pub one_leaf : IsTreeKey only_events only_offers
one_leaf =
    record {
      step = λ task. Emit task;
      root = only_offer;
      whole = refl;
      same_events = refl;
      same_offers = refl;
    }

pub is_true_event : IsTrueEvent only_events only_event
is_true_event = let within : 0 < 1 = omega arith in (0, within, refl)

pub is_true_offer : IsTrueOffer only_offers only_offer
is_true_offer = let within : 0 < 1 = omega arith in (0, within, refl)
