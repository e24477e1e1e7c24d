use Rattle.std.proofs.Common.{refl}
use Rattle.event_lanes.specs.Twins.{twins, twin_root}
use Rattle.event_lanes.proofs.tests.two_lanes_share_room_for_one_event.Goals as goal

pub share-requires-clause-key : goal.share-requires-clause-key
share-requires-clause-key g c =
    record { step = twins; root = twin_root; whole = refl; same_events = refl; same_offers = refl }
