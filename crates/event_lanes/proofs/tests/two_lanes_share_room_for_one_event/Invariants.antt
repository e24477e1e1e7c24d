-- The key is that of a tree of two leaves.
use Rattle.split_paths.specs.Tree.{events_of, offers_of}
use Rattle.event_lanes.specs.Twins.{twins, twin_root}
use Rattle.event_lanes.proofs.tests.two_lanes_share_room_for_one_event.Given as goal

abbrev pub ghosts-share : goal.ghosts-share
ghosts-share g a = record { events = events_of twins twin_root; offers = offers_of twins twin_root }
