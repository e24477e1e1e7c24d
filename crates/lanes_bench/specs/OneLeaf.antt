-- The tree of one leaf, whose marks no definition sees: what threads put and offer is all of it.
use Rattle.std.specs.Prelude.{List, [], ◌∷◌}
use Rattle.split_paths.specs.declared.event.Event.{Event}
use Rattle.split_paths.specs.declared.event.Event.TheVariants.{Leaf}
use Rattle.split_paths.specs.declared.event.Outcome.TheVariants.{Chain}
use Rattle.split_paths.specs.Places.{Place}

-- the event of the leaf, and the offer of its root
abbrev pub only_event : Event (Unit {0})
only_event = Leaf [] (Chain tt)

abbrev pub only_offer : Place (Unit {0})
only_offer = record { path = []; steps = 1; task = tt }

-- all events, and all offers
abbrev pub only_events : List (Event (Unit {0}))
only_events = only_event ∷ []

abbrev pub only_offers : List (Place (Unit {0}))
only_offers = only_offer ∷ []
