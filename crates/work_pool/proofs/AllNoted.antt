-- Where everything is noted that was put, kept or left, all events are.
use Rattle.std.proofs.Common.{◌≡◌, ℕ, List, [], ◌∷◌, ◌++◌, map, length, refl, sym, ap, ◌∙◌, subst}
use Rattle.std.specs.List.{AllByRecursion, flat_map}
use Rattle.std.proofs.lemmas.List.Folds.{flat_map-map}
use Rattle.split_paths.specs.declared.event.Event.{Event}
use Rattle.split_paths.specs.declared.splitter.Step.{Step}
use Rattle.split_paths.specs.Places.{Place}
use Rattle.split_paths.specs.Tree.{events_to_come}
use Rattle.event_lanes.specs.declared.rule.Back.{Back}
use Rattle.event_lanes.specs.Posts.{AreNumbered}
use Rattle.tally_laws.specs.Weights.{WeighTheSame}
use Rattle.account_laws.proofs.Accounts.{close_decks}
use Rattle.work_pool.specs.Closing.{recalled, stolen, made_of}
use Rattle.work_pool.specs.Homes.{HomesView, AreHome, account_of}
use Rattle.collector.specs.Notes.{Notes, IsNoted, Keeps}
use Rattle.work_pool.specs.Noting.{AreNoted}
use Rattle.event_lanes.specs.Views.{LaneView, DrainView, back_of}
use Rattle.atomic_table.specs.Seated.{TableId}
use Rattle.offer_deck.specs.Views.{DeckId, OwnerView}
use Rattle.work_pool.proofs.Noted.{noted_alike, noted_both, keeps_noted, keeps_then}

module _ {T L : Type 0} (step : T → Step T L) (events : List (Event L)) where
  pub all_is_noted : (offers : List (Place T)) (hub : TableId) (decks : List DeckId) (homes : HomesView T L) (left : List (Place T)) (c : Notes L)
      → AreHome step events offers hub decks events homes
      → WeighTheSame ((recalled homes.owners ++ stolen homes.rows) ++ left) (made_of homes.owners)
      → AreNoted events c (flat_map (λ (back : Back (Event L)). back.put) (map back_of homes.lanes))
      → AreNoted events c homes.events
      → AreNoted events c (flat_map (events_to_come step) homes.waiting)
      → AreNoted events c (events_to_come step homes.offers)
      → AreNoted events c (events_to_come step left)
      → AreNoted events c events
  all_is_noted offers hub decks homes left c all closed puts held waiting spare rest =
      let at_home : List (Event L) = homes.events ++ (flat_map (events_to_come step) homes.waiting ++ events_to_come step homes.offers) in
      let put : List (Event L) = flat_map (λ (lane : LaneView L). lane.put) homes.lanes in
      let same : flat_map (λ (back : Back (Event L)). back.put) (map back_of homes.lanes) ≡ put =
      flat_map-map (λ (back : Back (Event L)). back.put) back_of homes.lanes in
      noted_alike events c events (put ++ (at_home ++ events_to_come step left))
      (close_decks step events (account_of step homes) left closed all.balanced)
      (noted_both events c put (at_home ++ events_to_come step left) (subst (λ (xs : List (Event L)). AreNoted events c xs) same puts)
      (noted_both events c at_home (events_to_come step left)
      (noted_both events c homes.events (flat_map (events_to_come step) homes.waiting ++ events_to_come step homes.offers) held
      (noted_both events c (flat_map (events_to_come step) homes.waiting) (events_to_come step homes.offers) waiting spare))
      rest))
