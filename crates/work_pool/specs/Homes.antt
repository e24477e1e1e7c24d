-- What workers hold while they work, and hand home.
use Rattle.std.specs.Prelude.{◌≡◌, ℕ, ◌+◌, List, [], ◌∷◌, ◌++◌, map, length}
use Rattle.std.specs.List.{AllByRecursion, flat_map}
use Rattle.atomic_table.specs.Seated.{TableId}
use Rattle.account_laws.specs.Accounts.{Account, IsBalanced}
use Rattle.event_lanes.specs.Posts.{AreNumbered}
use Rattle.event_lanes.specs.Views.{LaneView, back_of}
use Rattle.offer_deck.specs.Views.{DeckId, OwnerView, ThiefView}
use Rattle.split_paths.specs.declared.event.Event.{Event}
use Rattle.split_paths.specs.declared.splitter.Step.{Step}
use Rattle.split_paths.specs.Key.{IsTrueEvent, IsTrueOffer}
use Rattle.split_paths.specs.Places.{Place}
use Rattle.split_paths.specs.Tree.{events_to_come}
use Rattle.work_pool.specs.Closing.{recalled, stolen, made_of}
use Rattle.work_pool.specs.Rows.{others, AreRows}

-- what one worker holds: its lane, its deck, its thieves of the others' decks, the event that is to
-- be put, what waits in its generator, the offer that is to be run
pub record HomeView (T L : Type 0) : Type 0 where
  pub lane : LaneView L
  pub owner : OwnerView T
  pub thieves : List (ThiefView T)
  pub events : List (Event L)
  pub waiting : List (List (Place T))
  pub offers : List (Place T)

-- what several workers handed home, a list for each field
pub record HomesView (T L : Type 0) : Type 0 where
  pub lanes : List (LaneView L)
  pub owners : List (OwnerView T)
  pub rows : List (List (ThiefView T))
  pub events : List (Event L)
  pub waiting : List (List (Place T))
  pub offers : List (Place T)

-- the decks that a worker's thieves are of
abbrev pub decks_of : {T : Type 0} → List (ThiefView T) → List DeckId
decks_of {T} thieves = map (λ (thief : ThiefView T). thief.deck) thieves

module _ {T L : Type 0} where
  abbrev pub no_homes : HomesView T L
  no_homes =
      record { lanes = []; owners = []; rows = []; events = []; waiting = []; offers = [] }

  -- one home more, after the others
  abbrev pub with_home : HomesView T L → HomeView T L → HomesView T L
  with_home homes home =
      record {
        lanes = homes.lanes ++ home.lane ∷ [];
        owners = homes.owners ++ home.owner ∷ [];
        rows = homes.rows ++ home.thieves ∷ [];
        events = homes.events ++ home.events;
        waiting = homes.waiting ++ home.waiting;
        offers = homes.offers ++ home.offers;
      }

  -- the account of what was handed home
  abbrev pub account_of : (T → Step T L) → HomesView T L → Account T L
  account_of step homes =
      record {
        taken = recalled homes.owners ++ stolen homes.rows;
        put = flat_map (λ (lane : LaneView L). lane.put) homes.lanes;
        made = made_of homes.owners;
        home =
            homes.events
            ++ (flat_map (events_to_come step) homes.waiting ++ events_to_come step homes.offers);
      }

  -- the account of one worker
  abbrev pub account_at : (T → Step T L) → HomeView T L → Account T L
  account_at step home =
      record {
        taken =
            home.owner.taken
            ++ flat_map (λ (thief : ThiefView T). thief.taken) home.thieves;
        put = home.lane.put;
        made = home.owner.made;
        home =
            home.events
            ++ (flat_map (events_to_come step) home.waiting ++ events_to_come step home.offers);
      }

  -- all that a worker holds is true of the key
  pub record IsDesk (events : List (Event L)) (offers : List (Place T)) (home : HomeView T L)
      : Type 0 where
    pub true_events : AllByRecursion (IsTrueEvent events) home.events
    pub true_waiting : AllByRecursion (AllByRecursion (IsTrueOffer offers)) home.waiting
    pub true_offers : AllByRecursion (IsTrueOffer offers) home.offers

  module _ (step : T → Step T L) (events : List (Event L)) (offers : List (Place T))
      (hub : TableId) where
    -- the home of the worker with this number, which began with the events of the start, where the
    -- decks of all workers are these
    pub record IsHomeOf (decks : List DeckId) (number : ℕ) (starts : List (Event L))
        (home : HomeView T L) : Type 0 where
      pub desk : IsDesk events offers home
      pub hub_is : home.lane.hub ≡ hub
      pub balanced : IsBalanced step starts (account_at step home)
      pub number_is : home.lane.number ≡ number
      pub before : List DeckId
      pub later : List DeckId
      pub deck_is : decks ≡ before ++ home.owner.deck ∷ later
      pub deck_at : length before ≡ number
      pub row : decks_of home.thieves ≡ others number decks
      pub thieves : home.owner.thieves + 1 ≡ length decks

    -- the homes of the first workers
    pub record AreHome (decks : List DeckId) (starts : List (Event L)) (homes : HomesView T L)
        : Type 0 where
      pub balanced : IsBalanced step starts (account_of step homes)
      pub hubs : AllByRecursion (λ (lane : LaneView L). lane.hub ≡ hub) homes.lanes
      pub numbered : AreNumbered 0 (map back_of homes.lanes)
      pub lanes : length homes.lanes ≡ length homes.owners
      pub later : List DeckId
      pub decks_are : decks ≡ map (λ (owner : OwnerView T). owner.deck) homes.owners ++ later
      pub rows : AreRows (λ (thief : ThiefView T). thief.deck) 0 homes.rows decks
      pub count : length homes.rows ≡ length homes.owners
      pub thieves :
          AllByRecursion (λ (owner : OwnerView T). owner.thieves + 1 ≡ length decks) homes.owners
      pub true_events : AllByRecursion (IsTrueEvent events) homes.events
      pub true_waiting : AllByRecursion (AllByRecursion (IsTrueOffer offers)) homes.waiting
      pub true_offers : AllByRecursion (IsTrueOffer offers) homes.offers
