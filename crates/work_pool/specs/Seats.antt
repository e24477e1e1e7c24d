-- What the workers of a new run are given.
use Rattle.std.specs.Prelude.{◌≡◌, ◌<◌, ◌≤◌, ℕ, ◌+◌, List, [], ◌∷◌, ◌++◌, length}
use Rattle.std.specs.List.{AllByRecursion, flat_map}
use Rattle.atomic_table.specs.Seated.{TableId}
use Rattle.offer_deck.specs.Views.{DeckId, OwnerView, ThiefView}
use Rattle.event_lanes.specs.Views.{HubView, DrainView}
use Rattle.work_pool.specs.Homes.{HomeView, decks_of}
use Rattle.work_pool.specs.Jobs.{JobView}
use Rattle.work_pool.specs.Rows.{others}

module _ {T : Type 0} where
  -- the owner of a deck without offers, with a thief for each other worker
  pub record IsNewOwner (workers : ℕ) (owner : OwnerView T) : Type 0 where
    pub none_made : owner.made ≡ []
    pub none_taken : owner.taken ≡ []
    pub thieves : owner.thieves + 1 ≡ workers

  -- a thief of this deck that took nothing
  pub record IsNewThief (deck : DeckId) (thief : ThiefView T) : Type 0 where
    pub deck_is : thief.deck ≡ deck
    pub none_taken : thief.taken ≡ []

  -- where so many workers, the first, are still to be seated: of each deck, numbered from k on, the
  -- thieves for them, but for the deck's own worker
  abbrev pub Stock : ℕ → ℕ → List DeckId → List (List (ThiefView T)) → Type 0
  Stock left k [] [] = Unit {0}
  Stock left k [] (column ∷ columns) = ⊥
  Stock left k (deck ∷ decks) [] = ⊥
  Stock left k (deck ∷ decks) (column ∷ columns) =
      AllByRecursion (IsNewThief deck) column
      × (k < left → length column + 1 ≡ left)
      × (left ≤ k → length column ≡ left)
      × Stock left (k + 1) decks columns

-- the desk of a new worker with this number, where the decks of all workers are these
pub record IsNewDesk {T L : Type 0} (hub : TableId) (decks : List DeckId) (number : ℕ)
    (desk : HomeView T L) : Type 0 where
  pub hub_is : desk.lane.hub ≡ hub
  pub number_is : desk.lane.number ≡ number
  pub none_put : desk.lane.put ≡ []
  pub owner : IsNewOwner (length decks) desk.owner
  pub before : List DeckId
  pub later : List DeckId
  pub deck_is : decks ≡ before ++ desk.owner.deck ∷ later
  pub deck_at : length before ≡ number
  pub row : decks_of desk.thieves ≡ others number decks
  pub none_stolen : flat_map (λ (thief : ThiefView T). thief.taken) desk.thieves ≡ []
  pub no_events : desk.events ≡ []
  pub none_waits : desk.waiting ≡ []
  pub no_offers : desk.offers ≡ []

-- the desks of new workers, numbered from here on
abbrev pub AreDesks : {T L : Type 0} → TableId → List DeckId → ℕ → List (HomeView T L) → Type 0
AreDesks hub decks number [] = Unit {0}
AreDesks hub decks number (desk ∷ desks) =
    IsNewDesk hub decks number desk × AreDesks hub decks (number + 1) desks

-- the hub of a new run, its drain, and the desks of so many workers
pub record IsSetUp {T L : Type 0} (hub : HubView) (drain : DrainView L) (desks : List
    (HomeView T L))
    (workers : ℕ) : Type 0 where
  pub of_hub : drain.hub ≡ hub.name
  pub made : drain.made ≡ workers
  pub none_taken : drain.taken ≡ []
  pub none_back : drain.backs ≡ []
  pub count : length desks ≡ workers
  pub decks : List DeckId
  pub deck_count : length decks ≡ workers
  pub seated : AreDesks hub.name decks 0 desks

-- a job for each of these desks, with this splitter and this hub
abbrev pub AreJobs : {X T L : Type 0} → X → TableId → List (HomeView T L) → List (JobView X T L)
    → Type 0
AreJobs splitter hub [] [] = Unit {0}
AreJobs splitter hub [] (job ∷ jobs) = ⊥
AreJobs splitter hub (desk ∷ desks) [] = ⊥
AreJobs splitter hub (desk ∷ desks) (job ∷ jobs) =
    (job.splitter ≡ splitter) × (job.hub ≡ hub) × (job.desk ≡ desk)
    × AreJobs splitter hub desks jobs
