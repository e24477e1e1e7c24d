-- The jobs of workers, and what they hand home.
use Rattle.std.specs.Prelude.{◌≡◌, ℕ, ◌+◌, List, [], ◌∷◌, length, Result, Ok, Err, IfOk}
use Rattle.std.specs.declared.alloc.AllocError.{AllocError}
use Rattle.atomic_table.specs.Seated.{TableId}
use Rattle.offer_deck.specs.Views.{DeckId}
use Rattle.split_paths.specs.declared.event.Event.{Event}
use Rattle.split_paths.specs.declared.splitter.Step.{Step}
use Rattle.split_paths.specs.Key.{IsClosedKey}
use Rattle.split_paths.specs.Places.{Place}
use Rattle.work_pool.specs.Homes.{HomeView, HomesView, IsHomeOf, AreHome, with_home}
use Rattle.work_pool.specs.Works.{IsAtWork, Works}

-- a job: the splitter, the hub, and what the worker begins with
pub record JobView (X T L : Type 0) : Type 0 where
  pub splitter : X
  pub hub : TableId
  pub desk : HomeView T L

module _ {X T L : Type 0} (step : X → T → Step T L) (events : List (Event L))
    (offers : List (Place T)) where
  -- a worker may begin
  unfoldable pub IsReady : (X → T → Type 0) → JobView X T L → Type 0
  IsReady lawful job =
      IsClosedKey (step job.splitter) (lawful job.splitter) events offers
      × IsAtWork events offers job.desk
      × (job.desk.lane.hub ≡ job.hub)

  -- what a worker hands home it came to by its work, unless it had no memory
  unfoldable pub HandsHome : JobView X T L → Result (HomeView T L) AllocError → Type 0
  HandsHome job home = IfOk home (Works events offers (step job.splitter) job.desk)

-- one home more, where all came home
abbrev pub Adds : {T L : Type 0} → Result (HomesView T L) AllocError → Result
    (HomeView T L) AllocError
    → HomesView T L → Type 0
Adds (Ok homes) (Ok home) all = all ≡ with_home homes home
Adds (Ok homes) (Err error) all = ⊥
Adds (Err error) home all = ⊥

module _ {X T L : Type 0} (step : T → Step T L) (events : List (Event L)) (offers : List (Place T))
    (hub : TableId) where
  -- the workers from this number on begin idle, where the decks of all workers are these
  abbrev pub AreSeated : List DeckId → ℕ → List (JobView X T L) → Type 0
  AreSeated decks number [] = Unit {0}
  AreSeated decks number (job ∷ jobs) =
      IsHomeOf step events offers hub decks number [] job.desk × AreSeated decks (number + 1) jobs

  -- the homes of the first worker and of these jobs, whatever the run began with
  unfoldable pub Gathers : HomeView T L → List (JobView X T L) → HomesView T L → Type 0
  Gathers desk jobs homes =
      (length homes.owners ≡ length jobs + 1)
      × ((decks : List DeckId) (starts : List (Event L))
      → IsHomeOf step events offers hub decks 0 starts desk → AreSeated decks 1 jobs
      → AreHome step events offers hub decks starts homes)

  -- the first worker began with all events, and the others idle
  unfoldable pub AreBegun : HomeView T L → List (JobView X T L) → Type 0
  AreBegun desk jobs =
      (decks : List DeckId) × (length decks ≡ length jobs + 1)
      × IsHomeOf step events offers hub decks 0 events desk × AreSeated decks 1 jobs
