-- What a new run is given.
use Rattle.std.specs.Prelude.{◌≡◌, ℕ, ◌+◌, List, [], length}
use Rattle.std.specs.List.{AllByRecursion}
use Rattle.atomic_table.specs.Seated.{TableId}
use Rattle.event_lanes.specs.Views.{DrainView}
use Rattle.split_paths.specs.declared.event.Event.{Event}
use Rattle.split_paths.specs.declared.splitter.Step.{Step}
use Rattle.split_paths.specs.Key.{IsClosedKey}
use Rattle.split_paths.specs.Places.{Place}
use Rattle.work_pool.specs.Homes.{HomeView}
use Rattle.work_pool.specs.Jobs.{JobView, IsReady, AreBegun}
use Rattle.work_pool.specs.Works.{IsAtWork}

module _ {X T L : Type 0} (step : X → T → Step T L) (lawful : X → T → Type 0)
    (events : List (Event L)) (offers : List (Place T)) (splitter : X) (hub : TableId) where
  -- the first worker holds the whole tree, the others nothing, and nothing was put
  pub record IsNewRun (jobs : List (JobView X T L)) (desk : HomeView T L) (drain : DrainView L)
      : Type 0 where
    pub key : IsClosedKey (step splitter) (lawful splitter) events offers
    pub ready : AllByRecursion (IsReady step events offers lawful) jobs
    pub alike : AllByRecursion (λ (job : JobView X T L). step job.splitter ≡ step splitter) jobs
    pub at_work : IsAtWork events offers desk
    pub lane : desk.lane.hub ≡ hub
    pub begun : AreBegun (step splitter) events offers hub desk jobs
    pub drain_hub : drain.hub ≡ hub
    pub made : drain.made ≡ length jobs + 1
    pub none_taken : drain.taken ≡ []
    pub none_back : drain.backs ≡ []

  unfoldable pub MayBegin : List (JobView X T L) → HomeView T L → DrainView L → Type 0
  MayBegin jobs desk drain = IsNewRun jobs desk drain
