-- What the workers may begin with, and what they did when all came home.
use Rattle.std.specs.Prelude.{◌≡◌, ℕ, List, map, Option, Result, IfOk, IfErr}
use Rattle.std.specs.declared.alloc.AllocError.{AllocError}
use Rattle.std.specs.List.{AllByRecursion}
use Rattle.atomic_table.specs.Seated.{TableId}
use Rattle.collector.specs.Notes.{Notes, IsCollector, to_give}
use Rattle.event_lanes.specs.declared.rule.Post.{Post}
use Rattle.event_lanes.specs.Views.{DrainView}
use Rattle.split_paths.specs.declared.event.Event.{Event}
use Rattle.split_paths.specs.declared.splitter.Step.{Step}
use Rattle.split_paths.specs.Key.{IsClosedKey}
use Rattle.split_paths.specs.Places.{Place}
use Rattle.work_pool.specs.declared.taker.End.{End}
use Rattle.work_pool.specs.declared.taker.PoolError.{PoolError}
use Rattle.work_pool.specs.Homes.{HomeView, HomesView}
use Rattle.work_pool.specs.Jobs.{JobView, IsReady, Gathers}
use Rattle.work_pool.specs.Noting.{AreNoted}
use Rattle.work_pool.specs.Taken.{IfReady, IsCut}
use Rattle.work_pool.specs.Works.{IsAtWork}

-- the events that were taken
abbrev pub taken_of : {L : Type 0} → DrainView L → List (Event L)
taken_of {L} drain = map (λ (post : Post (Event L)). post.item) drain.taken

-- the drain is of the same hub, and no lane was made or given back
pub record IsSameDrain {L : Type 0} (old new : DrainView L) : Type 0 where
  pub hub : new.hub ≡ old.hub
  pub made : new.made ≡ old.made
  pub backs : new.backs ≡ old.backs

module _ {X T L K F : Type 0} (step : X → T → Step T L) (lawful : X → T → Type 0)
    (events : List (Event L)) (offers : List (Place T))
    (takes : K → List ℕ → L → K → Type 0) (fails : K → List ℕ → L → F → K → Type 0)
    (may : K → L → Type 0) (splitter : X) (hub : TableId) where
  -- the first worker and these others may begin
  pub record MayRun (jobs : List (JobView X T L)) (desk : HomeView T L) (drain : DrainView L)
      (collector : Notes L) (each : K) : Type 0 where
    pub key : IsClosedKey (step splitter) (lawful splitter) events offers
    pub ready : AllByRecursion (IsReady step events offers lawful) jobs
    pub alike : AllByRecursion (λ (job : JobView X T L). step job.splitter ≡ step splitter) jobs
    pub at_work : IsAtWork events offers desk
    pub lane : desk.lane.hub ≡ hub
    pub drain_hub : drain.hub ≡ hub
    pub walk : IsCollector events collector
    pub noted : AreNoted events collector (taken_of drain)
    pub may_take :
        AllByRecursion (λ (pair : List ℕ × L). may each pair.1) (to_give events collector).chains

  -- how far the answer was handed out, and what came home
  pub record DidRun (jobs : List (JobView X T L)) (desk : HomeView T L)
      (drain : DrainView L) (collector : Notes L) (each : K)
      (drain_then : DrainView L) (collector_then : Notes L) (each_then : K)
      (ready : Result (Option End) (PoolError F)) (homes : Result (HomesView T L) AllocError)
      : Type 0 where
    pub same : IsSameDrain drain drain_then
    pub walk : IsCollector events collector_then
    pub noted : IfOk ready (λ end. AreNoted events collector_then (taken_of drain_then))
    pub handed : IfOk ready (IfReady takes fails each (to_give events collector) each_then
        (to_give events collector_then))
    pub may_take :
        IfOk ready (λ end. AllByRecursion (λ (pair : List ℕ × L). may each_then pair.1)
        (to_give events collector_then).chains)
    pub cut : IfErr ready (λ error. IsCut takes fails each
        (to_give events collector).chains error each_then)
    pub gathered :
        IfOk ready (λ end. IfOk homes (Gathers (step splitter) events offers hub desk jobs))

  unfoldable pub CanRun : List (JobView X T L) → HomeView T L → DrainView L → Notes L → K → Type 0
  CanRun jobs desk drain collector each = MayRun jobs desk drain collector each

  unfoldable pub HasRun : List (JobView X T L) → HomeView T L → DrainView L → Notes L → K
      → DrainView L → Notes L → K → Result (Option End) (PoolError F)
      → Result (HomesView T L) AllocError → Type 0
  HasRun jobs desk drain collector each drain_then collector_then each_then ready homes =
      DidRun jobs desk drain collector each drain_then collector_then each_then ready homes
