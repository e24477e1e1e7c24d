-- Workers that are started one after the other, and come home.
use Rattle.std.proofs.Common.{◌≡◌, ℕ, List, [], ◌∷◌, ◌++◌, Option, Result, IfOk, subst}
use Rattle.std.specs.declared.alloc.AllocError.{AllocError}
use Rattle.std.specs.List.{AllByRecursion}
use Rattle.atomic_table.specs.Seated.{TableId}
use Rattle.collector.specs.Notes.{Notes}
use Rattle.event_lanes.specs.Views.{DrainView}
use Rattle.split_paths.specs.declared.event.Event.{Event}
use Rattle.split_paths.specs.declared.splitter.Step.{Step}
use Rattle.split_paths.specs.Places.{Place}
use Rattle.work_pool.specs.declared.taker.End.{End}
use Rattle.work_pool.specs.declared.taker.PoolError.{PoolError}
use Rattle.work_pool.specs.Homes.{HomeView, HomesView}
use Rattle.work_pool.specs.Jobs.{JobView, IsReady, HandsHome, Adds}
use Rattle.work_pool.specs.Runs.{MayRun, DidRun, CanRun, HasRun}
use Rattle.work_pool.proofs.Covered.{all_front, the_last}
use Rattle.work_pool.proofs.Joining.{all_gathered}

module _ {X T L K F : Type 0} (step : X → T → Step T L) (lawful : X → T → Type 0)
    (events : List (Event L)) (offers : List (Place T))
    (takes : K → List ℕ → L → K → Type 0) (fails : K → List ℕ → L → F → K → Type 0)
    (may : K → L → Type 0) (splitter : X) (hub : TableId) where
  pub may_run : (jobs : List (JobView X T L)) (desk : HomeView T L) (drain : DrainView L) (collector : Notes L) (each : K)
      → CanRun step lawful events offers takes fails may splitter hub jobs desk drain collector each
      → MayRun step lawful events offers takes fails may splitter hub jobs desk drain collector each
  unfolding CanRun
  may_run jobs desk drain collector each can = can

  pub can_run : (jobs : List (JobView X T L)) (desk : HomeView T L) (drain : DrainView L) (collector : Notes L) (each : K)
      → MayRun step lawful events offers takes fails may splitter hub jobs desk drain collector each
      → CanRun step lawful events offers takes fails may splitter hub jobs desk drain collector each
  unfolding CanRun
  can_run jobs desk drain collector each can = can

  pub did_run : (jobs : List (JobView X T L)) (desk : HomeView T L) (drain : DrainView L) (collector : Notes L) (each : K)
      (drain_then : DrainView L) (collector_then : Notes L) (each_then : K)
      (ready : Result (Option End) (PoolError F)) (homes : Result (HomesView T L) AllocError)
      → HasRun step lawful events offers takes fails may splitter hub jobs desk drain collector each drain_then collector_then each_then ready homes
      → DidRun step lawful events offers takes fails may splitter hub jobs desk drain collector each drain_then collector_then each_then ready homes
  unfolding HasRun
  did_run jobs desk drain collector each drain_then collector_then each_then ready homes has = has

  pub has_run : (jobs : List (JobView X T L)) (desk : HomeView T L) (drain : DrainView L) (collector : Notes L) (each : K)
      (drain_then : DrainView L) (collector_then : Notes L) (each_then : K)
      (ready : Result (Option End) (PoolError F)) (homes : Result (HomesView T L) AllocError)
      → DidRun step lawful events offers takes fails may splitter hub jobs desk drain collector each drain_then collector_then each_then ready homes
      → HasRun step lawful events offers takes fails may splitter hub jobs desk drain collector each drain_then collector_then each_then ready homes
  unfolding HasRun
  has_run jobs desk drain collector each drain_then collector_then each_then ready homes did = did

  -- the last of several jobs may begin, and so may the others
  pub last_ready : (jobs less : List (JobView X T L)) (job : JobView X T L) (desk : HomeView T L) (drain : DrainView L) (collector : Notes L) (each : K)
      → CanRun step lawful events offers takes fails may splitter hub jobs desk drain collector each
      → jobs ≡ less ++ job ∷ [] → IsReady step events offers lawful job
  unfolding CanRun
  last_ready jobs less job desk drain collector each can cut =
      the_last (IsReady step events offers lawful) jobs less job can.ready cut

  pub can_run_less : (jobs less : List (JobView X T L)) (job : JobView X T L) (desk : HomeView T L) (drain : DrainView L) (collector : Notes L) (each : K)
      → CanRun step lawful events offers takes fails may splitter hub jobs desk drain collector each
      → jobs ≡ less ++ job ∷ []
      → CanRun step lawful events offers takes fails may splitter hub less desk drain collector each
  unfolding CanRun
  can_run_less jobs less job desk drain collector each can cut = record {
    key = can.key;
    ready = all_front (IsReady step events offers lawful) jobs less job can.ready cut;
    alike = all_front (λ (job : JobView X T L). step job.splitter ≡ step splitter) jobs less job can.alike cut;
    at_work = can.at_work;
    lane = can.lane;
    drain_hub = can.drain_hub;
    walk = can.walk;
    noted = can.noted;
    may_take = can.may_take;
  }

  -- one home more
  pub has_run_more : (jobs less : List (JobView X T L)) (job : JobView X T L) (desk : HomeView T L) (drain : DrainView L) (collector : Notes L) (each : K)
      (drain_then : DrainView L) (collector_then : Notes L) (each_then : K)
      (ready : Result (Option End) (PoolError F)) (homes all : Result (HomesView T L) AllocError) (home : Result (HomeView T L) AllocError)
      → CanRun step lawful events offers takes fails may splitter hub jobs desk drain collector each
      → HasRun step lawful events offers takes fails may splitter hub less desk drain collector each drain_then collector_then each_then ready homes
      → jobs ≡ less ++ job ∷ [] → HandsHome step events offers job home → IfOk all (Adds homes home)
      → HasRun step lawful events offers takes fails may splitter hub jobs desk drain collector each drain_then collector_then each_then ready all
  unfolding CanRun HasRun
  has_run_more jobs less job desk drain collector each drain_then collector_then each_then ready homes all home can did cut hands adds = record {
    same = did.same;
    walk = did.walk;
    noted = did.noted;
    handed = did.handed;
    may_take = did.may_take;
    cut = did.cut;
    gathered = all_gathered (step splitter) events offers hub step desk jobs less job ready homes home all did.gathered hands cut
        (the_last (λ (job : JobView X T L). step job.splitter ≡ step splitter) jobs less job can.alike cut) adds;
  }
