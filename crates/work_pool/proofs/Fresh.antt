-- A new run may begin.
use Rattle.std.proofs.Common.{◌≡◌, ◌≤◌, ℕ, ◌+◌, List, [], ◌∷◌, map, length, sym, ap, ◌∙◌, subst, arith}
use Rattle.std.specs.List.{AllByRecursion}
use Rattle.atomic_table.specs.Seated.{TableId}
use Rattle.collector.specs.Notes.{Notes, IsCollector, to_give}
use Rattle.event_lanes.specs.declared.rule.Post.{Post}
use Rattle.event_lanes.specs.Views.{HubView, DrainView}
use Rattle.split_paths.specs.declared.event.Event.{Event}
use Rattle.split_paths.specs.declared.splitter.Step.{Step}
use Rattle.split_paths.specs.Key.{IsClosedKey}
use Rattle.split_paths.specs.Places.{Place}
use Rattle.split_paths.specs.Tree.{events_of, offers_of}
use Rattle.work_pool.specs.Fresh.{IsNewRun, MayBegin}
use Rattle.work_pool.specs.Homes.{HomeView}
use Rattle.work_pool.specs.Jobs.{JobView}
use Rattle.work_pool.specs.Noting.{AreNoted}
use Rattle.work_pool.specs.Runs.{MayRun, CanRun, taken_of}
use Rattle.work_pool.specs.Seats.{IsSetUp, AreJobs}
use Rattle.work_pool.proofs.Begun.{have_begun, first_true, first_hub, jobs_ready, jobs_alike, jobs_counted, root_is_true, seated_rest}
use Rattle.work_pool.proofs.Noted.{none_noted}
use Rattle.work_pool.proofs.Running.{can_run}

module _ {X T L : Type 0} (step : X → T → Step T L) (lawful : X → T → Type 0)
    (events : List (Event L)) (offers : List (Place T)) (splitter : X) where
  pub may_begin : (hub : HubView) (name : TableId) (drain : DrainView L) (desks : List (HomeView T L)) (workers : ℕ) (first desk : HomeView T L)
      (rest : List (HomeView T L)) (root : Place T) (jobs : List (JobView X T L))
      → IsClosedKey (step splitter) (lawful splitter) events offers
      → events ≡ events_of (step splitter) root → offers ≡ offers_of (step splitter) root
      → IsSetUp hub drain desks workers → desks ≡ first ∷ rest → desk ≡ record first { offers = root ∷ [] }
      → name ≡ hub.name → AreJobs splitter name rest jobs
      → MayBegin step lawful events offers splitter name jobs desk drain
  unfolding MayBegin
  may_begin hub name drain desks workers first desk rest root jobs key of_events of_offers set cut is named made =
      let jobs_made : AreJobs splitter hub.name rest jobs = subst (λ (n : TableId). AreJobs splitter n rest jobs) named made in
      let known = root_is_true (step splitter) offers root of_offers in
      let counted : length jobs ≡ length rest = jobs_counted splitter hub.name rest jobs jobs_made in
      let all : length desks ≡ workers = set.count in
      let more : length desks ≡ length rest + 1 = ap length cut ∙ (let e : length (first ∷ rest) ≡ length rest + 1 = omega arith in e) in
      let decks : length set.decks ≡ workers = set.deck_count in
      let lanes : drain.made ≡ workers = set.made in
      let many : length set.decks ≡ length jobs + 1 = omega arith in
      subst (λ (n : TableId). IsNewRun step lawful events offers splitter n jobs desk drain) (sym named) (record {
        key = key;
        ready = jobs_ready step lawful events offers hub.name splitter key set.decks 1 rest jobs
            (seated_rest hub.name set.decks desks first rest set.seated cut) jobs_made;
        alike = jobs_alike step splitter hub.name rest jobs jobs_made;
        at_work = first_true (step splitter) events offers hub.name set.decks desks desk first rest root set.seated cut is known of_events;
        lane = first_hub (step splitter) events offers hub.name set.decks desks desk first rest root set.seated cut is;
        begun = have_begun (step splitter) events offers hub.name splitter set.decks desks desk first rest root jobs set.seated cut jobs_made
            many is known of_events;
        drain_hub = set.of_hub;
        made = omega arith;
        none_taken = set.none_taken;
        none_back = set.none_back;
      })

  module _ (hub : TableId) where
    pub fresh : (jobs : List (JobView X T L)) (desk : HomeView T L) (drain : DrainView L)
        → MayBegin step lawful events offers splitter hub jobs desk drain → IsNewRun step lawful events offers splitter hub jobs desk drain
    unfolding MayBegin
    fresh jobs desk drain may = may

    -- the workers of a new run may begin
    pub fresh_runs : {K F : Type 0} (takes : K → List ℕ → L → K → Type 0) (fails : K → List ℕ → L → F → K → Type 0) (may : K → L → Type 0)
        (jobs : List (JobView X T L)) (desk : HomeView T L) (drain : DrainView L) (collector : Notes L) (each : K)
        → MayBegin step lawful events offers splitter hub jobs desk drain → IsCollector events collector
        → AllByRecursion (λ (pair : List ℕ × L). may each pair.1) (to_give events collector).chains
        → CanRun step lawful events offers takes fails may splitter hub jobs desk drain collector each
    fresh_runs takes fails may jobs desk drain collector each begins walk may_take =
        let all = fresh jobs desk drain begins in
        can_run step lawful events offers takes fails may splitter hub jobs desk drain collector each (record {
          key = all.key;
          ready = all.ready;
          alike = all.alike;
          at_work = all.at_work;
          lane = all.lane;
          drain_hub = all.drain_hub;
          walk = walk;
          noted = subst (λ (ps : List (Post (Event L))). AreNoted events collector (map (λ (post : Post (Event L)). post.item) ps)) (sym all.none_taken)
              (none_noted events collector);
          may_take = may_take;
        })
