-- Homes that are gathered one after the other.
use Rattle.std.proofs.Common.{◌≡◌, ℕ, zero, suc, ◌+◌, List, [], ◌∷◌, ◌++◌, length, length-append, Result, Ok, Err, IfOk, refl, sym, ap, ◌∙◌, subst, arith, append-nil}
use Rattle.std.specs.declared.alloc.AllocError.{AllocError}
use Rattle.std.specs.List.{AllByRecursion}
use Rattle.atomic_table.specs.Seated.{TableId}
use Rattle.offer_deck.specs.Views.{DeckId}
use Rattle.split_paths.specs.declared.event.Event.{Event}
use Rattle.split_paths.specs.declared.splitter.Step.{Step}
use Rattle.split_paths.specs.Key.{IsClosedKey}
use Rattle.split_paths.specs.Places.{Place}
use Rattle.work_pool.specs.Homes.{HomeView, HomesView, IsHomeOf, AreHome, no_homes, with_home}
use Rattle.work_pool.specs.Jobs.{JobView, IsReady, HandsHome, Adds, AreSeated, Gathers}
use Rattle.work_pool.specs.Works.{HasWorked, IsAtWork, Works}
use Rattle.work_pool.proofs.HomeSums.{home_added, next_added}

module _ {T L : Type 0} (step : T → Step T L) (events : List (Event L)) (offers : List (Place T)) (hub : TableId) where
  -- the home of a worker is its home after it has worked
  pub home_worked : (decks : List DeckId) (number : ℕ) (starts : List (Event L)) (old new : HomeView T L) → Works events offers step old new
      → IsHomeOf step events offers hub decks number starts old → IsHomeOf step events offers hub decks number starts new
  unfolding Works
  home_worked decks number starts old new works home = record {
    desk = works.desk;
    hub_is = works.hub ∙ home.hub_is;
    balanced = works.balances starts home.balanced;
    number_is = works.number ∙ home.number_is;
    before = home.before;
    later = home.later;
    deck_is = home.deck_is ∙ ap (λ (d : DeckId). home.before ++ d ∷ home.later) (sym works.deck);
    deck_at = home.deck_at;
    row = works.decks ∙ home.row;
    thieves = ap (λ (n : ℕ). n + 1) works.hands ∙ home.thieves;
  }

  none_home : (decks : List DeckId) → AreHome step events offers hub decks [] no_homes
  none_home decks = record {
    balanced = λ h. refl;
    hubs = tt;
    numbered = tt;
    lanes = refl;
    later = decks;
    decks_are = refl;
    rows = tt;
    count = refl;
    thieves = tt;
    true_events = tt;
    true_waiting = tt;
    true_offers = tt;
  }

  pub gathers_one : (X : Type 0) (old new : HomeView T L) (homes : HomesView T L) → Works events offers step old new
      → homes ≡ with_home no_homes new → Gathers {X = X} step events offers hub old [] homes
  unfolding Gathers
  gathers_one X old new homes works is = (
    ap (λ (h : HomesView T L). length h.owners) is,
    λ decks starts home seated.
        subst (λ (h : HomesView T L). AreHome step events offers hub decks starts h) (sym is)
        (home_added step events offers hub decks [] starts no_homes new (none_home decks)
        (home_worked decks 0 starts old new works home)),
  )

  pub lead_gathers : (X : Type 0) {A F : Type 0} (old new : HomeView T L) (ready : Result A F) (homes : Result (HomesView T L) AllocError)
      → IfOk ready (λ end. Works events offers step old new) → IfOk homes (λ all. all ≡ with_home no_homes new)
      → IfOk ready (λ end. IfOk homes (Gathers {X = X} step events offers hub old []))
  lead_gathers X old new (Err error) homes works is = tt
  lead_gathers X old new (Ok end) (Err error) works is = tt
  lead_gathers X old new (Ok end) (Ok all) works is = gathers_one X old new all works is

  seated_less : {X : Type 0} (decks : List DeckId) (number : ℕ) (less : List (JobView X T L)) (job : JobView X T L)
      → AreSeated step events offers hub decks number (less ++ job ∷ [])
      → AreSeated step events offers hub decks number less × IsHomeOf step events offers hub decks (number + length less) [] job.desk
  seated_less decks number [] job seated =
      (tt, subst (λ (n : ℕ). IsHomeOf step events offers hub decks n [] job.desk) (let e : number ≡ number + 0 = omega arith in e) seated.0)
  seated_less decks number (first ∷ less) job seated =
      let rest = seated_less decks (number + 1) less job seated.1 in (
        (seated.0, rest.0),
        subst (λ (n : ℕ). IsHomeOf step events offers hub decks n [] job.desk)
            (let e : (number + 1) + length less ≡ number + length (first ∷ less) = omega arith in e) rest.1,
      )

module _ {X T L : Type 0} (step : T → Step T L) (events : List (Event L)) (offers : List (Place T)) (hub : TableId) where
  pub gathers_next : (steps : X → T → Step T L) (desk : HomeView T L) (jobs less : List (JobView X T L)) (job : JobView X T L)
      (homes : Result (HomesView T L) AllocError) (home : Result (HomeView T L) AllocError) (all : HomesView T L)
      → IfOk homes (Gathers step events offers hub desk less) → HandsHome steps events offers job home
      → jobs ≡ less ++ job ∷ [] → steps job.splitter ≡ step → Adds homes home all
      → Gathers step events offers hub desk jobs all
  unfolding Gathers HandsHome
  gathers_next steps desk jobs less job (Err error) home all before hands cut same adds = absurd adds
  gathers_next steps desk jobs less job (Ok homes) (Err error) all before hands cut same adds = absurd adds
  gathers_next steps desk jobs less job (Ok homes) (Ok home) all before hands cut same adds =
      let count = ap length cut ∙ length-append less (job ∷ []) in
      let owners = ap (λ (h : HomesView T L). length h.owners) adds ∙ length-append homes.owners (home.owner ∷ []) in
      let known : length homes.owners ≡ length less + 1 = before.0 in
      let n : length all.owners ≡ length jobs + 1 = omega arith in
      let works : Works events offers step job.desk home = subst (λ (s : T → Step T L). Works events offers s job.desk home) same hands in (
        n,
        λ decks starts first seated.
            let parts = seated_less step events offers hub decks 1 less job
            (subst (λ (js : List (JobView X T L)). AreSeated step events offers hub decks 1 js) cut seated) in
            next_added step events offers hub decks starts homes all home adds
            (before.1 decks starts first parts.0)
            (subst (λ (k : ℕ). IsHomeOf step events offers hub decks k [] home)
            (let e : 1 + length less ≡ length homes.owners = omega arith in e)
            (home_worked step events offers hub decks (1 + length less) [] job.desk home works parts.1)),
      )

  -- one home more, where the run went well
  pub all_gathered : {A F : Type 0} (steps : X → T → Step T L) (desk : HomeView T L) (jobs less : List (JobView X T L)) (job : JobView X T L)
      (ready : Result A F) (homes : Result (HomesView T L) AllocError) (home : Result (HomeView T L) AllocError) (all : Result (HomesView T L) AllocError)
      → IfOk ready (λ end. IfOk homes (Gathers step events offers hub desk less)) → HandsHome steps events offers job home
      → jobs ≡ less ++ job ∷ [] → steps job.splitter ≡ step → IfOk all (Adds homes home)
      → IfOk ready (λ end. IfOk all (Gathers step events offers hub desk jobs))
  all_gathered steps desk jobs less job (Err error) homes home all before hands cut same adds = tt
  all_gathered steps desk jobs less job (Ok end) homes home (Err error) before hands cut same adds = tt
  all_gathered steps desk jobs less job (Ok end) homes home (Ok all) before hands cut same adds =
      gathers_next steps desk jobs less job homes home all before hands cut same adds

module _ {X T L : Type 0} (step : X → T → Step T L) (events : List (Event L)) (offers : List (Place T)) where
  pub ready_key : (lawful : X → T → Type 0) (job : JobView X T L) → IsReady step events offers lawful job
      → IsClosedKey (step job.splitter) (lawful job.splitter) events offers
  unfolding IsReady
  ready_key lawful job ready = ready.0

  pub ready_desk : (lawful : X → T → Type 0) (job : JobView X T L) → IsReady step events offers lawful job → IsAtWork events offers job.desk
  unfolding IsReady
  ready_desk lawful job ready = ready.1

  pub ready_hub : (lawful : X → T → Type 0) (job : JobView X T L) → IsReady step events offers lawful job → job.desk.lane.hub ≡ job.hub
  unfolding IsReady
  ready_hub lawful job ready = ready.2

  pub hands_home : (job : JobView X T L) (home : Result (HomeView T L) AllocError)
      → IfOk home (Works events offers (step job.splitter) job.desk) → HandsHome step events offers job home
  unfolding HandsHome
  hands_home job home works = works

pub ruleset ready_rules = (ready_key, ready_desk, ready_hub, hands_home)
