-- The homes of workers that have only begun.
use Rattle.std.proofs.Common.{◌≡◌, ℕ, zero, suc, ◌+◌, List, [], ◌∷◌, ◌++◌, map, length, length-append, refl, sym, ap, ◌∙◌, subst, arith, append-nil}
use Rattle.std.proofs.lemmas.List.{length-map}
use Rattle.std.specs.List.{AllByRecursion, flat_map, sum_by}
use Rattle.atomic_table.specs.Seated.{TableId}
use Rattle.account_laws.specs.Accounts.{IsBalanced}
use Rattle.account_laws.proofs.Accounts.{from_numbers, weigh}
use Rattle.offer_deck.specs.Views.{DeckId, OwnerView, ThiefView}
use Rattle.split_paths.specs.declared.event.Event.{Event}
use Rattle.split_paths.specs.declared.splitter.Step.{Step}
use Rattle.split_paths.specs.Key.{IsClosedKey, IsTrueEvent, IsTrueOffer, IsTreeKey}
use Rattle.split_paths.specs.Places.{Place}
use Rattle.split_paths.specs.Tree.{events_of, events_to_come, offers_of}
use Rattle.split_paths.proofs.Closed.{offers_itself}
use Rattle.work_pool.specs.Homes.{HomeView, HomesView, IsDesk, IsHomeOf, AreHome, account_at}
use Rattle.std.proofs.Common.{Result, Ok, Err, IfOk}
use Rattle.std.specs.declared.alloc.AllocError.{AllocError}
use Rattle.work_pool.specs.Jobs.{JobView, IsReady, AreSeated, AreBegun, Gathers}
use Rattle.work_pool.specs.Seats.{IsNewDesk, AreDesks, AreJobs}
use Rattle.work_pool.specs.Works.{IsAtWork}
use Rattle.work_pool.proofs.Moved.{took_is, gave_is, one_place}

module _ {T L : Type 0} (step : T → Step T L) (events : List (Event L)) (offers : List (Place T)) (hub : TableId) where
  -- the account of a new worker that holds these offers
  new_balance : (decks : List DeckId) (number : ℕ) (desk : HomeView T L) (held : List (Place T)) (starts : List (Event L))
      → IsNewDesk hub decks number desk → ((h : Event L → ℕ) → sum_by h starts ≡ weigh step h held)
      → IsBalanced step starts (account_at step (record desk { offers = held }))
  new_balance decks number desk held starts new same = from_numbers step starts (account_at step (record desk { offers = held })) (λ h.
      let t = took_is step h (record desk { offers = held }) in
      let g = gave_is step h (record desk { offers = held }) in
      let put : sum_by h desk.lane.put ≡ 0 = ap (sum_by h) new.none_put in
      let made : weigh step h desk.owner.made ≡ 0 = ap (weigh step h) new.owner.none_made in
      let own : weigh step h desk.owner.taken ≡ 0 = ap (weigh step h) new.owner.none_taken in
      let stole : weigh step h (flat_map (λ (t : ThiefView T). t.taken) desk.thieves) ≡ 0 = ap (weigh step h) new.none_stolen in
      let held_events : sum_by h desk.events ≡ 0 = ap (sum_by h) new.no_events in
      let waits : sum_by h (flat_map (events_to_come step) desk.waiting) ≡ 0 =
      ap (λ (ws : List (List (Place T))). sum_by h (flat_map (events_to_come step) ws)) new.none_waits in
      let s = same h in omega arith)

  home_begun : (decks : List DeckId) (number : ℕ) (desk : HomeView T L) (held : List (Place T)) (starts : List (Event L))
      → IsNewDesk hub decks number desk → ((h : Event L → ℕ) → sum_by h starts ≡ weigh step h held)
      → AllByRecursion (IsTrueOffer offers) held
      → IsHomeOf step events offers hub decks number starts (record desk { offers = held })
  home_begun decks number desk held starts new same known = record {
    desk = record {
      true_events = subst (λ (es : List (Event L)). AllByRecursion (IsTrueEvent events) es) (sym new.no_events) tt;
      true_waiting = subst (λ (ws : List (List (Place T))). AllByRecursion (AllByRecursion (IsTrueOffer offers)) ws) (sym new.none_waits) tt;
      true_offers = known;
    };
    hub_is = new.hub_is;
    balanced = new_balance decks number desk held starts new same;
    number_is = new.number_is;
    before = new.before;
    later = new.later;
    deck_is = new.deck_is;
    deck_at = new.deck_at;
    row = new.row;
    thieves = new.owner.thieves;
  }

  pub new_home : (decks : List DeckId) (number : ℕ) (desk : HomeView T L) → IsNewDesk hub decks number desk
      → IsHomeOf step events offers hub decks number [] desk
  new_home decks number desk new =
      subst (λ (os : List (Place T)). IsHomeOf step events offers hub decks number [] (record desk { offers = os })) (sym new.no_offers)
      (home_begun decks number desk [] [] new (λ h. refl) tt)

  -- the first worker begins with the root
  pub root_home : (decks : List DeckId) (desk : HomeView T L) (root : Place T) → IsNewDesk hub decks 0 desk → IsTrueOffer offers root
      → events ≡ events_of step root
      → IsHomeOf step events offers hub decks 0 events (record desk { offers = root ∷ [] })
  root_home decks desk root new known is =
      home_begun decks 0 desk (root ∷ []) events new (λ h. ap (sum_by h) is ∙ sym (one_place step h root)) (known, tt)

  pub jobs_seated : {X : Type 0} (splitter : X) (decks : List DeckId) (number : ℕ) (desks : List (HomeView T L)) (jobs : List (JobView X T L))
      → AreDesks hub decks number desks → AreJobs splitter hub desks jobs → AreSeated step events offers hub decks number jobs
  jobs_seated splitter decks number [] [] seated made = tt
  jobs_seated splitter decks number [] (job ∷ jobs) seated made = absurd made
  jobs_seated splitter decks number (desk ∷ desks) [] seated made = absurd made
  jobs_seated splitter decks number (desk ∷ desks) (job ∷ jobs) seated (same, at, is, made) = (
    subst (λ (d : HomeView T L). IsHomeOf step events offers hub decks number [] d) (sym is) (new_home decks number desk seated.0),
    jobs_seated splitter decks (number + 1) desks jobs seated.1 made,
  )

  -- where all are home, the decks are those of the homes
  pub all_home : {X : Type 0} (decks : List DeckId) (desk : HomeView T L) (jobs : List (JobView X T L)) (homes : HomesView T L)
      → Gathers step events offers hub desk jobs homes → IsHomeOf step events offers hub decks 0 events desk
      → AreSeated step events offers hub decks 1 jobs → length decks ≡ length jobs + 1
      → AreHome step events offers hub (map (λ (o : OwnerView T). o.deck) homes.owners) events homes
  unfolding Gathers
  all_home decks desk jobs homes gathers first seated count =
      let home = gathers.1 decks events first seated in
      let owners = gathers.0 in
      let long = ap length home.decks_are ∙ length-append (map (λ (o : OwnerView T). o.deck) homes.owners) home.later in
      let mapped = length-map homes.owners (λ (o : OwnerView T). o.deck) in
      let none : home.later ≡ [] = empty home.later (let e : length home.later ≡ 0 = omega arith in e) in
      subst (λ (ds : List DeckId). AreHome step events offers hub ds events homes)
      (home.decks_are ∙ (ap (λ (ds : List DeckId). map (λ (o : OwnerView T). o.deck) homes.owners ++ ds) none
      ∙ append-nil (map (λ (o : OwnerView T). o.deck) homes.owners))) home
    where
      empty : {A : Type 0} (xs : List A) → length xs ≡ 0 → xs ≡ []
      empty [] e = refl
      empty (x ∷ xs) e = absurd (omega arith)

  pub are_home : {X A F : Type 0} (desk : HomeView T L) (jobs : List (JobView X T L)) (ready : Result A F) (homes : Result (HomesView T L) AllocError)
      → AreBegun step events offers hub desk jobs
      → IfOk ready (λ end. IfOk homes (Gathers step events offers hub desk jobs))
      → IfOk ready (λ end. IfOk homes (λ all. AreHome step events offers hub (map (λ (o : OwnerView T). o.deck) all.owners) events all))
  unfolding AreBegun
  are_home desk jobs (Err error) homes begun gathers = tt
  are_home desk jobs (Ok end) (Err error) begun gathers = tt
  are_home desk jobs (Ok end) (Ok all) (decks, count, first, seated) gathers =
      all_home decks desk jobs all gathers first seated count

  pub lanes_counted : {X A F : Type 0} (desk : HomeView T L) (jobs : List (JobView X T L)) (ready : Result A F) (homes : Result (HomesView T L) AllocError)
      (made : ℕ) → AreBegun step events offers hub desk jobs
      → IfOk ready (λ end. IfOk homes (Gathers step events offers hub desk jobs))
      → made ≡ length jobs + 1
      → IfOk ready (λ end. IfOk homes (λ all. made ≡ length all.lanes))
  unfolding AreBegun Gathers
  lanes_counted desk jobs (Err error) homes made begun gathers is = tt
  lanes_counted desk jobs (Ok end) (Err error) made begun gathers is = tt
  lanes_counted desk jobs (Ok end) (Ok all) made (decks, count, first, seated) gathers is =
      let home = gathers.1 decks events first seated in
      let lanes = home.lanes in
      let owners = gathers.0 in omega arith

  pub have_begun : {X : Type 0} (splitter : X) (decks : List DeckId) (desks : List (HomeView T L)) (desk first : HomeView T L) (rest : List (HomeView T L))
      (root : Place T) (jobs : List (JobView X T L)) → AreDesks hub decks 0 desks → desks ≡ first ∷ rest → AreJobs splitter hub rest jobs
      → length decks ≡ length jobs + 1 → desk ≡ record first { offers = root ∷ [] } → IsTrueOffer offers root → events ≡ events_of step root
      → AreBegun step events offers hub desk jobs
  unfolding AreBegun
  have_begun splitter decks desks desk first rest root jobs seated cut made count is known whole =
      let parts = subst (λ (ds : List (HomeView T L)). AreDesks hub decks 0 ds) cut seated in (
        decks,
        count,
        subst (λ (d : HomeView T L). IsHomeOf step events offers hub decks 0 events d) (sym is) (root_home decks first root parts.0 known whole),
        jobs_seated splitter decks 1 rest jobs parts.1 made,
      )

  -- the first worker may begin
  pub first_true : (decks : List DeckId) (desks : List (HomeView T L)) (desk first : HomeView T L) (rest : List (HomeView T L)) (root : Place T)
      → AreDesks hub decks 0 desks → desks ≡ first ∷ rest → desk ≡ record first { offers = root ∷ [] } → IsTrueOffer offers root
      → events ≡ events_of step root → IsAtWork events offers desk
  unfolding IsAtWork
  first_true decks desks desk first rest root seated cut is known whole =
      let parts = subst (λ (ds : List (HomeView T L)). AreDesks hub decks 0 ds) cut seated in
      subst (λ (d : HomeView T L). IsDesk events offers d) (sym is) (root_home decks first root parts.0 known whole).desk

  pub first_hub : (decks : List DeckId) (desks : List (HomeView T L)) (desk first : HomeView T L) (rest : List (HomeView T L)) (root : Place T)
      → AreDesks hub decks 0 desks → desks ≡ first ∷ rest → desk ≡ record first { offers = root ∷ [] } → desk.lane.hub ≡ hub
  first_hub decks desks desk first rest root seated cut is =
      let parts = subst (λ (ds : List (HomeView T L)). AreDesks hub decks 0 ds) cut seated in
      ap (λ (d : HomeView T L). d.lane.hub) is ∙ parts.0.hub_is

module _ {X T L : Type 0} (step : X → T → Step T L) (lawful : X → T → Type 0) (events : List (Event L)) (offers : List (Place T))
    (hub : TableId) (splitter : X) (key : IsClosedKey (step splitter) (lawful splitter) events offers) where
  desk_true : (decks : List DeckId) (number : ℕ) (desk : HomeView T L) → IsNewDesk hub decks number desk → IsAtWork events offers desk
  unfolding IsAtWork
  desk_true decks number desk new = record {
    true_events = subst (λ (es : List (Event L)). AllByRecursion (IsTrueEvent events) es) (sym new.no_events) tt;
    true_waiting = subst (λ (ws : List (List (Place T))). AllByRecursion (AllByRecursion (IsTrueOffer offers)) ws) (sym new.none_waits) tt;
    true_offers = subst (λ (os : List (Place T)). AllByRecursion (IsTrueOffer offers) os) (sym new.no_offers) tt;
  }

  -- all jobs may begin
  pub jobs_ready : (decks : List DeckId) (number : ℕ) (desks : List (HomeView T L)) (jobs : List (JobView X T L))
      → AreDesks hub decks number desks → AreJobs splitter hub desks jobs
      → AllByRecursion (IsReady step events offers lawful) jobs
  unfolding IsReady
  jobs_ready decks number [] [] seated made = tt
  jobs_ready decks number [] (job ∷ jobs) seated made = absurd made
  jobs_ready decks number (desk ∷ desks) [] seated made = absurd made
  jobs_ready decks number (desk ∷ desks) (job ∷ jobs) seated (same, at, is, made) = (
    (
      subst (λ (s : X). IsClosedKey (step s) (lawful s) events offers) (sym same) key,
      subst (λ (d : HomeView T L). IsAtWork events offers d) (sym is) (desk_true decks number desk seated.0),
      ap (λ (d : HomeView T L). d.lane.hub) is ∙ (seated.0.hub_is ∙ sym at),
    ),
    jobs_ready decks (number + 1) desks jobs seated.1 made,
  )

pub jobs_alike : {X T L : Type 0} (step : X → T → Step T L) (splitter : X) (hub : TableId) (desks : List (HomeView T L)) (jobs : List (JobView X T L))
    → AreJobs splitter hub desks jobs → AllByRecursion (λ (job : JobView X T L). step job.splitter ≡ step splitter) jobs
jobs_alike step splitter hub [] [] made = tt
jobs_alike step splitter hub [] (job ∷ jobs) made = absurd made
jobs_alike step splitter hub (desk ∷ desks) [] made = absurd made
jobs_alike step splitter hub (desk ∷ desks) (job ∷ jobs) (same, at, is, made) = (ap step same, jobs_alike step splitter hub desks jobs made)

pub seated_rest : {T L : Type 0} (hub : TableId) (decks : List DeckId) (desks : List (HomeView T L)) (first : HomeView T L) (rest : List (HomeView T L))
    → AreDesks hub decks 0 desks → desks ≡ first ∷ rest → AreDesks hub decks 1 rest
seated_rest {T} {L} hub decks desks first rest seated cut = (subst (λ (ds : List (HomeView T L)). AreDesks hub decks 0 ds) cut seated).1

pub jobs_counted : {X T L : Type 0} (splitter : X) (hub : TableId) (desks : List (HomeView T L)) (jobs : List (JobView X T L))
    → AreJobs splitter hub desks jobs → length jobs ≡ length desks
jobs_counted splitter hub [] [] made = refl
jobs_counted splitter hub [] (job ∷ jobs) made = absurd made
jobs_counted splitter hub (desk ∷ desks) [] made = absurd made
jobs_counted splitter hub (desk ∷ desks) (job ∷ jobs) (same, at, is, made) = ap (λ (n : ℕ). suc n) (jobs_counted splitter hub desks jobs made)

module _ {T L : Type 0} (step : T → Step T L) where
  pub tree_key : (events : List (Event L)) (offers : List (Place T)) (root : Place T) → root.path ≡ [] → events ≡ events_of step root
      → offers ≡ offers_of step root → IsTreeKey events offers
  tree_key events offers root whole of_events of_offers =
      record { step = step; root = root; whole = whole; same_events = of_events; same_offers = of_offers }

  pub root_is_true : (offers : List (Place T)) (root : Place T) → offers ≡ offers_of step root → IsTrueOffer offers root
  root_is_true offers root is =
      subst (λ (os : List (Place T)). IsTrueOffer os root) (sym is) (offers_itself step root.steps root.path root.task)
