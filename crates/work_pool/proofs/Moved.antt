-- What a worker does keeps its account balanced, and all that it holds true.
use Rattle.std.proofs.Common.{◌≡◌, ℕ, ◌+◌, List, [], ◌∷◌, ◌++◌, map, refl, sym, ap, ◌∙◌, subst, arith, append-nil}
use Rattle.std.proofs.lemmas.List.Sums.{sum_by-append, sum_by-cons}
use Rattle.std.specs.List.{AllByRecursion, flat_map, sum_by}
use Rattle.account_laws.specs.Accounts.{IsBalanced}
use Rattle.account_laws.proofs.Accounts.{in_numbers, from_numbers, weigh, weigh-append}
use Rattle.offer_deck.specs.Views.{OwnerView, ThiefView}
use Rattle.event_lanes.specs.Views.{LaneView, with_event}
use Rattle.split_paths.specs.declared.event.Event.{Event}
use Rattle.split_paths.specs.declared.splitter.Step.{Step}
use Rattle.split_paths.specs.declared.splitter.Step.TheVariants.{Gone}
use Rattle.split_paths.specs.Key.{IsTrueEvent, IsTrueOffer}
use Rattle.split_paths.specs.Places.{Place}
use Rattle.split_paths.specs.Tree.{events_of, events_to_come}
use Rattle.work_pool.specs.Homes.{HomeView, IsDesk, account_at, decks_of}
use Rattle.work_pool.specs.Works.{HasWorked, IsAtWork, Works, Moves}

module _ {T L : Type 0} (step : T → Step T L) (h : Event L → ℕ) where
  -- what a worker took weighs, and what it gave and holds
  abbrev pub took : HomeView T L → ℕ
  took v = weigh step h v.owner.taken + weigh step h (flat_map (λ (t : ThiefView T). t.taken) v.thieves)

  abbrev pub gave : HomeView T L → ℕ
  gave v =
      sum_by h v.lane.put
      + (weigh step h v.owner.made
      + (sum_by h v.events + (sum_by h (flat_map (events_to_come step) v.waiting) + weigh step h v.offers)))

  pub took_is : (v : HomeView T L) → weigh step h (account_at step v).taken ≡ took v
  took_is v = weigh-append step h v.owner.taken (flat_map (λ (t : ThiefView T). t.taken) v.thieves)

  pub gave_is : (v : HomeView T L)
      → sum_by h (account_at step v).put + (weigh step h (account_at step v).made + sum_by h (account_at step v).home) ≡ gave v
  gave_is v =
      let one = sum_by-append h v.events (flat_map (events_to_come step) v.waiting ++ events_to_come step v.offers) in
      let two = sum_by-append h (flat_map (events_to_come step) v.waiting) (events_to_come step v.offers) in omega arith

module _ {T L : Type 0} (step : T → Step T L) where
  pub balance_moves : (starts : List (Event L)) (old new : HomeView T L)
      → ((h : Event L → ℕ) → took step h new + gave step h old ≡ took step h old + gave step h new)
      → IsBalanced step starts (account_at step old) → IsBalanced step starts (account_at step new)
  balance_moves starts old new moves balanced = from_numbers step starts (account_at step new) (λ h.
      let was = in_numbers step starts (account_at step old) balanced h in
      let t = took_is step h old in let u = took_is step h new in
      let g = gave_is step h old in let k = gave_is step h new in
      let m = moves h in omega arith)

  pub one_place : (h : Event L → ℕ) (place : Place T) → weigh step h (place ∷ []) ≡ sum_by h (events_of step place)
  one_place h place = ap (sum_by h) (append-nil (events_of step place))

  pub one_event : (h : Event L → ℕ) (event : Event L) → sum_by h (event ∷ []) ≡ h event
  one_event h event = let e = sum_by-cons h event [] in omega arith

  pub first_list : (h : Event L → ℕ) (waiting : List (Place T)) (rest : List (List (Place T)))
      → sum_by h (flat_map (events_to_come step) (waiting ∷ rest))
      ≡ weigh step h waiting + sum_by h (flat_map (events_to_come step) rest)
  first_list h waiting rest = sum_by-append h (events_to_come step waiting) (flat_map (events_to_come step) rest)

module _ {T L : Type 0} (events : List (Event L)) (offers : List (Place T)) where
  pub moves_itself : (v : HomeView T L) → IsAtWork events offers v → Moves events offers v v
  unfolding IsAtWork Moves
  moves_itself v desk step = record {
    desk = desk;
    balances = λ starts b. b;
    hub = refl;
    number = refl;
    deck = refl;
    hands = refl;
    decks = refl;
  }

  worked_then : (step : T → Step T L) (u v w : HomeView T L) → HasWorked events offers step u v → HasWorked events offers step v w
      → HasWorked events offers step u w
  worked_then step u v w one two = record {
    desk = two.desk;
    balances = λ starts b. two.balances starts (one.balances starts b);
    hub = two.hub ∙ one.hub;
    number = two.number ∙ one.number;
    deck = two.deck ∙ one.deck;
    hands = two.hands ∙ one.hands;
    decks = two.decks ∙ one.decks;
  }

  pub moves_then : (u v w : HomeView T L) → Moves events offers u v → Moves events offers v w → Moves events offers u w
  unfolding Moves
  moves_then u v w one two step = worked_then step u v w (one step) (two step)

  pub works_then : (step : T → Step T L) (u v w : HomeView T L) → Works events offers step u v → Works events offers step v w
      → Works events offers step u w
  unfolding Works
  works_then step u v w one two = worked_then step u v w one two

  pub moves_work : (step : T → Step T L) (u v : HomeView T L) → Moves events offers u v → Works events offers step u v
  unfolding Moves Works
  moves_work step u v moves = moves step

  pub works_itself : (step : T → Step T L) (v : HomeView T L) → IsAtWork events offers v → Works events offers step v v
  works_itself step v desk = moves_work step v v (moves_itself v desk)

  pub still_at_work : (u v : HomeView T L) → Moves events offers u v → IsAtWork events offers v
  unfolding IsAtWork Moves
  still_at_work u v moves = (moves (λ task. Gone)).desk

  pub works_on : (step : T → Step T L) (u v : HomeView T L) → Works events offers step u v → IsAtWork events offers v
  unfolding IsAtWork Works
  works_on step u v works = works.desk

  pub same_hub : (u v : HomeView T L) → Moves events offers u v → v.lane.hub ≡ u.lane.hub
  unfolding Moves
  same_hub u v moves = (moves (λ task. Gone)).hub

  pub works_at : (step : T → Step T L) (u v : HomeView T L) → Works events offers step u v → v.lane.hub ≡ u.lane.hub
  unfolding Works
  works_at step u v works = works.hub

  -- the event that is held is put
  pub put_one : (old new : HomeView T L) (event : Event L) → old.events ≡ event ∷ []
      → new ≡ record old { lane = with_event old.lane event; events = [] }
      → IsAtWork events offers old → Moves events offers old new
  unfolding IsAtWork Moves
  put_one old new event held is desk =
      subst (λ (v : HomeView T L). (step : T → Step T L) → HasWorked events offers step old v) (sym is) (λ step. record {
        desk = record { true_events = tt; true_waiting = desk.true_waiting; true_offers = desk.true_offers };
        balances = λ starts. balance_moves step starts old (record old { lane = with_event old.lane event; events = [] }) (λ h.
            let put = sum_by-append h old.lane.put (event ∷ []) in
            let was = ap (sum_by h) held in
            let one = one_event step h event in omega arith);
        hub = refl;
        number = refl;
        deck = refl;
        hands = refl;
        decks = refl;
      })

  -- the task that is held is offered
  pub offer_one : (old new : HomeView T L) (offer : Place T) → old.offers ≡ offer ∷ []
      → new ≡ record old { owner = record old.owner { made = old.owner.made ++ offer ∷ [] }; offers = [] }
      → IsAtWork events offers old → Moves events offers old new
  unfolding IsAtWork Moves
  offer_one old new offer held is desk =
      subst (λ (v : HomeView T L). (step : T → Step T L) → HasWorked events offers step old v) (sym is) (λ step. record {
        desk = record { true_events = desk.true_events; true_waiting = desk.true_waiting; true_offers = tt };
        balances = λ starts. balance_moves step starts old
            (record old { owner = record old.owner { made = old.owner.made ++ offer ∷ [] }; offers = [] }) (λ h.
            let made = weigh-append step h old.owner.made (offer ∷ []) in
            let was = ap (weigh step h) held in omega arith);
        hub = refl;
        number = refl;
        deck = refl;
        hands = refl;
        decks = refl;
      })

  -- an offer is taken of the own deck
  pub recall_one : (old new : HomeView T L) (offer : Place T) → old.offers ≡ [] → IsTrueOffer offers offer
      → new ≡ record old { owner = record old.owner { taken = old.owner.taken ++ offer ∷ [] }; offers = offer ∷ [] }
      → IsAtWork events offers old → Moves events offers old new
  unfolding IsAtWork Moves
  recall_one old new offer free known is desk =
      subst (λ (v : HomeView T L). (step : T → Step T L) → HasWorked events offers step old v) (sym is) (λ step. record {
        desk = record { true_events = desk.true_events; true_waiting = desk.true_waiting; true_offers = (known, tt) };
        balances = λ starts. balance_moves step starts old
            (record old { owner = record old.owner { taken = old.owner.taken ++ offer ∷ [] }; offers = offer ∷ [] }) (λ h.
            let taken = weigh-append step h old.owner.taken (offer ∷ []) in
            let was : weigh step h old.offers ≡ 0 = ap (weigh step h) free in omega arith);
        hub = refl;
        number = refl;
        deck = refl;
        hands = refl;
        decks = refl;
      })

pub ruleset move_rules = (moves_itself, moves_then, moves_work, works_itself, works_then, still_at_work, works_on, works_at, same_hub)
