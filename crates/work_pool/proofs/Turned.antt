-- What a worker's turns and its thieves do keeps its account balanced.
use Rattle.std.proofs.Common.{◌≡◌, ◌<◌, ℕ, zero, suc, ◌+◌, List, [], ◌∷◌, ◌++◌, map, length, take, drop, set, get_or, refl, sym, ap, ◌∙◌, subst, arith}
use Rattle.std.proofs.lemmas.List.Sums.{sum_by-append, sum_by-cons}
use Rattle.std.specs.List.{AllByRecursion, flat_map, sum_by}
use Rattle.account_laws.proofs.Accounts.{weigh, weigh-append}
use Rattle.generators.specs.Turns.{FirstGaveWay}
use Rattle.offer_deck.specs.Views.{DeckId, ThiefView}
use Rattle.split_paths.specs.declared.event.Event.{Event}
use Rattle.split_paths.specs.declared.splitter.Step.{Step}
use Rattle.split_paths.specs.Key.{IsClosedKey, IsTrueEvent, IsTrueOffer}
use Rattle.split_paths.specs.Places.{Place}
use Rattle.split_paths.specs.Tree.{children_of, events_of, events_to_come}
use Rattle.split_paths.proofs.Lists.{all_append}
use Rattle.work_pool.specs.Homes.{HomeView, IsDesk, decks_of}
use Rattle.work_pool.specs.Works.{HasWorked, IsAtWork, Works, Moves}
use Rattle.work_pool.proofs.Covered.{all_front, the_last, true_to_come}
use Rattle.work_pool.proofs.Moved.{balance_moves, one_place, one_event, first_list, took, gave}

-- what holds of each holds of the second and of the others
all_but_second : {A : Type 0} (P : A → Type 0) (was now : List A) (x : A) → AllByRecursion P was → was ≡ take 1 now ++ x ∷ drop 1 now → P x × AllByRecursion P now
all_but_second P was [] x all cut = let each = subst (AllByRecursion P) cut all in (each.0, tt)
all_but_second P was (y ∷ now) x all cut = let each = subst (AllByRecursion P) cut all in (each.1.0, (each.0, each.1.1))

-- and both together weigh what all did
second_weighs : {T L : Type 0} (step : T → Step T L) (h : Event L → ℕ) (was now : List (Place T)) (offer : Place T) → was ≡ take 1 now ++ offer ∷ drop 1 now
    → weigh step h was ≡ weigh step h now + weigh step h (offer ∷ [])
second_weighs step h was [] offer cut = let all = ap (weigh step h) cut in let none = weigh-append step h [] (offer ∷ []) in omega arith
second_weighs step h was (first ∷ now) offer cut =
    let all = ap (weigh step h) cut in
    let one = weigh-append step h (first ∷ []) (offer ∷ now) in
    let two = weigh-append step h (offer ∷ []) now in
    let three = weigh-append step h (first ∷ []) now in omega arith

module _ {T L : Type 0} (events : List (Event L)) (offers : List (Place T)) where
  -- the second task that waits is given
  pub give_one : (old new : HomeView T L) (was now : List (Place T)) (rest : List (List (Place T))) (offer : Place T) → old.waiting ≡ was ∷ rest → old.offers ≡ []
      → was ≡ take 1 now ++ offer ∷ drop 1 now
      → new ≡ record old { waiting = now ∷ rest; offers = offer ∷ [] }
      → IsAtWork events offers old → Moves events offers old new
  unfolding IsAtWork Moves
  give_one old new was now rest offer waited free cut is desk =
      let all : AllByRecursion (AllByRecursion (IsTrueOffer offers)) (was ∷ rest) =
      subst (λ (ws : List (List (Place T))). AllByRecursion (AllByRecursion (IsTrueOffer offers)) ws) waited desk.true_waiting in
      let known = all_but_second (IsTrueOffer offers) was now offer all.0 cut in
      subst (λ (v : HomeView T L). (step : T → Step T L) → HasWorked events offers step old v) (sym is) (λ step. record {
        desk = record {
          true_events = desk.true_events;
          true_waiting = (known.1, all.1);
          true_offers = (known.0, tt);
        };
        balances = λ starts. balance_moves step starts old (record old { waiting = now ∷ rest; offers = offer ∷ [] }) (λ h.
            let none : weigh step h old.offers ≡ 0 = ap (weigh step h) free in
            let one = ap (λ (ws : List (List (Place T))). sum_by h (flat_map (events_to_come step) ws)) waited ∙ first_list step h was rest in
            let two = first_list step h now rest in
            let three = second_weighs step h was now offer cut in omega arith);
        hub = refl;
        number = refl;
        deck = refl;
        hands = refl;
        decks = refl;
      })

  -- the task that is held waits
  pub begin_one : (old new : HomeView T L) (offer : Place T) → old.offers ≡ offer ∷ []
      → new ≡ record old { waiting = (offer ∷ []) ∷ old.waiting; offers = [] }
      → IsAtWork events offers old → Moves events offers old new
  unfolding IsAtWork Moves
  begin_one old new offer held is desk =
      let known : AllByRecursion (IsTrueOffer offers) (offer ∷ []) =
      subst (λ (os : List (Place T)). AllByRecursion (IsTrueOffer offers) os) held desk.true_offers in
      subst (λ (v : HomeView T L). (step : T → Step T L) → HasWorked events offers step old v) (sym is) (λ step. record {
        desk = record { true_events = desk.true_events; true_waiting = (known, desk.true_waiting); true_offers = tt };
        balances = λ starts. balance_moves step starts old (record old { waiting = (offer ∷ []) ∷ old.waiting; offers = [] }) (λ h.
            let one = first_list step h (offer ∷ []) old.waiting in
            let two = ap (weigh step h) held in omega arith);
        hub = refl;
        number = refl;
        deck = refl;
        hands = refl;
        decks = refl;
      })

  module _ (step : T → Step T L) (lawful : T → Type 0) where
    -- what waits after a turn is true, too
    waits_true : (was now : List (Place T)) (met : List (Event L)) → IsClosedKey step lawful events offers
        → FirstGaveWay step was now met → AllByRecursion (IsTrueOffer offers) was → AllByRecursion (IsTrueOffer offers) now
    waits_true was now met key way known =
        let all : AllByRecursion (IsTrueOffer offers) (way.first ∷ way.rest) =
        subst (λ (ws : List (Place T)). AllByRecursion (IsTrueOffer offers) ws) way.waited known in
        subst (λ (ws : List (Place T)). AllByRecursion (IsTrueOffer offers) ws) (sym way.wait)
        (all_append (IsTrueOffer offers) (children_of step way.first) way.rest (key way.first all.0).kids all.1)

    -- a turn met an event
    pub event_met : (old new : HomeView T L) (was now : List (Place T)) (rest : List (List (Place T))) (event : Event L) → IsClosedKey step lawful events offers
        → old.waiting ≡ was ∷ rest → old.events ≡ []
        → FirstGaveWay step was now (event ∷ []) → events_to_come step was ≡ event ∷ events_to_come step now
        → new ≡ record old { waiting = now ∷ rest; events = event ∷ [] }
        → IsAtWork events offers old → Works events offers step old new
    unfolding IsAtWork Works
    event_met old new was now rest event key waited free way met is desk =
        let all : AllByRecursion (AllByRecursion (IsTrueOffer offers)) (was ∷ rest) =
        subst (λ (ws : List (List (Place T))). AllByRecursion (AllByRecursion (IsTrueOffer offers)) ws) waited desk.true_waiting in
        let known : AllByRecursion (IsTrueOffer offers) was = all.0 in
        let here : AllByRecursion (IsTrueEvent events) (event ∷ events_to_come step now) =
        subst (λ (es : List (Event L)). AllByRecursion (IsTrueEvent events) es) met (true_to_come step lawful events offers was key known) in
        subst (λ (v : HomeView T L). HasWorked events offers step old v) (sym is) (record {
          desk = record {
            true_events = (here.0, tt);
            true_waiting = (waits_true was now (event ∷ []) key way known, all.1);
            true_offers = desk.true_offers;
          };
          balances = λ starts. balance_moves step starts old (record old { waiting = now ∷ rest; events = event ∷ [] }) (λ h.
              let none : sum_by h old.events ≡ 0 = ap (sum_by h) free in
              let one = ap (λ (ws : List (List (Place T))). sum_by h (flat_map (events_to_come step) ws)) waited ∙ first_list step h was rest in
              let two = first_list step h now rest in
              let three = ap (sum_by h) met ∙ sum_by-cons h event (events_to_come step now) in
              let four = one_event step h event in omega arith);
          hub = refl;
          number = refl;
          deck = refl;
          hands = refl;
          decks = refl;
        })

    -- a turn met none
    pub none_met : (old new : HomeView T L) (was now : List (Place T)) (rest : List (List (Place T))) → IsClosedKey step lawful events offers
        → old.waiting ≡ was ∷ rest
        → FirstGaveWay step was now [] → events_to_come step now ≡ events_to_come step was
        → new ≡ record old { waiting = now ∷ rest }
        → IsAtWork events offers old → Works events offers step old new
    unfolding IsAtWork Works
    none_met old new was now rest key waited way same is desk =
        let all : AllByRecursion (AllByRecursion (IsTrueOffer offers)) (was ∷ rest) =
        subst (λ (ws : List (List (Place T))). AllByRecursion (AllByRecursion (IsTrueOffer offers)) ws) waited desk.true_waiting in
        let known : AllByRecursion (IsTrueOffer offers) was = all.0 in
        subst (λ (v : HomeView T L). HasWorked events offers step old v) (sym is) (record {
          desk = record {
            true_events = desk.true_events;
            true_waiting = (waits_true was now [] key way known, all.1);
            true_offers = desk.true_offers;
          };
          balances = λ starts. balance_moves step starts old (record old { waiting = now ∷ rest }) (λ h.
              let one = ap (λ (ws : List (List (Place T))). sum_by h (flat_map (events_to_come step) ws)) waited ∙ first_list step h was rest in
              let two = first_list step h now rest in
              let three = ap (sum_by h) same in omega arith);
          hub = refl;
          number = refl;
          deck = refl;
          hands = refl;
          decks = refl;
        })

    -- nothing waits any more
    pub all_met : (old new : HomeView T L) (was : List (Place T)) (rest : List (List (Place T))) → old.waiting ≡ was ∷ rest → was ≡ []
        → new ≡ record old { waiting = rest }
        → IsAtWork events offers old → Works events offers step old new
    unfolding IsAtWork Works
    all_met old new was rest waited none is desk =
        let all : AllByRecursion (AllByRecursion (IsTrueOffer offers)) (was ∷ rest) =
        subst (λ (ws : List (List (Place T))). AllByRecursion (AllByRecursion (IsTrueOffer offers)) ws) waited desk.true_waiting in
        subst (λ (v : HomeView T L). HasWorked events offers step old v) (sym is) (record {
          desk = record { true_events = desk.true_events; true_waiting = all.1; true_offers = desk.true_offers };
          balances = λ starts. balance_moves step starts old (record old { waiting = rest }) (λ h.
              let one = ap (λ (ws : List (List (Place T))). sum_by h (flat_map (events_to_come step) ws)) waited ∙ first_list step h was rest in
              let two : weigh step h was ≡ 0 = ap (weigh step h) none in omega arith);
          hub = refl;
          number = refl;
          deck = refl;
          hands = refl;
          decks = refl;
        })

-- what one of the thieves took is taken by the thieves
module _ {T L : Type 0} (step : T → Step T L) (h : Event L → ℕ) (offer : Place T) where
  abbrev stolen : List (ThiefView T) → ℕ
  stolen thieves = weigh step h (flat_map (λ (t : ThiefView T). t.taken) thieves)

  stolen_cons : (t : ThiefView T) (ts : List (ThiefView T)) → stolen (t ∷ ts) ≡ weigh step h t.taken + stolen ts
  stolen_cons t ts = weigh-append step h t.taken (flat_map (λ (t : ThiefView T). t.taken) ts)

  stolen_more : (thieves : List (ThiefView T)) (k : ℕ) (old new : ThiefView T) → k < length thieves → old ≡ get_or thieves k old
      → new ≡ record old { taken = old.taken ++ offer ∷ [] }
      → stolen (set thieves k new) ≡ stolen thieves + weigh step h (offer ∷ [])
  stolen_more [] k old new within at more = absurd (omega arith)
  stolen_more (t ∷ ts) zero old new within at more =
      let one = stolen_cons t ts in
      let two = stolen_cons new ts in
      let three = ap (λ (u : ThiefView T). weigh step h u.taken) more ∙ weigh-append step h old.taken (offer ∷ []) in
      let four = ap (λ (u : ThiefView T). weigh step h u.taken) at in omega arith
  stolen_more (t ∷ ts) (suc k) old new within at more =
      let one = stolen_cons t ts in
      let two = stolen_cons t (set ts k new) in
      let three = stolen_more ts k old new (omega arith) at more in omega arith

decks_stay : {T : Type 0} (thieves : List (ThiefView T)) (k : ℕ) (old new : ThiefView T) → k < length thieves → old ≡ get_or thieves k old
    → new.deck ≡ old.deck → decks_of (set thieves k new) ≡ decks_of thieves
decks_stay [] k old new within at same = absurd (omega arith)
decks_stay (t ∷ ts) zero old new within at same = ap (λ (d : DeckId). d ∷ decks_of ts) (same ∙ ap (λ (u : ThiefView _). u.deck) at)
decks_stay (t ∷ ts) (suc k) old new within at same = ap (λ (ds : List DeckId). t.deck ∷ ds) (decks_stay ts k old new (omega arith) at same)

set_same : {A : Type 0} (xs : List A) (k : ℕ) (x : A) → k < length xs → x ≡ get_or xs k x → set xs k x ≡ xs
set_same [] k x within at = absurd (omega arith)
set_same (y ∷ xs) zero x within at = ap (λ (z : _). z ∷ xs) at
set_same (y ∷ xs) (suc k) x within at = ap (λ (zs : List _). y ∷ zs) (set_same xs k x (omega arith) at)

module _ {T L : Type 0} (events : List (Event L)) (offers : List (Place T)) where
  -- a thief took an offer
  pub steal_one : (old new : HomeView T L) (k : ℕ) (thief more : ThiefView T) (offer : Place T) → old.offers ≡ [] → IsTrueOffer offers offer
      → k < length old.thieves → thief ≡ get_or old.thieves k thief → more ≡ record thief { taken = thief.taken ++ offer ∷ [] }
      → new ≡ record old { thieves = set old.thieves k more; offers = offer ∷ [] }
      → IsAtWork events offers old → Moves events offers old new
  unfolding IsAtWork Moves
  steal_one old new k thief more offer free known within at grown is desk =
      subst (λ (v : HomeView T L). (step : T → Step T L) → HasWorked events offers step old v) (sym is) (λ step. record {
        desk = record { true_events = desk.true_events; true_waiting = desk.true_waiting; true_offers = (known, tt) };
        balances = λ starts. balance_moves step starts old (record old { thieves = set old.thieves k more; offers = offer ∷ [] }) (λ h.
            let none : weigh step h old.offers ≡ 0 = ap (weigh step h) free in
            let one = stolen_more step h offer old.thieves k thief more within at grown in omega arith);
        hub = refl;
        number = refl;
        deck = refl;
        hands = refl;
        decks = decks_stay old.thieves k thief more within at (ap (λ (u : ThiefView T). u.deck) grown);
      })

  -- a thief took none
  pub steal_none : (old new : HomeView T L) (k : ℕ) (thief more : ThiefView T)
      → k < length old.thieves → thief ≡ get_or old.thieves k thief → more ≡ thief
      → new ≡ record old { thieves = set old.thieves k more } → new ≡ old
  steal_none old new k thief more within at same is =
      is ∙ (ap (λ (t : ThiefView T). record old { thieves = set old.thieves k t }) same
      ∙ ap (λ (ts : List (ThiefView T)). record old { thieves = ts }) (set_same old.thieves k thief within at))
