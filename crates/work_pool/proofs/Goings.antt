-- The ways in which a worker goes on, as its fields change.
use Rattle.std.proofs.Common.{◌≡◌, ◌<◌, ℕ, List, [], ◌∷◌, ◌++◌, length, take, drop, set, get_or, Option, Some, None, IfSome, IfNone, refl, sym, ap, ap₂, ◌∙◌, subst}
use Rattle.std.specs.List.{AllByRecursion}
use Rattle.std.specs.Option.{option_to_list}
use Rattle.event_lanes.specs.Views.{LaneView, with_event}
use Rattle.generators.specs.Turns.{FirstGaveWay}
use Rattle.offer_deck.specs.Views.{OwnerView, ThiefView}
use Rattle.split_paths.specs.declared.event.Event.{Event}
use Rattle.split_paths.specs.declared.splitter.Step.{Step}
use Rattle.split_paths.specs.Key.{IsClosedKey, IsTrueEvent, IsTrueOffer}
use Rattle.split_paths.specs.Places.{Place}
use Rattle.split_paths.specs.Tree.{events_to_come}
use Rattle.work_pool.specs.Homes.{HomeView}
use Rattle.work_pool.specs.Works.{IsAtWork, Works, Moves}
use Rattle.work_pool.proofs.Moved.{moves_itself, moves_work, put_one, offer_one, recall_one}
use Rattle.work_pool.proofs.Turned.{give_one, begin_one, event_met, none_met, all_met, steal_one, steal_none}

module _ {T L : Type 0} (events : List (Event L)) (offers : List (Place T)) (old was : HomeView T L) (seen : was ≡ old)
    (desk : IsAtWork events offers old) where
  from_seen : (new : HomeView T L) → (IsAtWork events offers was → Moves events offers was new) → Moves events offers old new
  from_seen new moves =
      subst (λ (v : HomeView T L). Moves events offers v new) seen (moves (subst (IsAtWork events offers) (sym seen) desk))

  works_seen : (step : T → Step T L) (new : HomeView T L) → (IsAtWork events offers was → Works events offers step was new)
      → Works events offers step old new
  works_seen step new works =
      subst (λ (v : HomeView T L). Works events offers step v new) seen (works (subst (IsAtWork events offers) (sym seen) desk))

  pub true_event : (event : Event L) → was.events ≡ event ∷ [] → IsTrueEvent events event
  unfolding IsAtWork
  true_event event held =
      (subst (λ (es : List (Event L)). AllByRecursion (IsTrueEvent events) es)
      (sym (ap (λ (v : HomeView T L). v.events) seen) ∙ held) desk.true_events).0

  pub true_offer : (offer : Place T) → was.offers ≡ offer ∷ [] → IsTrueOffer offers offer
  unfolding IsAtWork
  true_offer offer held =
      (subst (λ (os : List (Place T)). AllByRecursion (IsTrueOffer offers) os)
      (sym (ap (λ (v : HomeView T L). v.offers) seen) ∙ held) desk.true_offers).0

  pub true_places : (waiting : List (Place T)) (rest : List (List (Place T))) → was.waiting ≡ waiting ∷ rest → AllByRecursion (IsTrueOffer offers) waiting
  unfolding IsAtWork
  true_places waiting rest held =
      (subst (λ (ws : List (List (Place T))). AllByRecursion (AllByRecursion (IsTrueOffer offers)) ws)
      (sym (ap (λ (v : HomeView T L). v.waiting) seen) ∙ held) desk.true_waiting).0

  -- nothing changed
  pub stays : (new : HomeView T L) → new ≡ was → Moves events offers old new
  stays new same =
      subst (λ (v : HomeView T L). Moves events offers old v) (sym (same ∙ seen)) (moves_itself events offers old desk)

  pub none_held : (left : Option (Event L)) → option_to_list left ≡ was.events
      → Moves events offers old (record was { events = option_to_list left })
  none_held left same = stays _ (ap (λ (es : List (Event L)). record was { events = es }) same)

  pub is_put : (event : Event L) (lane : LaneView L) (left : Option (Event L)) → was.events ≡ event ∷ [] → lane ≡ with_event was.lane event → left ≡ None
      → Moves events offers old (record was { lane = lane; events = option_to_list left })
  is_put event lane left held put none =
      from_seen (record was { lane = lane; events = option_to_list left })
      (put_one events offers was (record was { lane = lane; events = option_to_list left }) event held
      (ap₂ (λ (l : LaneView L) (e : Option (Event L)). record was { lane = l; events = option_to_list e }) put none))

  pub comes_back : (event back : Event L) (lane : LaneView L) → was.events ≡ event ∷ [] → lane ≡ was.lane → back ≡ event
      → Moves events offers old (record was { lane = lane; events = back ∷ [] })
  comes_back event back lane held same is =
      stays _ (ap₂ (λ (l : LaneView L) (es : List (Event L)). record was { lane = l; events = es }) same
      (ap (λ (e : Event L). e ∷ []) is ∙ sym held))

  pub none_spare : (left : Option (Place T)) → option_to_list left ≡ was.offers
      → Moves events offers old (record was { offers = option_to_list left })
  none_spare left same = stays _ (ap (λ (os : List (Place T)). record was { offers = os }) same)

  pub is_offered : (offer : Place T) (owner : OwnerView T) (left : Option (Place T)) → was.offers ≡ offer ∷ []
      → owner ≡ record was.owner { made = was.owner.made ++ offer ∷ [] } → left ≡ None
      → Moves events offers old (record was { owner = owner; offers = option_to_list left })
  is_offered offer owner left held made none =
      from_seen (record was { owner = owner; offers = option_to_list left })
      (offer_one events offers was (record was { owner = owner; offers = option_to_list left }) offer held
      (ap₂ (λ (o : OwnerView T) (s : Option (Place T)). record was { owner = o; offers = option_to_list s }) made none))

  pub is_kept : (offer back : Place T) (owner : OwnerView T) → was.offers ≡ offer ∷ [] → owner ≡ was.owner → back ≡ offer
      → Moves events offers old (record was { owner = owner; offers = back ∷ [] })
  is_kept offer back owner held same is =
      stays _ (ap₂ (λ (o : OwnerView T) (os : List (Place T)). record was { owner = o; offers = os }) same
      (ap (λ (p : Place T). p ∷ []) is ∙ sym held))

  pub is_recalled : (offer : Place T) (owner : OwnerView T) → old.offers ≡ [] → IsTrueOffer offers offer
      → owner ≡ record was.owner { taken = was.owner.taken ++ offer ∷ [] }
      → Moves events offers old (record was { owner = owner; offers = offer ∷ [] })
  is_recalled offer owner free known taken =
      from_seen (record was { owner = owner; offers = offer ∷ [] })
      (recall_one events offers was (record was { owner = owner; offers = offer ∷ [] }) offer
      (ap (λ (v : HomeView T L). v.offers) seen ∙ free) known
      (ap (λ (o : OwnerView T). record was { owner = o; offers = offer ∷ [] }) taken))

  pub none_recalled : (owner : OwnerView T) → owner ≡ was.owner → Moves events offers old (record was { owner = owner })
  none_recalled owner same = stays _ (ap (λ (o : OwnerView T). record was { owner = o }) same)

  pub none_waits : (left : Option (List (Place T))) (rest : List (List (Place T))) → option_to_list left ++ rest ≡ was.waiting
      → Moves events offers old (record was { waiting = option_to_list left ++ rest })
  none_waits left rest same = stays _ (ap (λ (ws : List (List (Place T))). record was { waiting = ws }) same)

  pub is_given : (before after : List (Place T)) (rest : List (List (Place T))) (offer : Place T) → was.waiting ≡ before ∷ rest → old.offers ≡ [] → before ≡ take 1 after ++ offer ∷ drop 1 after
      → Moves events offers old (record was { waiting = after ∷ rest; offers = offer ∷ [] })
  is_given before after rest offer waited free cut =
      from_seen (record was { waiting = after ∷ rest; offers = offer ∷ [] })
      (give_one events offers was (record was { waiting = after ∷ rest; offers = offer ∷ [] }) before after rest offer waited
      (ap (λ (v : HomeView T L). v.offers) seen ∙ free) cut refl)

  pub may_be_given : (before after : List (Place T)) (rest : List (List (Place T))) (given : Option (Place T)) → was.waiting ≡ before ∷ rest → old.offers ≡ []
      → IfSome given (λ offer. before ≡ take 1 after ++ offer ∷ drop 1 after) → IfNone given (after ≡ before)
      → Moves events offers old (record was { waiting = after ∷ rest; offers = option_to_list given })
  may_be_given before after rest (Some offer) waited free cut same = is_given before after rest offer waited free cut
  may_be_given before after rest None waited free cut same =
      stays _ (ap₂ (λ (ws : List (List (Place T))) (os : List (Place T)). record was { waiting = ws; offers = os })
      (ap (λ (ps : List (Place T)). ps ∷ rest) same ∙ sym waited)
      (sym (ap (λ (v : HomeView T L). v.offers) seen ∙ free)))

  pub is_begun : (offer : Place T) (waiting : List (Place T)) (rest : List (List (Place T))) (left : Option (Place T)) → was.waiting ≡ rest → was.offers ≡ offer ∷ []
      → waiting ≡ offer ∷ [] → left ≡ None
      → Moves events offers old (record was { waiting = waiting ∷ rest; offers = option_to_list left })
  is_begun offer waiting rest left waited held waits none =
      from_seen (record was { waiting = waiting ∷ rest; offers = option_to_list left })
      (begin_one events offers was (record was { waiting = waiting ∷ rest; offers = option_to_list left }) offer held
      (ap₂ (λ (w : List (Place T)) (s : Option (Place T)). record was { waiting = w ∷ rest; offers = option_to_list s }) waits none
      ∙ ap (λ (ws : List (List (Place T))). record was { waiting = (offer ∷ []) ∷ ws; offers = [] }) (sym waited)))

  pub is_stolen : (k : ℕ) (thief more : ThiefView T) (thieves : List (ThiefView T)) (offer : Place T) → old.offers ≡ [] → IsTrueOffer offers offer
      → k < length old.thieves → thief ≡ get_or was.thieves k thief → more ≡ record thief { taken = thief.taken ++ offer ∷ [] }
      → thieves ≡ set was.thieves k more
      → Moves events offers old (record was { thieves = thieves; offers = offer ∷ [] })
  is_stolen k thief more thieves offer free known within at grown is =
      from_seen (record was { thieves = thieves; offers = offer ∷ [] })
      (steal_one events offers was (record was { thieves = thieves; offers = offer ∷ [] }) k thief more offer
      (ap (λ (v : HomeView T L). v.offers) seen ∙ free) known
      (subst (λ (v : HomeView T L). k < length v.thieves) (sym seen) within) at grown
      (ap (λ (ts : List (ThiefView T)). record was { thieves = ts; offers = offer ∷ [] }) is))

  pub none_stolen : (k : ℕ) (thief more : ThiefView T) (thieves : List (ThiefView T))
      → k < length old.thieves → thief ≡ get_or was.thieves k thief → more ≡ thief → thieves ≡ set was.thieves k more
      → Moves events offers old (record was { thieves = thieves })
  none_stolen k thief more thieves within at same is =
      stays _ (steal_none events offers was (record was { thieves = thieves }) k thief more
      (subst (λ (v : HomeView T L). k < length v.thieves) (sym seen) within) at same
      (ap (λ (ts : List (ThiefView T)). record was { thieves = ts }) is))

  module _ (step : T → Step T L) (lawful : T → Type 0) (key : IsClosedKey step lawful events offers) where
    pub met_event : (before after : List (Place T)) (rest : List (List (Place T))) (event : Event L) → was.waiting ≡ before ∷ rest → old.events ≡ []
        → FirstGaveWay step before after (event ∷ []) → events_to_come step before ≡ event ∷ events_to_come step after
        → Works events offers step old (record was { waiting = after ∷ rest; events = event ∷ [] })
    met_event before after rest event waited free way met =
        works_seen step (record was { waiting = after ∷ rest; events = event ∷ [] })
        (event_met events offers step lawful was (record was { waiting = after ∷ rest; events = event ∷ [] }) before after rest event key waited
        (ap (λ (v : HomeView T L). v.events) seen ∙ free) way met refl)

    pub met_none : (before after : List (Place T)) (rest : List (List (Place T))) → was.waiting ≡ before ∷ rest
        → FirstGaveWay step before after [] → events_to_come step after ≡ events_to_come step before
        → Works events offers step old (record was { waiting = after ∷ rest })
    met_none before after rest waited way same =
        works_seen step (record was { waiting = after ∷ rest })
        (none_met events offers step lawful was (record was { waiting = after ∷ rest }) before after rest key waited way same refl)

    pub met_all : (before : List (Place T)) (rest : List (List (Place T))) (left : Option (List (Place T))) → was.waiting ≡ before ∷ rest → before ≡ [] → left ≡ None
        → Works events offers step old (record was { waiting = option_to_list left ++ rest })
    met_all before rest left waited none done =
        works_seen step (record was { waiting = option_to_list left ++ rest })
        (all_met events offers step lawful was (record was { waiting = option_to_list left ++ rest }) before rest waited none
        (ap (λ (w : Option (List (Place T))). record was { waiting = option_to_list w ++ rest }) done))

    pub works_none : (left : Option (List (Place T))) (rest : List (List (Place T))) → option_to_list left ++ rest ≡ was.waiting
        → Works events offers step old (record was { waiting = option_to_list left ++ rest })
    works_none left rest same =
        moves_work events offers step old (record was { waiting = option_to_list left ++ rest }) (none_waits left rest same)
