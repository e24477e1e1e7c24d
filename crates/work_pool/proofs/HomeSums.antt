-- Homes that are added.
use Rattle.std.proofs.Common.{◌≡◌, ℕ, zero, suc, ◌+◌, List, [], ◌∷◌, ◌++◌, map, length, length-append, refl, sym, ap, ◌∙◌, subst, arith, append_assoc, append-nil}
use Rattle.std.proofs.lemmas.List.Sums.{sum_by-append}
use Rattle.std.proofs.lemmas.List.Concat.{flat_map-append}
use Rattle.std.proofs.lemmas.List.{map-append, length-map}
use Rattle.std.specs.List.{AllByRecursion, flat_map, sum_by}
use Rattle.split_paths.specs.declared.event.Event.{Event}
use Rattle.split_paths.specs.declared.splitter.Step.{Step}
use Rattle.split_paths.specs.Key.{IsTrueEvent, IsTrueOffer}
use Rattle.split_paths.specs.Places.{Place}
use Rattle.split_paths.specs.Tree.{events_of, events_to_come}
use Rattle.split_paths.proofs.Lists.{all_append}
use Rattle.account_laws.specs.Accounts.{Account, IsBalanced}
use Rattle.event_lanes.specs.declared.rule.Back.{Back}
use Rattle.event_lanes.specs.Posts.{AreNumbered}
use Rattle.account_laws.proofs.Accounts.{in_numbers, from_numbers, weigh, weigh-append}
use Rattle.work_pool.specs.Closing.{recalled, stolen, made_of}
use Rattle.work_pool.specs.Homes.{HomesView, HomeView, with_home, account_of, account_at, AreHome, IsHomeOf}
use Rattle.work_pool.specs.Rows.{others, AreRows}
use Rattle.event_lanes.specs.Views.{LaneView, back_of}
use Rattle.atomic_table.specs.Seated.{TableId}
use Rattle.offer_deck.specs.Views.{DeckId, OwnerView, ThiefView}
use Rattle.work_pool.proofs.Covered.{flat_last}

-- two lists that begin one list and are of one length are one
same_front : {D : Type 0} (xs ys rest more : List D) → xs ++ rest ≡ ys ++ more → length xs ≡ length ys → (xs ≡ ys) × (rest ≡ more)
same_front [] [] rest more e n = (refl, e)
same_front [] (y ∷ ys) rest more e n = absurd (omega arith)
same_front (x ∷ xs) [] rest more e n = absurd (omega arith)
same_front (x ∷ xs) (y ∷ ys) rest more e n =
    let tail : xs ++ rest ≡ ys ++ more = cc in
    let head : x ≡ y = cc in
    let later = same_front xs ys rest more tail (omega arith) in
    (ap (λ (z : _). z ∷ xs) head ∙ ap (λ (zs : List _). y ∷ zs) later.0, later.1)

numbered_more : {A : Type 0} (i : ℕ) (backs : List (Back A)) (back : Back A) → AreNumbered i backs → back.lane ≡ i + length backs
    → AreNumbered i (backs ++ back ∷ [])
numbered_more i [] back numbered is = (let e : back.lane ≡ i = omega arith in e, tt)
numbered_more i (b ∷ backs) back numbered is = (numbered.0, numbered_more (i + 1) backs back numbered.1 (omega arith))

rows_more : {A D : Type 0} (deck : A → D) (i : ℕ) (rows : List (List A)) (row : List A) (ds : List D) → AreRows deck i rows ds
    → map deck row ≡ others (i + length rows) ds → AreRows deck i (rows ++ row ∷ []) ds
rows_more deck i [] row ds fits is =
    (is ∙ (let n : i + 0 ≡ i = omega arith in ap (λ (k : ℕ). others k ds) n), tt)
rows_more deck i (r ∷ rows) row ds fits is =
    (fits.0, rows_more deck (i + 1) rows row ds fits.1 (is ∙ (let n : i + length (r ∷ rows) ≡ (i + 1) + length rows = omega arith in ap (λ (k : ℕ). others k ds) n)))

module _ {T L : Type 0} (step : T → Step T L) where
  balanced_more : (starts more : List (Event L)) (homes : HomesView T L) (home : HomeView T L)
      → IsBalanced step starts (account_of step homes) → IsBalanced step more (account_at step home)
      → IsBalanced step (starts ++ more) (account_of step (with_home homes home))
  balanced_more starts more homes home of_homes of_home =
      from_numbers step (starts ++ more) (account_of step (with_home homes home)) (λ h.
      let one = in_numbers step starts (account_of step homes) of_homes h in
      let two = in_numbers step more (account_at step home) of_home h in
      let begun = sum_by-append h starts more in
      let put = ap (sum_by h) (flat_last (λ (lane : LaneView L). lane.put) (homes.lanes ++ home.lane ∷ []) homes.lanes home.lane refl)
      ∙ sum_by-append h (flat_map (λ (lane : LaneView L). lane.put) homes.lanes) home.lane.put in
      let made = ap (weigh step h) (flat_last (λ (o : OwnerView T). o.made) (homes.owners ++ home.owner ∷ []) homes.owners home.owner refl)
      ∙ weigh-append step h (made_of homes.owners) home.owner.made in
      let own = ap (weigh step h) (flat_last (λ (o : OwnerView T). o.taken) (homes.owners ++ home.owner ∷ []) homes.owners home.owner refl)
      ∙ weigh-append step h (recalled homes.owners) home.owner.taken in
      let stole = ap (weigh step h) (flat_last (flat_map (λ (t : ThiefView T). t.taken)) (homes.rows ++ home.thieves ∷ []) homes.rows home.thieves refl)
      ∙ weigh-append step h (stolen homes.rows) (flat_map (λ (t : ThiefView T). t.taken) home.thieves) in
      let t1 = weigh-append step h (recalled homes.owners) (stolen homes.rows) in
      let t2 = weigh-append step h home.owner.taken (flat_map (λ (t : ThiefView T). t.taken) home.thieves) in
      let t3 = weigh-append step h (recalled (homes.owners ++ home.owner ∷ [])) (stolen (homes.rows ++ home.thieves ∷ [])) in
      let at = λ (es : List (Event L)) (ws : List (List (Place T))) (os : List (Place T)).
      sum_by-append h es (flat_map (events_to_come step) ws ++ events_to_come step os)
      ∙ ap (λ (n : ℕ). sum_by h es + n) (sum_by-append h (flat_map (events_to_come step) ws) (events_to_come step os)) in
      let a1 = at homes.events homes.waiting homes.offers in
      let a2 = at home.events home.waiting home.offers in
      let a3 = at (homes.events ++ home.events) (homes.waiting ++ home.waiting) (homes.offers ++ home.offers) in
      let e = sum_by-append h homes.events home.events in
      let w = ap (sum_by h) (flat_map-append (events_to_come step) homes.waiting home.waiting)
      ∙ sum_by-append h (flat_map (events_to_come step) homes.waiting) (flat_map (events_to_come step) home.waiting) in
      let o = weigh-append step h homes.offers home.offers in
      omega arith)

  pub home_added : (events : List (Event L)) (offers : List (Place T)) (hub : TableId) (decks : List DeckId) (starts more : List (Event L))
      (homes : HomesView T L) (home : HomeView T L)
      → AreHome step events offers hub decks starts homes
      → IsHomeOf step events offers hub decks (length homes.owners) more home
      → AreHome step events offers hub decks (starts ++ more) (with_home homes home)
  home_added events offers hub decks starts more homes home all one =
      let lane_count = length-append homes.lanes (home.lane ∷ []) in
      let owner_count = length-append homes.owners (home.owner ∷ []) in
      let row_count = length-append homes.rows (home.thieves ∷ []) in
      let lanes = all.lanes in let count = all.count in
      let fronts = same_front (map (λ (o : OwnerView T). o.deck) homes.owners) one.before all.later (home.owner.deck ∷ one.later)
      (sym all.decks_are ∙ one.deck_is) (length-map homes.owners (λ (o : OwnerView T). o.deck) ∙ sym one.deck_at) in
      record {
        balanced = balanced_more starts more homes home all.balanced one.balanced;
        hubs = all_append (λ (lane : LaneView L). lane.hub ≡ hub) homes.lanes (home.lane ∷ []) all.hubs (one.hub_is, tt);
        numbered = subst (AreNumbered 0) (sym (map-append back_of homes.lanes (home.lane ∷ [])))
            (numbered_more 0 (map back_of homes.lanes) (back_of home.lane) all.numbered
            (one.number_is ∙ (let m = length-map homes.lanes (λ (lane : LaneView L). back_of lane) in let e : length homes.owners ≡ 0 + length (map back_of homes.lanes) = omega arith in e)));
        lanes = omega arith;
        later = one.later;
        decks_are = all.decks_are ∙ (ap (λ (ds : List DeckId). map (λ (o : OwnerView T). o.deck) homes.owners ++ ds) fronts.1
            ∙ (sym (append_assoc (map (λ (o : OwnerView T). o.deck) homes.owners) (home.owner.deck ∷ []) one.later)
            ∙ ap (λ (ds : List DeckId). ds ++ one.later) (sym (map-append (λ (o : OwnerView T). o.deck) homes.owners (home.owner ∷ [])))));
        rows = rows_more (λ (t : ThiefView T). t.deck) 0 homes.rows home.thieves decks all.rows
            (one.row ∙ (let n : length homes.owners ≡ 0 + length homes.rows = omega arith in ap (λ (k : ℕ). others k decks) n));
        count = omega arith;
        thieves = all_append (λ (o : OwnerView T). o.thieves + 1 ≡ length decks) homes.owners (home.owner ∷ []) all.thieves (one.thieves, tt);
        true_events = all_append (IsTrueEvent events) homes.events home.events all.true_events one.desk.true_events;
        true_waiting = all_append (AllByRecursion (IsTrueOffer offers)) homes.waiting home.waiting all.true_waiting one.desk.true_waiting;
        true_offers = all_append (IsTrueOffer offers) homes.offers home.offers all.true_offers one.desk.true_offers;
      }

  -- the home of a worker that started with nothing
  pub next_added : (events : List (Event L)) (offers : List (Place T)) (hub : TableId) (decks : List DeckId) (starts : List (Event L))
      (homes now : HomesView T L) (home : HomeView T L) → now ≡ with_home homes home
      → AreHome step events offers hub decks starts homes
      → IsHomeOf step events offers hub decks (length homes.owners) [] home
      → AreHome step events offers hub decks starts now
  next_added events offers hub decks starts homes now home is all one =
      subst (λ (h : HomesView T L). AreHome step events offers hub decks starts h) (sym is)
      (subst (λ (es : List (Event L)). AreHome step events offers hub decks es (with_home homes home)) (append-nil starts)
      (home_added events offers hub decks starts [] homes home all one))
