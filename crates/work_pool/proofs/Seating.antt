-- Workers that are seated, the last first.
use Rattle.std.proofs.Common.{◌≡◌, ◌≢◌, ◌≤◌, ◌<◌, ℕ, zero, suc, ◌+◌, List, [], ◌∷◌, ◌++◌, map, length, length-append, ◌⊎◌, inl, inr, refl, sym, ap, ap₂, ◌∙◌, subst, arith, append_assoc}
use Rattle.std.proofs.lemmas.List.{map-append, length-map}
use Rattle.std.proofs.lemmas.List.Concat.{flat_map-append}
use Rattle.std.specs.List.{AllByRecursion, flat_map}
use native.Mathlib.Decide.{ℕ_discrete}
use Rattle.atomic_table.specs.Seated.{TableId}
use Rattle.event_lanes.specs.Posts.{AreNumbered}
use Rattle.event_lanes.specs.declared.rule.Back.{Back}
use Rattle.event_lanes.specs.Views.{LaneView, back_of}
use Rattle.offer_deck.specs.Views.{DeckId, OwnerView, ThiefView}
use Rattle.split_paths.specs.declared.event.Event.{Event}
use Rattle.work_pool.specs.Homes.{HomeView, decks_of}
use Rattle.work_pool.specs.Rows.{others, Pops, Columns}
use Rattle.work_pool.specs.Seats.{IsNewOwner, IsNewThief, Stock, IsNewDesk, AreDesks}
use Rattle.work_pool.proofs.Covered.{all_left, all_right, all_front, the_last}
use Rattle.work_pool.proofs.Rows.{one_item}
use Rattle.split_paths.proofs.Lists.{all_append, all_weaker}

module _ {T : Type 0} where
  -- what is popped of one column is one thief of its deck
  popped_one : (own k : ℕ) (deck : DeckId) (row rest popped : List (ThiefView T)) → k ≢ own → Pops own k row rest popped
      → (k < own + 1 → length row + 1 ≡ own + 1) → (own + 1 ≤ k → length row ≡ own + 1) → length popped ≡ 1
  popped_one own k deck row rest popped apart pops before after =
      elim (pops.at_other apart) as (λ _. length popped ≡ 1) [
        | inl single ↦ single
        | inr empty ↦ absurd (none_left (ap length empty) (dec_below k (own + 1)))
      ]
    where
      dec_below : (a b : ℕ) → (a < b) ⊎ (b ≤ a)
      dec_below a zero = inr (omega arith)
      dec_below zero (suc b) = inl (omega arith)
      dec_below (suc a) (suc b) = elim (dec_below a b) as (λ _. (suc a < suc b) ⊎ (suc b ≤ suc a)) [
        | inl below ↦ inl (omega arith)
        | inr over ↦ inr (omega arith)
      ]

      none_left : length row ≡ 0 → (k < own + 1) ⊎ (own + 1 ≤ k) → ⊥
      none_left none (inl below) = let n = before below in omega arith
      none_left none (inr over) = let n = after over in omega arith

  split_row : (deck : DeckId) (row rest popped : List (ThiefView T)) → row ≡ rest ++ popped → AllByRecursion (IsNewThief deck) row
      → AllByRecursion (IsNewThief deck) rest × AllByRecursion (IsNewThief deck) popped
  split_row deck row rest popped cut all =
      let both = subst (λ (ts : List (ThiefView T)). AllByRecursion (IsNewThief deck) ts) cut all in
      (all_left (IsNewThief deck) rest popped both, all_right (IsNewThief deck) rest popped both)

  clear_all : (deck : DeckId) (ts : List (ThiefView T)) → AllByRecursion (IsNewThief deck) ts
      → flat_map (λ (t : ThiefView T). t.taken) ts ≡ []
  clear_all deck [] all = refl
  clear_all deck (t ∷ ts) all = ap₂ ◌++◌ all.0.none_taken (clear_all deck ts all.1)

  -- the stock for one worker fewer, and the column took nothing
  pub stock_next : (own k : ℕ) (decks : List DeckId) (rows rests : List (List (ThiefView T))) (column : List (ThiefView T))
      → Stock (own + 1) k decks rows → Columns own k rows rests column
      → Stock own k decks rests × (flat_map (λ (t : ThiefView T). t.taken) column ≡ [])
  stock_next own k [] [] [] column stock none = (tt, ap (flat_map (λ (t : ThiefView T). t.taken)) none)
  stock_next own k [] [] (rest ∷ rests) column stock none = absurd none
  stock_next own k [] (row ∷ rows) rests column stock columns = absurd stock
  stock_next own k (deck ∷ decks) [] rests column stock columns = absurd stock
  stock_next own k (deck ∷ decks) (row ∷ rows) [] column stock columns = absurd columns
  stock_next own k (deck ∷ decks) (row ∷ rows) (rest ∷ rests) column (all, before, after, stock) (popped, later, cut, pops, columns) =
      let more = stock_next own (k + 1) decks rows rests later stock columns in
      let parts = split_row deck row rest popped pops.cut all in
      let long = ap length pops.cut ∙ length-append rest popped in
      let lengths : (k < own → length rest + 1 ≡ own) × (own ≤ k → length rest ≡ own) =
      elim (ℕ_discrete k own) as (λ _. (k < own → length rest + 1 ≡ own) × (own ≤ k → length rest ≡ own)) [
        | yes same ↦
            (let none : length popped ≡ 0 = ap length (pops.at_own same) in
            let was : length row + 1 ≡ own + 1 = before (omega arith) in
            ((λ below. absurd (omega arith)), (λ over. omega arith)))
        | no apart ↦
            (let one = popped_one own k deck row rest popped apart pops before after in
            ((λ below. let was = before (omega arith) in omega arith), (λ over. let was = after (omega arith) in omega arith)))
      ] in (
        (parts.0, lengths.0, lengths.1, more.0),
        ap (flat_map (λ (t : ThiefView T). t.taken)) cut
            ∙ (flat_map-append (λ (t : ThiefView T). t.taken) popped later
            ∙ ap₂ ◌++◌ (clear_all deck popped parts.1) more.1),
      )

  decks_of_one : (deck : DeckId) (popped : List (ThiefView T)) → length popped ≡ 1 → AllByRecursion (IsNewThief deck) popped
      → decks_of popped ≡ deck ∷ []
  decks_of_one deck [] one all = absurd (omega arith)
  decks_of_one deck (t ∷ []) one all = ap (λ (d : DeckId). d ∷ []) all.0.deck_is
  decks_of_one deck (t ∷ u ∷ ts) one all = absurd (omega arith)

  decks_past : (own k : ℕ) (decks : List DeckId) (rows rests : List (List (ThiefView T))) (column : List (ThiefView T)) → own < k
      → Stock (own + 1) k decks rows → Columns own k rows rests column → decks_of column ≡ decks
  decks_past own k [] [] [] column past stock none = ap decks_of none
  decks_past own k [] [] (rest ∷ rests) column past stock none = absurd none
  decks_past own k [] (row ∷ rows) rests column past stock columns = absurd stock
  decks_past own k (deck ∷ decks) [] rests column past stock columns = absurd stock
  decks_past own k (deck ∷ decks) (row ∷ rows) [] column past stock columns = absurd columns
  decks_past own k (deck ∷ decks) (row ∷ rows) (rest ∷ rests) column past (all, before, after, stock) (popped, later, cut, pops, columns) =
      let more = decks_past own (k + 1) decks rows rests later (omega arith) stock columns in
      let one = popped_one own k deck row rest popped (λ e. omega arith) pops before after in
      let here = decks_of_one deck popped one (split_row deck row rest popped pops.cut all).1 in
      ap decks_of cut ∙ (map-append (λ (t : ThiefView T). t.deck) popped later ∙ ap₂ ◌++◌ here more)

  -- the column has one thief of each other deck, in order
  pub decks_dealt : (own k j : ℕ) (decks : List DeckId) (rows rests : List (List (ThiefView T))) (column : List (ThiefView T)) → own ≡ k + j
      → Stock (own + 1) k decks rows → Columns own k rows rests column → decks_of column ≡ others j decks
  decks_dealt own k j [] [] [] column at stock none = ap decks_of none
  decks_dealt own k j [] [] (rest ∷ rests) column at stock none = absurd none
  decks_dealt own k j [] (row ∷ rows) rests column at stock columns = absurd stock
  decks_dealt own k j (deck ∷ decks) [] rests column at stock columns = absurd stock
  decks_dealt own k j (deck ∷ decks) (row ∷ rows) [] column at stock columns = absurd columns
  decks_dealt own k zero (deck ∷ decks) (row ∷ rows) (rest ∷ rests) column at (all, before, after, stock) (popped, later, cut, pops, columns) =
      let more = decks_past own (k + 1) decks rows rests later (omega arith) stock columns in
      let none : popped ≡ [] = pops.at_own (omega arith) in
      ap decks_of cut ∙ (ap (λ (ts : List (ThiefView T)). decks_of (ts ++ later)) none ∙ more)
  decks_dealt own k (suc j) (deck ∷ decks) (row ∷ rows) (rest ∷ rests) column at (all, before, after, stock) (popped, later, cut, pops, columns) =
      let more = decks_dealt own (k + 1) j decks rows rests later (omega arith) stock columns in
      let one = popped_one own k deck row rest popped (λ e. omega arith) pops before after in
      let here = decks_of_one deck popped one (split_row deck row rest popped pops.cut all).1 in
      ap decks_of cut ∙ (map-append (λ (t : ThiefView T). t.deck) popped later ∙ ap₂ ◌++◌ here more)

-- the last lane has the last number
numbered_last : {A : Type 0} (i : ℕ) (backs : List (Back A)) (back : Back A) → AreNumbered i (backs ++ back ∷ [])
    → AreNumbered i backs × (back.lane ≡ i + length backs)
numbered_last i [] back numbered = (tt, (let e = numbered.0 in let f : back.lane ≡ i + 0 = omega arith in f))
numbered_last i (b ∷ backs) back numbered =
    let rest = numbered_last (i + 1) backs back numbered.1 in
    let at = rest.1 in
    ((numbered.0, rest.0), (let e : back.lane ≡ i + length (b ∷ backs) = omega arith in e))

pub lane_numbers : {L : Type 0} (lanes less : List (LaneView L)) (lane : LaneView L) → lanes ≡ less ++ lane ∷ []
    → AreNumbered 0 (map back_of lanes) → AreNumbered 0 (map back_of less) × (lane.number ≡ length less)
lane_numbers {L} lanes less lane cut numbered =
    let all : AreNumbered 0 (map back_of less ++ back_of lane ∷ []) =
    subst (λ (bs : List (Back (Event L))). AreNumbered 0 bs) (ap (map back_of) cut ∙ map-append back_of less (lane ∷ [])) numbered in
    let parts = numbered_last 0 (map back_of less) (back_of lane) all in
    let m : length (map back_of less) ≡ length less = length-map less (λ (l : LaneView L). back_of l) in
    let p : lane.number ≡ 0 + length (map back_of less) = parts.1 in
    (parts.0, (let e : lane.number ≡ length less = omega arith in e))

module _ {T : Type 0} where
  -- one deck more, with thieves for all others
  pub stock_more : (left k : ℕ) (decks : List DeckId) (columns : List (List (ThiefView T))) (deck : DeckId) (column : List (ThiefView T))
      → Stock left k decks columns → k + length decks < left → length column + 1 ≡ left → AllByRecursion (IsNewThief deck) column
      → Stock left k (decks ++ deck ∷ []) (columns ++ column ∷ [])
  stock_more left k [] [] deck column stock within long all = (all, (λ below. long), (λ over. absurd (omega arith)), tt)
  stock_more left k [] (c ∷ columns) deck column stock within long all = absurd stock
  stock_more left k (d ∷ decks) [] deck column stock within long all = absurd stock
  stock_more left k (d ∷ decks) (c ∷ columns) deck column (of_c, before, after, stock) within long all =
      (of_c, before, after, stock_more left (k + 1) decks columns deck column stock (omega arith) long all)

  pub new_thieves : (deck : DeckId) (thieves : List (ThiefView T)) → AllByRecursion (λ (t : ThiefView T). t.deck ≡ deck) thieves
      → AllByRecursion (λ (t : ThiefView T). t.taken ≡ []) thieves → AllByRecursion (IsNewThief deck) thieves
  new_thieves deck [] of_deck empty = tt
  new_thieves deck (t ∷ ts) of_deck empty =
      (record { deck_is = of_deck.0; none_taken = empty.0 }, new_thieves deck ts of_deck.1 empty.1)

abbrev pub deck_list : {T : Type 0} → List (OwnerView T) → List DeckId
deck_list {T} owners = map (λ (o : OwnerView T). o.deck) owners

module _ {T L : Type 0} (hub : TableId) (all : List (OwnerView T)) where
  -- the next worker is seated
  pub seat_next : (owners less : List (OwnerView T)) (owner : OwnerView T) (lanes fewer : List (LaneView L)) (lane : LaneView L)
      (columns rests : List (List (ThiefView T))) (column : List (ThiefView T)) (own : ℕ) (desks : List (HomeView T L))
      → owners ≡ less ++ owner ∷ [] → lanes ≡ fewer ++ lane ∷ [] → length lanes ≡ length owners → own ≡ length less
      → AllByRecursion (λ (l : LaneView L). l.hub ≡ hub) lanes → AreNumbered 0 (map back_of lanes)
      → AllByRecursion (λ (l : LaneView L). l.put ≡ []) lanes → AllByRecursion (IsNewOwner (length all)) owners
      → Stock (length owners) 0 (deck_list all) columns → Columns own 0 columns rests column
      → ((later : List DeckId) × ((deck_list all) ≡ deck_list owners ++ later))
      → AreDesks hub (deck_list all) (length owners) desks
      → AreDesks hub (deck_list all) (length less)
      (record { lane = lane; owner = owner; thieves = column; events = []; waiting = []; offers = [] } ∷ desks)
      × Stock (length less) 0 (deck_list all) rests
      × ((later : List DeckId) × ((deck_list all) ≡ deck_list less ++ later))
  seat_next owners less owner lanes fewer lane columns rests column own desks cut cut_lanes many at hubs numbered empty new stock taken (later, whole) seated =
      let count : length owners ≡ length less + 1 = ap length cut ∙ length-append less (owner ∷ []) in
      let lane_count : length lanes ≡ length fewer + 1 = ap length cut_lanes ∙ length-append fewer (lane ∷ []) in
      let own_count : length owners ≡ own + 1 = omega arith in
      let next = stock_next own 0 (deck_list all) columns rests column (subst (λ (n : ℕ). Stock n 0 (deck_list all) columns) own_count stock) taken in
      let row : decks_of column ≡ others (length less) (deck_list all) =
      decks_dealt own 0 own (deck_list all) columns rests column (let e : own ≡ 0 + own = omega arith in e) (subst (λ (n : ℕ). Stock n 0 (deck_list all) columns) own_count stock) taken
      ∙ ap (λ (n : ℕ). others n (deck_list all)) at in
      let number : lane.number ≡ length less =
      (lane_numbers lanes fewer lane cut_lanes numbered).1 ∙ (let e : length fewer ≡ length less = omega arith in e) in
      let at_deck : (deck_list all) ≡ deck_list less ++ owner.deck ∷ later =
      whole ∙ (ap (λ (os : List (OwnerView T)). deck_list os ++ later) cut
      ∙ (ap (λ (ds : List DeckId). ds ++ later) (map-append (λ (o : OwnerView T). o.deck) less (owner ∷ []))
      ∙ append_assoc (deck_list less) (owner.deck ∷ []) later)) in
      let mine : IsNewOwner (length (deck_list all)) owner =
      subst (λ (n : ℕ). IsNewOwner n owner) (sym (length-map all (λ (o : OwnerView T). o.deck)))
      (the_last (IsNewOwner (length all)) owners less owner new cut) in
      let desk : IsNewDesk hub (deck_list all) (length less)
      (record { lane = lane; owner = owner; thieves = column; events = []; waiting = []; offers = [] }) = record {
        hub_is = the_last (λ (l : LaneView L). l.hub ≡ hub) lanes fewer lane hubs cut_lanes;
        number_is = number;
        none_put = the_last (λ (l : LaneView L). l.put ≡ []) lanes fewer lane empty cut_lanes;
        owner = mine;
        before = deck_list less;
        later = later;
        deck_is = at_deck;
        deck_at = length-map less (λ (o : OwnerView T). o.deck);
        row = row;
        none_stolen = next.1;
        no_events = refl;
        none_waits = refl;
        no_offers = refl;
      } in (
        (desk, subst (λ (n : ℕ). AreDesks hub (deck_list all) n desks) count seated),
        subst (λ (n : ℕ). Stock n 0 (deck_list all) rests) at next.0,
        (owner.deck ∷ later, at_deck),
      )
