-- The lanes of a new hub, made one after the other.
use Rattle.std.proofs.Common.{◌≡◌, ℕ, suc, ◌+◌, List, [], ◌∷◌, ◌++◌, map, length, sym, refl, ap, subst, arith, length-append}
use Rattle.std.proofs.lemmas.List.{map-append}
use Rattle.std.specs.List.{AllByRecursion}
use Rattle.split_paths.proofs.Lists.{all_append}
use Rattle.event_lanes.specs.declared.rule.Back.{Back}
use Rattle.event_lanes.specs.Posts.{AreNumbered}
use Rattle.event_lanes.specs.Views.{HubView, LaneView, back_of}

-- one number more
numbered_more : {A : Type 0} (i : ℕ) (backs : List (Back A)) (next : Back A)
    → AreNumbered i backs → next.lane ≡ i + length backs → AreNumbered i (backs ++ next ∷ [])
numbered_more i [] next numbered own = (let same : next.lane ≡ i + 0 = own in omega arith, tt)
numbered_more i (back ∷ backs) next numbered own = (
  numbered.0,
  numbered_more (i + 1) backs next numbered.1
      (let same : next.lane ≡ i + suc (length backs) = own in omega arith),
)

length-map : {A B : Type 0} (f : A → B) (xs : List A) → length (map f xs) ≡ length xs
length-map f [] = refl
length-map f (x ∷ xs) = ap suc (length-map f xs)

module _ {L : Type 0} where
  -- the lanes from 0 to a number, of so many in all
  pub record AreDealt (hub : HubView) (lanes : List (LaneView L)) (count number : ℕ) : Type 0 where
    pub hubs : AllByRecursion (λ (lane : LaneView L). lane.hub ≡ hub.name) lanes
    pub counts : AllByRecursion (λ (lane : LaneView L). lane.lanes ≡ count) lanes
    pub numbered : AreNumbered 0 (map back_of lanes)
    pub empty : AllByRecursion (λ (lane : LaneView L). lane.put ≡ []) lanes
    pub all : length lanes ≡ number

  pub dealt_more : (hub : HubView) (lanes : List (LaneView L)) (count number : ℕ) (next : LaneView L)
      → AreDealt hub lanes count number
      → next ≡ record { hub = hub.name; lanes = count; number = number; put = [] }
      → AreDealt hub (lanes ++ next ∷ []) count (number + 1)
  dealt_more hub lanes count number next dealt is =
      record {
        hubs = all_append _ lanes (next ∷ []) dealt.hubs (ap (λ (lane : LaneView L). lane.hub) is, tt);
        counts = all_append _ lanes (next ∷ []) dealt.counts (ap (λ (lane : LaneView L). lane.lanes) is, tt);
        numbered =
            subst (AreNumbered 0) (sym (map-append back_of lanes (next ∷ [])))
            (numbered_more 0 (map back_of lanes) (back_of next) dealt.numbered
            (let own : next.number ≡ number = ap (λ (lane : LaneView L). lane.number) is in
            let long : length (map (λ (lane : LaneView L). back_of lane) lanes) ≡ length lanes = length-map back_of lanes in
            let all : length lanes ≡ number = dealt.all in omega arith));
        empty = all_append _ lanes (next ∷ []) dealt.empty (ap (λ (lane : LaneView L). lane.put) is, tt);
        all = (let all : length lanes ≡ number = dealt.all in
            let one : length (next ∷ []) ≡ 1 = refl in omega (arith, length-append lanes (next ∷ [])));
      }
