-- Where a walk stands, and what waits for it.
use Rattle.std.proofs.Common.{◌≡◌, ℕ, true, false, List, [], ◌∷◌, ◌++◌, Option, Some, None, IfSome, IsSome, is_some, Contains, refl, sym, ap, ◌∙◌, subst, is_le, is_gt, nat_cmp, Ordering}
use Rattle.std.specs.Cmp.Lexicographic.{slice_cmp}
use Rattle.std.specs.List.{AllByRecursion}
use Rattle.std.specs.declared.cmp.Ordering.TheVariants.{Less, Equal, Greater}
use Rattle.split_paths.specs.declared.event.Event.{Event}
use Rattle.split_paths.specs.declared.event.Why.TheVariants as why
use Rattle.split_paths.specs.Key.{IsTrueEvent}
use Rattle.split_paths.specs.Walk.{path_of, paths_below, HasKids, Visits}
use Rattle.split_paths.proofs.EventOrder.{IsEarlier, known_from_Ascends}
use Rattle.split_paths.proofs.Lists.{Ascends}
use Rattle.collector.specs.declared.met.Met.{Met}
use Rattle.collector.specs.declared.met.Met.TheVariants.{Split, Gone, Chain, Stop}
use Rattle.collector.specs.declared.met.Position.{Position}
use Rattle.collector.specs.declared.met.Position.TheVariants.{Here}
use Rattle.collector.specs.Notes.{Notes, event_of, waits_at, is_ahead, agenda_at, events_ahead, IsWalk}
use Rattle.collector.proofs.PathOrder.{neither_after}
use Rattle.collector.proofs.Ahead.{Ascends-from_pairs, ahead_contained}

pub some_is : {A : Type 0} (P : A → Type 0) (o : Option A) (x : A) → IfSome o P → o ≡ Some x → P x
some_is P o x holds is = subst (λ (p : Option _). IfSome p P) is holds

pub path_of_event : {L : Type 0} (path : List ℕ) (met : Met L) → path_of (event_of path met) ≡ path
path_of_event path (Split kids) = refl
path_of_event path Gone = refl
path_of_event path (Chain leaf) = refl
path_of_event path (Stop why.Steps) = refl
path_of_event path (Stop why.Size) = refl

not_gt_le : (o : Ordering) → is_gt o ≡ false → is_le o ≡ true
not_gt_le Less e = refl
not_gt_le Equal e = refl
not_gt_le Greater e = cc

module _ {L : Type 0} (events : List (Event L)) where
  pub ascends : (c : Notes L) → IsWalk events c → Ascends (λ (e f : Event L). IsEarlier e f) events
  ascends c walk = Ascends-from_pairs (λ (e f : Event L). IsEarlier e f) events walk.ascend

  -- what a walk that stands before an event is to meet
  pub record MeetsFirst (c : Notes L) : Type 0 where
    pub event : Event L
    pub rest : List (Event L)
    pub ahead : events_ahead events c ≡ event ∷ rest
    pub at : path_of event ≡ c.cursor
    pub kids : HasKids event
    pub then : Visits (paths_below event ++ c.later) rest
    pub of_tree : IsTrueEvent events event

  first_met : (c : Notes L) (ahead : List (Event L)) → events_ahead events c ≡ ahead → Visits (c.cursor ∷ c.later) ahead → MeetsFirst c
  first_met c [] is visits = cc
  first_met c (e ∷ es) is visits =
      let of_tree : AllByRecursion (Contains events) (e ∷ es) =
      subst (λ (xs : List (Event L)). AllByRecursion (Contains events) xs) is
      (ahead_contained (λ (x : Event L). is_ahead c.position c.cursor (path_of x)) events) in
      record { event = e; rest = es; ahead = is; at = visits.0; kids = visits.1; then = visits.2; of_tree = of_tree.0 }

  pub meets_first : (c : Notes L) → IsWalk events c → c.position ≡ Here → MeetsFirst c
  meets_first c walk here =
      first_met c (events_ahead events c) refl
      (subst (λ (p : Position). Visits (agenda_at p c.cursor c.later) (events_ahead events c)) here walk.visits)

  -- what waits at the cursor is what is met there
  pub waits_as_met : (c : Notes L) (met : Met L) → (walk : IsWalk events c) (here : c.position ≡ Here)
      → waits_at c.waiting c.cursor ≡ Some met → (meets_first c walk here).event ≡ event_of c.cursor met
  waits_as_met c met walk here waits =
      let true_event = some_is _ (waits_at c.waiting c.cursor) met (walk.waiting c.cursor) waits in
      let first = meets_first c walk here in
      known_from_Ascends events (ascends c walk) first.event (event_of c.cursor met) first.of_tree true_event.0
      (first.at ∙ sym (path_of_event c.cursor met))

  -- the first that waits is at the cursor, if anything is
  pub first_waits : (c : Notes L) (path : List ℕ) (met : Met L) → IsWalk events c → c.position ≡ Here
      → waits_at c.waiting path ≡ Some met
      → ((q : List ℕ) → IsSome (waits_at c.waiting q) → is_gt (slice_cmp nat_cmp path q) ≡ false)
      → IsSome (waits_at c.waiting c.cursor) → path ≡ c.cursor
  first_waits c path met walk here waits least some =
      let ahead = some_is _ (waits_at c.waiting path) met (walk.waiting path) waits in
      let from : is_le (slice_cmp nat_cmp c.cursor path) ≡ true = subst (λ (p : Position). is_ahead p c.cursor path ≡ true) here ahead.1 in
      neither_after path c.cursor (not_gt_le (slice_cmp nat_cmp path c.cursor) (least c.cursor some)) from

  absent_by : (c : Notes L) (path : List ℕ) (met : Met L) → IsWalk events c → c.position ≡ Here
      → waits_at c.waiting path ≡ Some met
      → ((q : List ℕ) → IsSome (waits_at c.waiting q) → is_gt (slice_cmp nat_cmp path q) ≡ false)
      → ¬ (path ≡ c.cursor) → (o : Option (Met L)) → waits_at c.waiting c.cursor ≡ o → waits_at c.waiting c.cursor ≡ None
  absent_by c path met walk here waits least apart None is = is
  absent_by c path met walk here waits least apart (Some x) is =
      absurd (apart (first_waits c path met walk here waits least (ap is_some is)))

  pub absent_here : (c : Notes L) (path : List ℕ) (met : Met L) → IsWalk events c → c.position ≡ Here
      → waits_at c.waiting path ≡ Some met
      → ((q : List ℕ) → IsSome (waits_at c.waiting q) → is_gt (slice_cmp nat_cmp path q) ≡ false)
      → ¬ (path ≡ c.cursor) → waits_at c.waiting c.cursor ≡ None
  absent_here c path met walk here waits least apart =
      absent_by c path met walk here waits least apart (waits_at c.waiting c.cursor) refl
