-- Where a walk begins, waits, and ends.
use Rattle.std.proofs.Common.{◌≡◌, inl, inr, ℕ, true, false, List, [], ◌∷◌, Option, Some, None, IsSome, is_some, refl, sym, ap, ◌∙◌, subst, arith, is_le, nat_cmp, filter}
use Rattle.std.specs.Cmp.Lexicographic.{slice_cmp}
use Rattle.std.specs.List.{AllByRecursion, AllPairs}
use Rattle.split_paths.specs.declared.event.Event.{Event}
use Rattle.split_paths.specs.declared.event.Event.TheVariants as event
use Rattle.split_paths.specs.declared.event.Outcome.TheVariants as outcome
use Rattle.split_paths.specs.declared.event.Why.{Why}
use Rattle.split_paths.specs.declared.event.Why.TheVariants as why
use Rattle.split_paths.specs.Answer.{answer_of, stopped_at}
use Rattle.split_paths.specs.Key.{IsTreeKey}
use Rattle.split_paths.specs.Paths.{IsBefore}
use Rattle.split_paths.specs.Places.{Place}
use Rattle.split_paths.specs.Tree.{events_of}
use Rattle.split_paths.specs.Walk.{path_of, Visits, HasEventAt}
use Rattle.split_paths.proofs.EventOrder.{IsEarlier, events_ascend}
use Rattle.split_paths.proofs.Lists.{all_weaker, all_always, pairs_from_Ascends}
use Rattle.split_paths.proofs.Walks.{visits_tree}
use Rattle.collector.specs.declared.advance.Advance.TheVariants.{Waiting, Finished, Stopped}
use Rattle.collector.specs.declared.met.Met.{Met}
use Rattle.collector.specs.declared.met.Met.TheVariants.{Split, Gone, Chain, Stop}
use Rattle.collector.specs.declared.met.Position.{Position}
use Rattle.collector.specs.declared.met.Position.TheVariants.{Here, Passed, Ended}
use Rattle.collector.specs.Advances.{IsFrom}
use Rattle.collector.specs.Moves.{LacksFirst, HasAdvanced, IsSettled, stop_of}
use Rattle.collector.specs.Notes.{Notes, event_of, waits_at, is_ahead, IsHome, events_ahead, IsWalk, IsCollector, IsNoted, to_give}
use Rattle.collector.proofs.Ahead.{filter_all, filter_none, filter_test}
use Rattle.collector.proofs.Moves.{NotedAt, same_notes}
use Rattle.collector.proofs.PathOrder.{at_itself, after_before, from_root}
use Rattle.collector.proofs.Walks.{meets_first, waits_as_met}

-- nothing of an answer is before a path, where none of its events is
answer_from : {L : Type 0} (q : List ℕ) (xs : List (Event L)) → AllByRecursion (λ (e : Event L). ¬ IsBefore (path_of e) q) xs
    → IsFrom q (answer_of xs)
answer_from q [] all = (tt, tt)
answer_from q (event.Split path kids ∷ xs) all = answer_from q xs all.1
answer_from q (event.Leaf path outcome.Gone ∷ xs) all = answer_from q xs all.1
answer_from q (event.Leaf path (outcome.Chain leaf) ∷ xs) all =
    let others = answer_from q xs all.1 in ((all.0, others.0), others.1)
answer_from q (event.Leaf path outcome.Steps ∷ xs) all = (tt, all.0)
answer_from q (event.Leaf path outcome.TooWide ∷ xs) all = (tt, all.0)

stops_there : {L : Type 0} (q : List ℕ) (met : Met L) (cause : Why) (xs : List (Event L)) → stop_of met ≡ Some cause
    → answer_of (event_of q met ∷ xs) ≡ stopped_at q cause
stops_there q (Split kids) cause xs stops = cc
stops_there q Gone cause xs stops = cc
stops_there q (Chain leaf) cause xs stops = cc
stops_there q (Stop why.Steps) cause xs stops = let same : why.Steps ≡ cause = cc in ap (stopped_at q) same
stops_there q (Stop why.Size) cause xs stops = let same : why.Size ≡ cause = cc in ap (stopped_at q) same

-- a walk that is settled and hasn't ended stands before an event
pub stands_here : (p : Position) → IsSettled p → ¬ (p ≡ Ended) → p ≡ Here
stands_here Here settled going = refl
stands_here Passed settled going = absurd settled
stands_here Ended settled going = absurd (going refl)

from_not_before : (p q : List ℕ) → is_le (slice_cmp nat_cmp q p) ≡ true → ¬ IsBefore p q
from_not_before p q from less =
    let no : is_le (slice_cmp nat_cmp q p) ≡ false = ap is_le (after_before p q less) in
    let bad : true ≡ false = sym from ∙ no in cc

first_of_root : {L : Type 0} (q : List ℕ) (events : List (Event L)) → Visits (q ∷ []) events → HasEventAt events q
first_of_root q [] visits = cc
first_of_root q (e ∷ es) visits = (e, (0, omega arith, refl), visits.0)

-- where a walk begins
abbrev pub beginning : {L : Type 0} → Notes L
beginning = record { waiting = []; cursor = []; later = []; position = Here }

pub is_beginning : {L : Type 0} (c : Notes L) → c.waiting ≡ [] → c.cursor ≡ [] → c.later ≡ [] → c.position ≡ Here → beginning ≡ c
is_beginning c waiting cursor later position = sym (rw (waiting, cursor, later, position) refl)

module _ {T L : Type 0} (events : List (Event L)) (offers : List (Place T)) (key : IsTreeKey events offers) where
  all_ahead : events_ahead events beginning ≡ events
  all_ahead =
      filter_all (λ (e : Event L). is_le (slice_cmp nat_cmp [] (path_of e))) events
      (all_always (λ (e : Event L). is_le (slice_cmp nat_cmp [] (path_of e)) ≡ true) (λ e. from_root (path_of e)) events)

  whole_visits : Visits ([] ∷ []) events
  whole_visits =
      subst (λ (es : List (Event L)). Visits ([] ∷ []) es) (sym key.same_events)
      (subst (λ (q : List ℕ). Visits (q ∷ []) (events_of key.step key.root)) key.whole (visits_tree key.step key.root))

  pub begins : IsCollector events beginning
  unfolding IsCollector
  begins =
      record {
        ascend =
            subst (λ (es : List (Event L)). AllPairs (λ (e f : Event L). IsEarlier e f) es) (sym key.same_events)
            (pairs_from_Ascends (λ (e f : Event L). IsEarlier e f) (events_of key.step key.root) (events_ascend key.step key.root));
        root = first_of_root [] events whole_visits;
        visits = subst (λ (es : List (Event L)). Visits ([] ∷ []) es) (sym all_ahead) whole_visits;
        waiting = λ path. tt;
        home = tt;
      }

  pub begins_whole : to_give events beginning ≡ answer_of events
  unfolding to_give
  begins_whole = ap answer_of all_ahead

  pub begins_from : (c : Notes L) → c.waiting ≡ [] → c.cursor ≡ [] → c.later ≡ [] → c.position ≡ Here → IsCollector events c
  begins_from c waiting cursor later position =
      subst (λ (n : Notes L). IsCollector events n) (is_beginning c waiting cursor later position) begins

  pub begins_whole_from : (c : Notes L) → c.waiting ≡ [] → c.cursor ≡ [] → c.later ≡ [] → c.position ≡ Here
      → to_give events c ≡ answer_of events
  begins_whole_from c waiting cursor later position =
      subst (λ (n : Notes L). to_give events n ≡ answer_of events) (is_beginning c waiting cursor later position) begins_whole

begins_empty : {L : Type 0} (events : List (Event L)) (path : List ℕ) → ¬ IsNoted events beginning path
unfolding IsNoted
begins_empty events path noted = elim noted [
  | inl some ↦ let bad : false ≡ true = some in cc
  | inr past ↦ let bad : true ≡ false = sym (from_root path) ∙ past.1 in cc
]

pub begins_empty_from : {L : Type 0} (events : List (Event L)) (c : Notes L) → c.waiting ≡ [] → c.cursor ≡ []
    → c.later ≡ [] → c.position ≡ Here → (path : List ℕ) → ¬ IsNoted events c path
begins_empty_from {L} events c waiting cursor later position path =
    subst (λ (n : Notes L). ¬ IsNoted events n path) (is_beginning c waiting cursor later position) (begins_empty events path)

module _ {L : Type 0} (events : List (Event L)) where
  absent : (c : Notes L) → c.position ≡ Here → waits_at c.waiting c.cursor ≡ None → ¬ NotedAt events c c.cursor
  absent c here none (inl some) =
      let bad : false ≡ true = subst (λ (o : Option (Met L)). IsSome o) none some in cc
  absent c here none (inr (has, passed)) =
      let no : is_le (slice_cmp nat_cmp c.cursor c.cursor) ≡ false = subst (λ (p : Position). is_ahead p c.cursor c.cursor ≡ false) here passed in
      let yes : is_le (slice_cmp nat_cmp c.cursor c.cursor) ≡ true = ap is_le (at_itself c.cursor) in
      let bad : true ≡ false = sym yes ∙ no in cc

  lacks_first : (c : Notes L) → IsWalk events c → c.position ≡ Here → waits_at c.waiting c.cursor ≡ None → LacksFirst events c
  unfolding IsNoted to_give
  lacks_first c walk here none =
      let first = meets_first events c walk here in
      record {
        has = (first.event, first.of_tree, first.at);
        missing = absent c here none;
        before = λ e of_tree less.
            inr (
              (e, of_tree, refl),
              subst (λ (p : Position). is_ahead p c.cursor (path_of e) ≡ false) (sym here)
                  (ap is_le (after_before (path_of e) c.cursor less)),
            );
        ready =
            answer_from c.cursor (events_ahead events c)
            (all_weaker
            (λ (e : Event L). is_ahead c.position c.cursor (path_of e) ≡ true)
            (λ (e : Event L). ¬ IsBefore (path_of e) c.cursor)
            (λ e ahead. from_not_before (path_of e) c.cursor
            (subst (λ (p : Position). is_ahead p c.cursor (path_of e) ≡ true) here ahead))
            (events_ahead events c)
            (filter_test (λ (e : Event L). is_ahead c.position c.cursor (path_of e)) events));
      }

  -- a walk waits where the event at its cursor is missing
  pub waits : (c : Notes L) → IsCollector events c → c.position ≡ Here → waits_at c.waiting c.cursor ≡ None
      → HasAdvanced events c c Waiting
  unfolding IsCollector
  waits c walk here none =
      record {
        walk = walk;
        noted = same_notes events c;
        items = refl;
        waiting = lacks_first c walk here none;
        known = tt;
      }

  -- a walk is stopped where the leaf at its cursor stops the answer
  pub is_stopped : (c : Notes L) (met : Met L) (why : Why) → IsCollector events c → c.position ≡ Here
      → waits_at c.waiting c.cursor ≡ Some met → stop_of met ≡ Some why → HasAdvanced events c c (Stopped why)
  unfolding IsCollector to_give IsNoted
  is_stopped c met why walk here at stops =
      let first = meets_first events c walk here in
      let ahead : events_ahead events c ≡ event_of c.cursor met ∷ first.rest =
      first.ahead ∙ ap (λ (e : Event L). e ∷ first.rest) (waits_as_met events c met walk here at) in
      record {
        walk = walk;
        noted = same_notes events c;
        items = (ap answer_of ahead ∙ stops_there c.cursor met why first.rest stops, refl);
        waiting = tt;
        known = inl (ap is_some at);
      }

  -- a walk that has ended is finished
  pub is_finished : (c : Notes L) → IsCollector events c → c.position ≡ Ended → HasAdvanced events c c Finished
  unfolding IsCollector to_give IsNoted
  is_finished c walk ended =
      let home : c.cursor ≡ [] = subst (λ (p : Position). IsHome p c.cursor) ended walk.home in
      let none : events_ahead events c ≡ [] =
      ap (λ (p : Position). filter (λ (e : Event L). is_ahead p c.cursor (path_of e)) events) ended ∙ filter_none events in
      record {
        walk = walk;
        noted = same_notes events c;
        items = (ap answer_of none, refl, home);
        waiting = tt;
        known =
            inr (
              subst (λ (p : List ℕ). HasEventAt events p) (sym home) walk.root,
              ap (λ (p : Position). is_ahead p c.cursor c.cursor) ended,
            );
      }
