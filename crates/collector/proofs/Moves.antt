-- A walk that goes on to its next path meets the same events.
use Rattle.std.proofs.Common.{◌≡◌, ◌⊎◌, inl, inr, ℕ, true, false, List, [], ◌∷◌, Option, Some, None, IfSome, IsSome, length, refl, sym, ap, ◌∙◌, subst, arith, is_lt, nat_cmp, filter}
use Rattle.std.specs.Cmp.Lexicographic.{slice_cmp}
use Rattle.std.specs.List.{AllByRecursion}
use Rattle.split_paths.specs.declared.event.Event.{Event}
use Rattle.split_paths.specs.Answer.{answer_of}
use Rattle.split_paths.specs.Key.{IsTrueEvent}
use Rattle.split_paths.specs.Walk.{path_of, Visits, HasEventAt}
use Rattle.split_paths.proofs.Lists.{all_weaker, all_contains}
use Rattle.collector.specs.declared.advance.Advance.{Advance}
use Rattle.collector.specs.declared.met.Met.{Met}
use Rattle.collector.specs.declared.met.Position.{Position}
use Rattle.collector.specs.declared.met.Position.TheVariants.{Here, Passed, Ended}
use Rattle.collector.specs.Advances.{Advances}
use Rattle.collector.specs.Moves.{HasSameNotes, StaysSame, GoesOn, HasAdvanced}
use Rattle.collector.specs.Notes.{Notes, event_of, waits_at, is_ahead, agenda_at, IsHome, events_ahead, IsWalk, IsCollector, IsNoted, to_give}
use Rattle.collector.proofs.Ahead.{filter_same, all_from_filter, same_from_next}
use Rattle.collector.proofs.PathOrder.{not_true}
use Rattle.collector.proofs.Walks.{ascends, path_of_event}

pub some_weaker : {A : Type 0} (P Q : A → Type 0) (o : Option A) → IfSome o P → ((x : A) → P x → Q x) → IfSome o Q
some_weaker P Q None holds weaker = tt
some_weaker P Q (Some x) holds weaker = weaker x holds

module _ {L : Type 0} (events : List (Event L)) where
  -- what it is that the event at a path was noted
  abbrev pub NotedAt : Notes L → List ℕ → Type 0
  NotedAt c path =
      IsSome (waits_at c.waiting path) ⊎ (HasEventAt events path × (is_ahead c.position c.cursor path ≡ false))

  -- two walks have the same events of the tree ahead
  abbrev pub IsAlike : Notes L → Notes L → Type 0
  IsAlike c d =
      AllByRecursion (λ (e : Event L). is_ahead c.position c.cursor (path_of e) ≡ is_ahead d.position d.cursor (path_of e)) events

  alike_back : (c d : Notes L) → IsAlike c d → IsAlike d c
  alike_back c d same =
      all_weaker
      (λ (e : Event L). is_ahead c.position c.cursor (path_of e) ≡ is_ahead d.position d.cursor (path_of e))
      (λ (e : Event L). is_ahead d.position d.cursor (path_of e) ≡ is_ahead c.position c.cursor (path_of e))
      (λ e one. sym one) events same

  alike_at : (c d : Notes L) → IsAlike c d → (path : List ℕ) (e : Event L) → IsTrueEvent events e → path_of e ≡ path
      → is_ahead c.position c.cursor path ≡ is_ahead d.position d.cursor path
  alike_at c d same path e of_tree at =
      subst
      (λ (p : List ℕ). is_ahead c.position c.cursor p ≡ is_ahead d.position d.cursor p) at
      (all_contains
      (λ (x : Event L). is_ahead c.position c.cursor (path_of x) ≡ is_ahead d.position d.cursor (path_of x))
      events e same of_tree)

  alike_ahead : (c d : Notes L) → IsAlike c d → events_ahead events d ≡ events_ahead events c
  alike_ahead c d same =
      sym (filter_same
      (λ (e : Event L). is_ahead c.position c.cursor (path_of e))
      (λ (e : Event L). is_ahead d.position d.cursor (path_of e))
      events same)

  alike_noted : (c d : Notes L) → d.waiting ≡ c.waiting → IsAlike c d → (path : List ℕ) → NotedAt c path → NotedAt d path
  alike_noted c d kept same path (inl some) = inl (subst (λ (w : List (List ℕ × Met L)). IsSome (waits_at w path)) (sym kept) some)
  alike_noted c d kept same path (inr (has, passed)) = inr (has, sym (alike_at c d same path has.0 has.1 has.2) ∙ passed)

  alike_waiting : (c d : Notes L) → d.waiting ≡ c.waiting → IsAlike c d → (path : List ℕ)
      → IfSome (waits_at c.waiting path) (λ met. IsTrueEvent events (event_of path met) × (is_ahead c.position c.cursor path ≡ true))
      → IfSome (waits_at d.waiting path) (λ met. IsTrueEvent events (event_of path met) × (is_ahead d.position d.cursor path ≡ true))
  alike_waiting c d kept same path waits =
      subst
      (λ (w : List (List ℕ × Met L)).
      IfSome (waits_at w path) (λ met. IsTrueEvent events (event_of path met) × (is_ahead d.position d.cursor path ≡ true)))
      (sym kept)
      (some_weaker
      (λ (met : Met L). IsTrueEvent events (event_of path met) × (is_ahead c.position c.cursor path ≡ true))
      (λ (met : Met L). IsTrueEvent events (event_of path met) × (is_ahead d.position d.cursor path ≡ true))
      (waits_at c.waiting path) waits
      (λ met both. (both.0, sym (alike_at c d same path (event_of path met) both.0 (path_of_event path met)) ∙ both.1)))

  -- a walk that stands elsewhere, with the same events ahead
  pub moved : (c d : Notes L) → IsWalk events c → d.waiting ≡ c.waiting → IsAlike c d
      → Visits (agenda_at d.position d.cursor d.later) (events_ahead events c) → IsHome d.position d.cursor
      → StaysSame events c d
  unfolding IsCollector IsNoted to_give
  moved c d walk kept same visits home =
      let ahead : events_ahead events d ≡ events_ahead events c = alike_ahead c d same in
      record {
        walk = record {
          ascend = walk.ascend;
          root = walk.root;
          visits = subst (λ (xs : List (Event L)). Visits (agenda_at d.position d.cursor d.later) xs) (sym ahead) visits;
          waiting = λ path. alike_waiting c d kept same path (walk.waiting path);
          home = home;
        };
        noted = record {
          notes = alike_noted c d kept same;
          only = alike_noted d c (sym kept) (alike_back c d same);
        };
        gives = ap answer_of ahead;
        ahead = omega (arith, ap length ahead);
      }

  next_alike : (c d : Notes L) (later : List (List ℕ)) (ahead : List (Event L)) → IsWalk events c
      → events_ahead events c ≡ ahead → c.position ≡ Passed → d.position ≡ Here
      → Visits (d.cursor ∷ later) ahead → IsAlike c d
  next_alike c d later [] walk is passed here visits = cc
  next_alike c d later (e ∷ rest) walk is passed here visits =
      let after : filter (λ (x : Event L). is_lt (slice_cmp nat_cmp c.cursor (path_of x))) events ≡ e ∷ rest =
      subst (λ (p : Position). filter (λ (x : Event L). is_ahead p c.cursor (path_of x)) events ≡ e ∷ rest) passed is in
      subst
      (λ (p : Position).
      AllByRecursion (λ (x : Event L). is_ahead p c.cursor (path_of x) ≡ is_ahead d.position d.cursor (path_of x)) events)
      (sym passed)
      (subst
      (λ (p : Position).
      AllByRecursion (λ (x : Event L). is_lt (slice_cmp nat_cmp c.cursor (path_of x)) ≡ is_ahead p d.cursor (path_of x)) events)
      (sym here)
      (same_from_next events c.cursor d.cursor e rest (ascends events c walk) after visits.0))

  pub goes_next_from : (c d : Notes L) → IsWalk events c → c.position ≡ Passed → d.position ≡ Here → d.waiting ≡ c.waiting
      → c.later ≡ d.cursor ∷ d.later → StaysSame events c d
  goes_next_from c d walk passed here kept next =
      let meets : Visits (d.cursor ∷ d.later) (events_ahead events c) =
      subst (λ (qs : List (List ℕ)). Visits qs (events_ahead events c)) next
      (subst (λ (p : Position). Visits (agenda_at p c.cursor c.later) (events_ahead events c)) passed walk.visits) in
      moved c d walk kept
      (next_alike c d d.later (events_ahead events c) walk refl passed here meets)
      (subst (λ (p : Position). Visits (agenda_at p d.cursor d.later) (events_ahead events c)) (sym here) meets)
      (subst (λ (p : Position). IsHome p d.cursor) (sym here) tt)

  -- a walk that has passed its cursor goes on to its next path
  pub goes_next : (c now d : Notes L) → c ≡ now → IsCollector events now → c.position ≡ Passed → d.position ≡ Here
      → d.waiting ≡ c.waiting → c.later ≡ d.cursor ∷ d.later → StaysSame events now d
  unfolding IsCollector
  goes_next c now d is walk passed here kept next =
      subst (λ (n : Notes L). StaysSame events n d) is
      (goes_next_from c d (subst (λ (n : Notes L). IsWalk events n) (sym is) walk) passed here kept next)

  none_ahead : (ahead : List (Event L)) → Visits [] ahead → ahead ≡ []
  none_ahead [] visits = refl
  none_ahead (e ∷ es) visits = absurd visits

  goes_home_from : (c d : Notes L) → IsWalk events c → c.position ≡ Passed → d.position ≡ Ended → d.waiting ≡ c.waiting
      → c.later ≡ [] → d.cursor ≡ [] → StaysSame events c d
  goes_home_from c d walk passed ended kept none home =
      let meets : Visits [] (events_ahead events c) =
      subst (λ (qs : List (List ℕ)). Visits qs (events_ahead events c)) none
      (subst (λ (p : Position). Visits (agenda_at p c.cursor c.later) (events_ahead events c)) passed walk.visits) in
      let empty : events_ahead events c ≡ [] = none_ahead (events_ahead events c) meets in
      let no : AllByRecursion (λ (x : Event L). is_ahead c.position c.cursor (path_of x) ≡ true → ⊥) events =
      all_from_filter (λ (x : Event L). ⊥) (λ (x : Event L). is_ahead c.position c.cursor (path_of x)) events
      (subst (λ (xs : List (Event L)). AllByRecursion (λ (x : Event L). ⊥) xs) (sym empty) tt) in
      moved c d walk kept
      (subst
      (λ (p : Position).
      AllByRecursion (λ (x : Event L). is_ahead c.position c.cursor (path_of x) ≡ is_ahead p d.cursor (path_of x)) events)
      (sym ended)
      (all_weaker
      (λ (x : Event L). is_ahead c.position c.cursor (path_of x) ≡ true → ⊥)
      (λ (x : Event L). is_ahead c.position c.cursor (path_of x) ≡ false)
      (λ x never. not_true (is_ahead c.position c.cursor (path_of x)) never) events no))
      (subst (λ (p : Position). Visits (agenda_at p d.cursor d.later) (events_ahead events c)) (sym ended) meets)
      (subst (λ (p : Position). IsHome p d.cursor) (sym ended) home)

  -- a walk with no next path has ended
  pub goes_home : (c now d : Notes L) → c ≡ now → IsCollector events now → c.position ≡ Passed → d.position ≡ Ended
      → d.waiting ≡ c.waiting → c.later ≡ [] → d.cursor ≡ [] → StaysSame events now d
  unfolding IsCollector
  goes_home c now d is walk passed ended kept none home =
      subst (λ (n : Notes L). StaysSame events n d) is
      (goes_home_from c d (subst (λ (n : Notes L). IsWalk events n) (sym is) walk) passed ended kept none home)

  pub same_notes : (c : Notes L) → HasSameNotes events c c
  same_notes c = record { notes = λ path noted. noted; only = λ path noted. noted }

  pub same_notes_then : (a b c : Notes L) → HasSameNotes events a b → HasSameNotes events b c → HasSameNotes events a c
  same_notes_then a b c one two =
      record {
        notes = λ path noted. two.notes path (one.notes path noted);
        only = λ path noted. one.only path (two.only path noted);
      }

  pub stays_then : (a b c : Notes L) → StaysSame events a b → StaysSame events b c → StaysSame events a c
  stays_then a b c one two =
      record {
        walk = two.walk;
        noted = same_notes_then a b c one.noted two.noted;
        gives = two.gives ∙ one.gives;
        ahead = omega (arith, one.ahead, two.ahead);
      }

  pub goes_then : (a b c : Notes L) → GoesOn events a b → StaysSame events b c → GoesOn events a c
  goes_then a b c one two =
      record { stays = stays_then a b c one.stays two; fewer = omega (arith, one.fewer, two.ahead) }

  -- what an advance does, after moves that hand out nothing
  pub stays_advances : (a b c : Notes L) (answer : Advance L) → StaysSame events a b → HasAdvanced events b c answer
      → HasAdvanced events a c answer
  stays_advances a b c answer one two =
      record {
        walk = two.walk;
        noted = same_notes_then a b c one.noted two.noted;
        items = subst (λ old. Advances old (to_give events c) c.cursor answer) one.gives two.items;
        waiting = two.waiting;
        known = two.known;
      }
