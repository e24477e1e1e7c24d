-- An event that is noted waits until the walk comes to it.
use Rattle.std.proofs.Common.{◌≡◌, ◌⊎◌, inl, inr, ℕ, ◌<◌, ◌≤◌, Bool, true, false, cond, not, ◌||◌, List, Option, Some, None, IfSome, IsSome, is_some, refl, sym, ap, ◌∙◌, subst, arith, is_eq, nat_cmp, Ordering, length}
use Rattle.std.specs.Cmp.Lexicographic.{slice_cmp}
use Rattle.std.specs.BTreeMap.{is_at}
use Rattle.std.specs.declared.cmp.Ordering.TheVariants.{Less, Equal, Greater}
use Rattle.split_paths.specs.declared.event.Event.{Event}
use Rattle.split_paths.specs.Answer.{answer_of}
use Rattle.split_paths.specs.Key.{IsTrueEvent}
use Rattle.split_paths.specs.Walk.{path_of}
use Rattle.collector.specs.declared.met.Met.{Met}
use Rattle.collector.specs.Moves.{HasNoted}
use Rattle.collector.specs.Notes.{Notes, event_of, waits_at, is_ahead, events_ahead, HasRoom, IsWalk, IsCollector, IsNoted, Keeps, to_give}
use Rattle.collector.proofs.Moves.{NotedAt}
use Rattle.collector.proofs.PathOrder.{same_path, at_itself}
use Rattle.collector.proofs.Walks.{path_of_event}

-- this is what waits at a path now, and at any other what did
abbrev pub Puts : {L : Type 0} → List ℕ → Met L → List (List ℕ × Met L) → List (List ℕ × Met L) → Type 0
Puts path met before after =
    (p : List ℕ) → waits_at after p ≡ cond (is_at (slice_cmp nat_cmp path) p) (Some met) (waits_at before p)

room_by : {L : Type 0} (path p : List ℕ) (met : Met L) (waits : Option (Met L)) (old new : ℕ) (o : Ordering)
    → slice_cmp nat_cmp path p ≡ o → IfSome waits (λ m. length p < old) → old ≤ new → length path < new
    → IfSome (cond (is_eq o) (Some met) waits) (λ m. length p < new)
room_by path p met None old new Less is holds grows fits = tt
room_by path p met (Some m) old new Less is holds grows fits = omega (arith, holds)
room_by path p met waits old new Equal is holds grows fits = subst (λ (q : List ℕ). length q < new) (same_path path p is) fits
room_by path p met None old new Greater is holds grows fits = tt
room_by path p met (Some m) old new Greater is holds grows fits = omega (arith, holds)

-- there is still room for each path that waits
pub keeps_room : {L : Type 0} (path : List ℕ) (met : Met L) (before after : List (List ℕ × Met L)) (old new : ℕ)
    → HasRoom before old → Puts path met before after → old ≤ new → length path < new → HasRoom after new
keeps_room path met before after old new room put grows fits p =
    subst (λ (o : Option (Met _)). IfSome o (λ m. length p < new)) (sym (put p))
    (room_by path p met (waits_at before p) old new (slice_cmp nat_cmp path p) refl (room p) grows fits)

module _ {L : Type 0} (events : List (Event L)) where
  -- an event that is ahead was put where nothing else has changed
  pub record IsPut (old new : Notes L) (path : List ℕ) (met : Met L) : Type 0 where
    pub walk : IsWalk events old
    pub ahead : is_ahead old.position old.cursor path ≡ true
    pub of_tree : IsTrueEvent events (event_of path met)
    pub put : Puts path met old.waiting new.waiting
    pub cursor : new.cursor ≡ old.cursor
    pub later : new.later ≡ old.later
    pub position : new.position ≡ old.position

  pub is_put : (c now d : Notes L) (path : List ℕ) (met : Met L) (e : Event L) → c ≡ now → IsCollector events now
      → is_ahead now.position now.cursor path ≡ true → event_of path met ≡ e → IsTrueEvent events e
      → Puts path met c.waiting d.waiting → d.cursor ≡ c.cursor → d.later ≡ c.later → d.position ≡ c.position
      → IsPut now d path met
  unfolding IsCollector
  is_put c now d path met e is walk ahead event of_tree put cursor later position =
      subst (λ (n : Notes L). IsPut n d path met) is
      (record {
        walk = subst (λ (n : Notes L). IsWalk events n) (sym is) walk;
        ahead = subst (λ (n : Notes L). is_ahead n.position n.cursor path ≡ true) (sym is) ahead;
        of_tree = subst (λ (x : Event L). IsTrueEvent events x) (sym event) of_tree;
        put = put;
        cursor = cursor;
        later = later;
        position = position;
      })

  put_ahead : (old new : Notes L) (path : List ℕ) (met : Met L) → IsPut old new path met → (p : List ℕ)
      → is_ahead new.position new.cursor p ≡ is_ahead old.position old.cursor p
  put_ahead old new path met is p = rw (is.cursor, is.position) refl

  put_events : (old new : Notes L) (path : List ℕ) (met : Met L) → IsPut old new path met
      → events_ahead events new ≡ events_ahead events old
  put_events old new path met is = rw (is.cursor, is.position) refl

  put_waits : (old : Notes L) (path p : List ℕ) (met : Met L) → IsTrueEvent events (event_of path met)
      → is_ahead old.position old.cursor path ≡ true → (waits : Option (Met L)) (o : Ordering) → slice_cmp nat_cmp path p ≡ o
      → IfSome waits (λ m. IsTrueEvent events (event_of p m) × (is_ahead old.position old.cursor p ≡ true))
      → IfSome (cond (is_eq o) (Some met) waits) (λ m. IsTrueEvent events (event_of p m) × (is_ahead old.position old.cursor p ≡ true))
  put_waits old path p met of_tree ahead waits Less is holds = holds
  put_waits old path p met of_tree ahead waits Equal is holds =
      subst (λ (q : List ℕ). IsTrueEvent events (event_of q met) × (is_ahead old.position old.cursor q ≡ true)) (same_path path p is) (of_tree, ahead)
  put_waits old path p met of_tree ahead waits Greater is holds = holds

  put_walk : (old new : Notes L) (path : List ℕ) (met : Met L) → IsPut old new path met → IsCollector events new
  unfolding IsCollector
  put_walk old new path met is =
      record {
        ascend = is.walk.ascend;
        root = is.walk.root;
        visits = rw (is.cursor, is.later, is.position) is.walk.visits;
        waiting = λ p.
            subst
            (λ (b : Bool). IfSome (waits_at new.waiting p) (λ m. IsTrueEvent events (event_of p m) × (b ≡ true)))
            (sym (put_ahead old new path met is p))
            (subst
            (λ (o : Option (Met L)). IfSome o (λ m. IsTrueEvent events (event_of p m) × (is_ahead old.position old.cursor p ≡ true)))
            (sym (is.put p))
            (put_waits old path p met is.of_tree is.ahead (waits_at old.waiting p) (slice_cmp nat_cmp path p) refl (is.walk.waiting p)));
        home = rw (is.cursor, is.position) is.walk.home;
      }

  still_some : (met : Met L) (waits : Option (Met L)) (b : Bool) → IsSome waits → IsSome (cond b (Some met) waits)
  still_some met waits true some = refl
  still_some met waits false some = some

  keeps_noted : (old new : Notes L) (path : List ℕ) (met : Met L) → IsPut old new path met → (p : List ℕ)
      → NotedAt events old p → NotedAt events new p
  keeps_noted old new path met is p (inl some) =
      inl (subst (λ (o : Option (Met L)). IsSome o) (sym (is.put p))
      (still_some met (waits_at old.waiting p) (is_at (slice_cmp nat_cmp path) p) some))
  keeps_noted old new path met is p (inr (has, passed)) = inr (has, put_ahead old new path met is p ∙ passed)

  only_by : (path p : List ℕ) (met : Met L) (waits : Option (Met L)) (o : Ordering) → slice_cmp nat_cmp path p ≡ o
      → IsSome (cond (is_eq o) (Some met) waits) → IsSome waits ⊎ (p ≡ path)
  only_by path p met waits Less is some = inl some
  only_by path p met waits Equal is some = inr (sym (same_path path p is))
  only_by path p met waits Greater is some = inl some

  raised : {A B C : Type 0} → A ⊎ B → (A ⊎ C) ⊎ B
  raised (inl a) = inl (inl a)
  raised (inr b) = inr b

  only_noted : (old new : Notes L) (path : List ℕ) (met : Met L) → IsPut old new path met → (p : List ℕ)
      → NotedAt events new p → NotedAt events old p ⊎ (p ≡ path)
  only_noted old new path met is p (inl some) =
      raised (only_by path p met (waits_at old.waiting p) (slice_cmp nat_cmp path p) refl
      (subst (λ (o : Option (Met L)). IsSome o) (is.put p) some))
  only_noted old new path met is p (inr (has, passed)) = inl (inr (has, sym (put_ahead old new path met is p) ∙ passed))

  put_noted : (old new : Notes L) (path : List ℕ) (met : Met L) → IsPut old new path met → IsNoted events new path
  unfolding IsNoted
  put_noted old new path met is =
      inl (subst (λ (o : Option (Met L)). IsSome o) (sym (is.put path))
      (ap (λ (o : Ordering). is_some (cond (is_eq o) (Some met) (waits_at old.waiting path))) (at_itself path)))

  put_keeps : (old new : Notes L) (path : List ℕ) (met : Met L) → IsPut old new path met → Keeps events old new
  unfolding IsNoted Keeps to_give
  put_keeps old new path met is = (keeps_noted old new path met is, ap answer_of (put_events old new path met is))

  put_only : (old new : Notes L) (path : List ℕ) (met : Met L) → IsPut old new path met → (p : List ℕ)
      → IsNoted events new p → IsNoted events old p ⊎ (p ≡ path)
  unfolding IsNoted
  put_only old new path met is = only_noted old new path met is

  has_put : (old new : Notes L) (path : List ℕ) (met : Met L) → IsPut old new path met → HasNoted events old new (event_of path met)
  has_put old new path met is =
      record {
        walk = put_walk old new path met is;
        noted = subst (λ (p : List ℕ). IsNoted events new p) (sym (path_of_event path met)) (put_noted old new path met is);
        keeps = put_keeps old new path met is;
        only = λ p noted. subst (λ (q : List ℕ). IsNoted events old p ⊎ (p ≡ q)) (sym (path_of_event path met)) (put_only old new path met is p noted);
      }

  -- an event that was put was noted
  pub has_noted : (c now d : Notes L) (path : List ℕ) (met : Met L) (e : Event L) → c ≡ now → IsCollector events now
      → is_ahead now.position now.cursor (path_of e) ≡ true → event_of path met ≡ e → IsTrueEvent events e
      → Puts path met c.waiting d.waiting → d.cursor ≡ c.cursor → d.later ≡ c.later → d.position ≡ c.position
      → HasNoted events now d e
  has_noted c now d path met e is walk ahead event of_tree put cursor later position =
      let at : path_of e ≡ path = ap path_of (sym event) ∙ path_of_event path met in
      subst (λ (x : Event L). HasNoted events now d x) event
      (has_put now d path met
      (is_put c now d path met e is walk (subst (λ (p : List ℕ). is_ahead now.position now.cursor p ≡ true) at ahead)
      event of_tree put cursor later position))

  pub keeps_itself : (c : Notes L) → Keeps events c c
  unfolding Keeps
  keeps_itself c = (λ p noted. noted, refl)

  pub keeps_same : (c d : Notes L) → d ≡ c → Keeps events c d
  keeps_same c d same = subst (λ (n : Notes L). Keeps events c n) (sym same) (keeps_itself c)

  not_noted_by : (c : Notes L) (path : List ℕ) → is_ahead c.position c.cursor path ≡ true → is_some (waits_at c.waiting path) ≡ false
      → ¬ NotedAt events c path
  not_noted_by c path ahead none (inl some) = let bad : true ≡ false = sym some ∙ none in cc
  not_noted_by c path ahead none (inr (has, passed)) = let bad : true ≡ false = sym ahead ∙ passed in cc

  known_by : (c : Notes L) (e : Event L) → IsTrueEvent events e → (ahead waits : Bool)
      → is_ahead c.position c.cursor (path_of e) ≡ ahead → is_some (waits_at c.waiting (path_of e)) ≡ waits
      → (not ahead || waits) ≡ true → NotedAt events c (path_of e)
  known_by c e of_tree false waits ahead_is waits_is known = inr ((e, of_tree, refl), ahead_is)
  known_by c e of_tree true true ahead_is waits_is known = inl waits_is
  known_by c e of_tree true false ahead_is waits_is known = cc

  -- an event that waits, or that isn't ahead, was noted
  pub known : (c : Notes L) (e : Event L) → IsTrueEvent events e
      → (not (is_ahead c.position c.cursor (path_of e)) || is_some (waits_at c.waiting (path_of e))) ≡ true
      → IsNoted events c (path_of e)
  unfolding IsNoted
  known c e of_tree test = known_by c e of_tree _ _ refl refl test

  unknown_by : (c : Notes L) (path : List ℕ) → (ahead waits : Bool)
      → is_ahead c.position c.cursor path ≡ ahead → is_some (waits_at c.waiting path) ≡ waits
      → (not ahead || waits) ≡ false → (is_ahead c.position c.cursor path ≡ true) × ¬ NotedAt events c path
  unknown_by c path false waits ahead_is waits_is unknown = cc
  unknown_by c path true true ahead_is waits_is unknown = cc
  unknown_by c path true false ahead_is waits_is unknown = (ahead_is, not_noted_by c path ahead_is waits_is)

  -- any other wasn't
  pub unknown : (c : Notes L) (path : List ℕ)
      → (not (is_ahead c.position c.cursor path) || is_some (waits_at c.waiting path)) ≡ false
      → (is_ahead c.position c.cursor path ≡ true) × ¬ IsNoted events c path
  unfolding IsNoted
  unknown c path test = unknown_by c path _ _ refl refl test
