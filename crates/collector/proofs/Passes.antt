-- A walk that passes the event at its cursor.
use Rattle.std.proofs.Common.{◌≡◌, ◌⊎◌, inl, inr, ℕ, ◌<◌, true, false, cond, List, ◌∷◌, ◌++◌, Option, Some, None, IfSome, IsSome, IsSomeAnd, is_some, length, refl, sym, ap, ◌∙◌, subst, arith, is_lt, is_le, is_gt, is_eq, nat_cmp, Ordering}
use Rattle.std.specs.Cmp.Lexicographic.{slice_cmp}
use Rattle.std.specs.BTreeMap.{is_at}
use Rattle.std.specs.declared.cmp.Ordering.TheVariants.{Less, Equal, Greater}
use Rattle.split_paths.specs.declared.event.Event.{Event}
use Rattle.split_paths.specs.declared.event.Why.{Why}
use Rattle.split_paths.specs.Answer.{answer_of}
use Rattle.split_paths.specs.Key.{IsTrueEvent}
use Rattle.split_paths.specs.Walk.{paths_below, numbered_paths, HasKids, Visits, HasEventAt}
use Rattle.collector.specs.declared.advance.Advance.TheVariants.{Item}
use Rattle.collector.specs.declared.met.Met.{Met}
use Rattle.collector.specs.declared.met.Met.TheVariants.{Split, Gone, Chain, Stop}
use Rattle.collector.specs.declared.met.Position.{Position}
use Rattle.collector.specs.declared.met.Position.TheVariants.{Here, Passed}
use Rattle.collector.specs.Moves.{HasSameNotes, GoesOn, HasAdvanced, stop_of}
use Rattle.collector.specs.Notes.{Notes, event_of, waits_at, events_ahead, IsWalk, IsCollector, IsNoted, to_give}
use Rattle.collector.proofs.Ahead.{next_ahead}
use Rattle.collector.proofs.Moves.{NotedAt, goes_next_from, goes_then}
use Rattle.collector.proofs.PathOrder.{same_path}
use Rattle.collector.proofs.Walks.{ascends, meets_first, waits_as_met, path_of_event, some_is, first_waits}

-- the entry at a path was taken away
abbrev pub Takes : {L : Type 0} → List ℕ → List (List ℕ × Met L) → List (List ℕ × Met L) → Type 0
Takes q before after =
    (p : List ℕ) → waits_at after p ≡ cond (is_at (slice_cmp nat_cmp q) p) None (waits_at before p)

waits_after : {A : Type 0} (P : A → Type 0) (o : Ordering) (before : Option A) → IfSome before (λ a. P a × (is_le o ≡ true))
    → IfSome (cond (is_eq o) None before) (λ a. P a × (is_lt o ≡ true))
waits_after P Less None waits = tt
waits_after P Less (Some a) waits = (waits.0, refl)
waits_after P Equal before waits = tt
waits_after P Greater None waits = tt
waits_after P Greater (Some a) waits = let bad : false ≡ true = waits.1 in cc

module _ {L : Type 0} (events : List (Event L)) (before after : List (List ℕ × Met L)) (q : List ℕ)
    (later : List (List ℕ)) (met : Met L) where
  -- before the event at the path q is passed
  abbrev pub standing : Notes L
  standing = record { waiting = before; cursor = q; later = later; position = Here }

  -- past it: what is below it comes next
  abbrev pub past : Notes L
  past = record { waiting = after; cursor = q; later = paths_below (event_of q met) ++ later; position = Passed }

  pub past_ahead : IsWalk events standing → waits_at before q ≡ Some met
      → events_ahead events standing ≡ event_of q met ∷ events_ahead events past
  past_ahead walk waits =
      let first = meets_first events standing walk refl in
      let others : events_ahead events past ≡ first.rest =
      next_ahead q events first.event first.rest (ascends events standing walk) first.ahead first.at in
      first.ahead
      ∙ (ap (λ (e : Event L). e ∷ first.rest) (waits_as_met events standing met walk refl waits)
      ∙ ap (λ (xs : List (Event L)). event_of q met ∷ xs) (sym others))

  pub has_kids : IsWalk events standing → waits_at before q ≡ Some met → HasKids (event_of q met)
  has_kids walk waits =
      subst (λ (e : Event L). HasKids e) (waits_as_met events standing met walk refl waits) (meets_first events standing walk refl).kids

  pub past_walk : IsWalk events standing → waits_at before q ≡ Some met → Takes q before after → IsWalk events past
  past_walk walk waits takes =
      let first = meets_first events standing walk refl in
      let others : events_ahead events past ≡ first.rest =
      next_ahead q events first.event first.rest (ascends events standing walk) first.ahead first.at in
      record {
        ascend = walk.ascend;
        root = walk.root;
        visits =
            subst (λ (xs : List (Event L)). Visits (paths_below (event_of q met) ++ later) xs) (sym others)
            (subst (λ (e : Event L). Visits (paths_below e ++ later) first.rest)
            (waits_as_met events standing met walk refl waits) first.then);
        waiting = λ path.
            subst
            (λ (o : Option (Met L)).
            IfSome o (λ m. IsTrueEvent events (event_of path m) × (is_lt (slice_cmp nat_cmp q path) ≡ true)))
            (sym (takes path))
            (waits_after (λ (m : Met L). IsTrueEvent events (event_of path m)) (slice_cmp nat_cmp q path) (waits_at before path) (walk.waiting path));
        home = tt;
      }

  taken_noted : (p : List ℕ) (o : Ordering) → slice_cmp nat_cmp q p ≡ o → HasEventAt events q → IsSome (waits_at before p)
      → IsSome (cond (is_eq o) None (waits_at before p)) ⊎ (HasEventAt events p × (is_lt o ≡ false))
  taken_noted p Less is has some = inl some
  taken_noted p Equal is has some = inr (subst (λ (r : List ℕ). HasEventAt events r) (same_path q p is) has, refl)
  taken_noted p Greater is has some = inl some

  past_further : (o : Ordering) → is_le o ≡ false → is_lt o ≡ false
  past_further Less e = cc
  past_further Equal e = refl
  past_further Greater e = refl

  noted_past : HasEventAt events q → Takes q before after → (p : List ℕ) → NotedAt events standing p → NotedAt events past p
  noted_past has takes p (inl some) =
      subst (λ (o : Option (Met L)). IsSome o ⊎ (HasEventAt events p × (is_lt (slice_cmp nat_cmp q p) ≡ false))) (sym (takes p))
      (taken_noted p (slice_cmp nat_cmp q p) refl has some)
  noted_past has takes p (inr (here, passed)) = inr (here, past_further (slice_cmp nat_cmp q p) passed)

  left_noted : (o : Ordering) (b : Option (Met L)) → IsSome (cond (is_eq o) None b) → IsSome b
  left_noted Less b some = some
  left_noted Equal b some = cc
  left_noted Greater b some = some

  passed_noted : (p : List ℕ) (o : Ordering) → slice_cmp nat_cmp q p ≡ o → waits_at before q ≡ Some met → HasEventAt events p → is_lt o ≡ false
      → IsSome (waits_at before p) ⊎ (HasEventAt events p × (is_le o ≡ false))
  passed_noted p Less is waits has passed = cc
  passed_noted p Equal is waits has passed =
      inl (subst (λ (r : List ℕ). IsSome (waits_at before r)) (same_path q p is) (ap is_some waits))
  passed_noted p Greater is waits has passed = inr (has, refl)

  noted_before : waits_at before q ≡ Some met → Takes q before after → (p : List ℕ) → NotedAt events past p → NotedAt events standing p
  noted_before waits takes p (inl some) =
      inl (left_noted (slice_cmp nat_cmp q p) (waits_at before p) (subst (λ (o : Option (Met L)). IsSome o) (takes p) some))
  noted_before waits takes p (inr (has, passed)) = passed_noted p (slice_cmp nat_cmp q p) refl waits has passed

  event_here : IsWalk events standing → waits_at before q ≡ Some met → HasEventAt events q
  event_here walk waits =
      let waiting = some_is _ (waits_at before q) met (walk.waiting q) waits in
      (event_of q met, waiting.0, path_of_event q met)

  past_notes : IsWalk events standing → waits_at before q ≡ Some met → Takes q before after → HasSameNotes events standing past
  unfolding IsNoted
  past_notes walk waits takes =
      record {
        notes = noted_past (event_here walk waits) takes;
        only = noted_before waits takes;
      }

  -- an event that adds nothing to the answer
  pub passes : IsWalk events standing → waits_at before q ≡ Some met → Takes q before after
      → ((xs : List (Event L)) → answer_of (event_of q met ∷ xs) ≡ answer_of xs) → GoesOn events standing past
  unfolding IsCollector to_give
  passes walk waits takes quiet =
      let ahead = past_ahead walk waits in
      record {
        stays = record {
          walk = past_walk walk waits takes;
          noted = past_notes walk waits takes;
          gives = sym (ap answer_of ahead ∙ quiet (events_ahead events past));
          ahead = omega (arith, ap length ahead);
        };
        fewer = omega (arith, ap length ahead);
      }

hands_out : {L : Type 0} (events : List (Event L)) (before after : List (List ℕ × Met L)) (q : List ℕ)
    (later : List (List ℕ)) (leaf : L) → IsWalk events (standing events before after q later (Chain leaf))
    → waits_at before q ≡ Some (Chain leaf) → Takes q before after
    → HasAdvanced events
    (standing events before after q later (Chain leaf))
    (past events before after q later (Chain leaf))
    (Item q leaf)
unfolding IsCollector to_give IsNoted
hands_out events before after q later leaf walk waits takes =
    let met = Chain leaf in
    let notes = past_notes events before after q later met walk waits takes in
    record {
      walk = past_walk events before after q later met walk waits takes;
      noted = notes;
      items = (ap answer_of (past_ahead events before after q later met walk waits), refl);
      waiting = tt;
      known = notes.notes q (inl (ap is_some waits));
    }

goes_down : {L : Type 0} (events : List (Event L)) (before after : List (List ℕ × Met L)) (q : List ℕ)
    (later : List (List ℕ)) (count : ℕ) (down : List ℕ) (others : List (List ℕ))
    → IsWalk events (standing events before after q later (Split count))
    → waits_at before q ≡ Some (Split count) → Takes q before after
    → down ∷ others ≡ numbered_paths q 1 count ++ later
    → GoesOn events
    (standing events before after q later (Split count))
    (record { waiting = after; cursor = down; later = others; position = Here })
goes_down events before after q later count down others walk waits takes next =
    goes_then events
    (standing events before after q later (Split count))
    (past events before after q later (Split count))
    (record { waiting = after; cursor = down; later = others; position = Here })
    (passes events before after q later (Split count) walk waits takes (λ xs. refl))
    (goes_next_from events
    (past events before after q later (Split count))
    (record { waiting = after; cursor = down; later = others; position = Here })
    (past_walk events before after q later (Split count) walk waits takes)
    refl refl refl (sym next))

-- the first entry was taken away before a walk's next event, and this is what was met
pub record Pops {L : Type 0} (events : List (Event L)) (now : Notes L) (before after : List (List ℕ × Met L))
    (q : List ℕ) (later : List (List ℕ)) (position : Position) (path : List ℕ) (met : Met L) : Type 0 where
  pub is : standing events before after q later met ≡ now
  pub walk : IsWalk events (standing events before after q later met)
  pub waits : waits_at before q ≡ Some met
  pub takes : Takes q before after
  pub here : position ≡ Here
  pub path_is : path ≡ q
  pub plain : stop_of met ≡ None

some_and : {A : Type 0} (P : A → Type 0) (o : Option A) → IsSomeAnd o P → IsSome o
some_and P None holds = absurd holds
some_and P (Some x) holds = refl

and_is : {A : Type 0} (P : A → Type 0) (o : Option A) (x : A) → IsSomeAnd o P → o ≡ Some x → P x
and_is P o x holds is = subst (λ (p : Option _). IsSomeAnd p P) is holds

pub pops : {L : Type 0} (events : List (Event L)) (now : Notes L) (before after : List (List ℕ × Met L))
    (q : List ℕ) (later : List (List ℕ)) (position : Position) (path : List ℕ) (met : Met L)
    → record { waiting = before; cursor = q; later = later; position = position } ≡ now
    → IsCollector events now → now.position ≡ Here
    → IsSomeAnd (waits_at now.waiting now.cursor) (λ m. stop_of m ≡ None)
    → waits_at before path ≡ Some met
    → ((p : List ℕ) → IsSome (waits_at before p) → is_gt (slice_cmp nat_cmp path p) ≡ false)
    → Takes path before after → Pops events now before after q later position path met
unfolding IsCollector
pops {L} events now before after q later position path met is walk here plain waits least takes =
    let place : position ≡ Here = ap (λ (n : Notes L). n.position) is ∙ here in
    let stands : standing events before after q later met ≡ now =
    sym (ap (λ (p : Position). record { waiting = before; cursor = q; later = later; position = p }) place) ∙ is in
    let walks : IsWalk events (standing events before after q later met) = subst (λ (n : Notes L). IsWalk events n) (sym stands) walk in
    let known : IsSomeAnd (waits_at before q) (λ m. stop_of m ≡ None) =
    subst (λ (n : Notes L). IsSomeAnd (waits_at n.waiting n.cursor) (λ m. stop_of m ≡ None)) (sym stands) plain in
    let at : path ≡ q = first_waits events (standing events before after q later met) path met walks refl waits least
    (some_and (λ m. stop_of m ≡ None) (waits_at before q) known) in
    let there : waits_at before q ≡ Some met = subst (λ (p : List ℕ). waits_at before p ≡ Some met) at waits in
    record {
      is = stands;
      walk = walks;
      waits = there;
      takes = subst (λ (p : List ℕ). Takes p before after) at takes;
      here = place;
      path_is = at;
      plain = and_is (λ m. stop_of m ≡ None) (waits_at before q) met known there;
    }

-- a split is passed, and the walk stands at its first child
pub passes_split : {L : Type 0} (events : List (Event L)) (now : Notes L) (before after : List (List ℕ × Met L))
    (q : List ℕ) (later : List (List ℕ)) (position : Position) (path : List ℕ) (count : ℕ) (down : List ℕ)
    (others : List (List ℕ)) → Pops events now before after q later position path (Split count)
    → down ∷ others ≡ numbered_paths q 1 count ++ later
    → GoesOn events now (record { waiting = after; cursor = down; later = others; position = position })
passes_split {L} events now before after q later position path count down others pop next =
    subst
    (λ (p : Position). GoesOn events now (record { waiting = after; cursor = down; later = others; position = p }))
    (sym pop.here)
    (subst (λ (n : Notes L). GoesOn events n (record { waiting = after; cursor = down; later = others; position = Here })) pop.is
    (goes_down events before after q later count down others pop.walk pop.waits pop.takes next))

pub split_has_kids : {L : Type 0} (events : List (Event L)) (now : Notes L) (before after : List (List ℕ × Met L))
    (q : List ℕ) (later : List (List ℕ)) (position : Position) (path : List ℕ) (count : ℕ)
    → Pops events now before after q later position path (Split count) → 0 < count
split_has_kids events now before after q later position path count pop =
    has_kids events before after q later (Split count) pop.walk pop.waits

-- a branch with nothing at its end is passed
pub passes_gone : {L : Type 0} (events : List (Event L)) (now : Notes L) (before after : List (List ℕ × Met L))
    (q : List ℕ) (later : List (List ℕ)) (position : Position) (path : List ℕ)
    → Pops events now before after q later position path Gone
    → GoesOn events now (record { waiting = after; cursor = q; later = later; position = Passed })
passes_gone {L} events now before after q later position path pop =
    subst (λ (n : Notes L). GoesOn events n (record { waiting = after; cursor = q; later = later; position = Passed })) pop.is
    (passes events before after q later Gone pop.walk pop.waits pop.takes (λ xs. refl))

-- an emitted leaf is handed out
pub passes_chain : {L : Type 0} (events : List (Event L)) (now : Notes L) (before after : List (List ℕ × Met L))
    (q : List ℕ) (later : List (List ℕ)) (position : Position) (path : List ℕ) (leaf : L)
    → Pops events now before after q later position path (Chain leaf)
    → HasAdvanced events now (record { waiting = after; cursor = q; later = later; position = Passed }) (Item path leaf)
passes_chain {L} events now before after q later position path leaf pop =
    subst
    (λ (p : List ℕ). HasAdvanced events now (record { waiting = after; cursor = q; later = later; position = Passed }) (Item p leaf))
    (sym pop.path_is)
    (subst
    (λ (n : Notes L). HasAdvanced events n (record { waiting = after; cursor = q; later = later; position = Passed }) (Item q leaf)) pop.is
    (hands_out events before after q later leaf pop.walk pop.waits pop.takes))

-- what stops the answer isn't passed
pub never_stops : {L : Type 0} (events : List (Event L)) (now : Notes L) (before after : List (List ℕ × Met L))
    (q : List ℕ) (later : List (List ℕ)) (position : Position) (path : List ℕ) (why : Why)
    → Pops events now before after q later position path (Stop why) → ⊥
never_stops events now before after q later position path why pop =
    let bad : Some why ≡ None = pop.plain in cc
