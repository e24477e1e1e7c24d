-- The events of a tree stand in strictly ascending path order.
use Rattle.std.proofs.Common.{◌≡◌, ◌≢◌, ℕ, zero, suc, List, [], ◌∷◌, refl, sym, subst, ap, ◌∙◌, arith}
use Rattle.std.specs.List.{AllByRecursion, Contains, flat_map}
use Rattle.split_paths.specs.declared.event.Event.{Event}
use Rattle.split_paths.specs.declared.splitter.Step.{Step}
use Rattle.split_paths.specs.declared.splitter.Step.TheVariants.{Gone, Emit, TooWide, Kids}
use Rattle.split_paths.specs.Paths.{IsBefore}
use Rattle.split_paths.specs.Places.{Place}
use Rattle.split_paths.specs.Tree.{event_here, numbered, children, event_at, preorder_below, events_of}
use Rattle.split_paths.specs.Walk.{path_of, AreApart}
use Rattle.split_paths.proofs.Lists.{all_weaker, all_contains, Ascends}
use Rattle.split_paths.proofs.Orders.{IsFrom, StandsAt, StaysUnder, before_below, not_before_itself, from_kids, under_below, ascends_below}

-- an event whose path comes before that of another
abbrev pub IsEarlier : {L : Type 0} → Event L → Event L → Type 0
IsEarlier e f = IsBefore (path_of e) (path_of f)

module _ {T L : Type 0} where
  stands_here : (path : List ℕ) (n : ℕ) (made : Step T L)
      → AllByRecursion (λ (e : Event L). path_of e ≡ path) (event_here path n made)
  stands_here path zero made = (refl, tt)
  stands_here path (suc n) Gone = (refl, tt)
  stands_here path (suc n) (Emit leaf) = (refl, tt)
  stands_here path (suc n) TooWide = (refl, tt)
  stands_here path (suc n) (Kids []) = (refl, tt)
  stands_here path (suc n) (Kids (only ∷ [])) = tt
  stands_here path (suc n) (Kids (first ∷ second ∷ others)) = (refl, tt)

  ascends_here : (path : List ℕ) (n : ℕ) (made : Step T L)
      → Ascends (λ (e f : Event L). IsEarlier e f) (event_here path n made)
  ascends_here path zero made = (tt, tt)
  ascends_here path (suc n) Gone = (tt, tt)
  ascends_here path (suc n) (Emit leaf) = (tt, tt)
  ascends_here path (suc n) TooWide = (tt, tt)
  ascends_here path (suc n) (Kids []) = (tt, tt)
  ascends_here path (suc n) (Kids (only ∷ [])) = tt
  ascends_here path (suc n) (Kids (first ∷ second ∷ others)) = (tt, tt)

  module _ (step : T → Step T L) where
    first_here : (below : Place T → List (Event L)) → StaysUnder path_of (event_at step) below
        → (path : List ℕ) (n : ℕ) (made : Step T L)
        → AllByRecursion
        (λ (e : Event L). AllByRecursion (λ (f : Event L). IsEarlier e f) (flat_map below (children path (suc n) made)))
        (event_here path (suc n) made)
    first_here below stays path n Gone = (tt, tt)
    first_here below stays path n (Emit leaf) = (tt, tt)
    first_here below stays path n TooWide = (tt, tt)
    first_here below stays path n (Kids []) = (tt, tt)
    first_here below stays path n (Kids (only ∷ [])) = tt
    first_here below stays path n (Kids (first ∷ second ∷ others)) = (
      all_weaker
          (λ (f : Event L). IsFrom path 1 (path_of f))
          (λ (f : Event L). IsBefore path (path_of f))
          (λ (f : Event L). before_below path 1 (path_of f))
          (flat_map below (numbered path n 1 (first ∷ second ∷ others)))
          (from_kids path_of (event_at step) below stays path n 1 (first ∷ second ∷ others)),
      tt,
    )

    stands : StandsAt path_of (event_at step)
    stands place = stands_here place.path place.steps (step place.task)

    pub events_ascend : (root : Place T) → Ascends (λ (e f : Event L). IsEarlier e f) (events_of step root)
    events_ascend root =
        ascends_below
        path_of
        (event_at step)
        (λ (e f : Event L). IsEarlier e f)
        step
        stands
        (λ e f less. less)
        (λ place. ascends_here place.path place.steps (step place.task))
        (λ n path task.
        first_here
        (λ (kid : Place T). preorder_below step (event_at step) n kid.path kid.task)
        (λ (kid : Place T). under_below path_of (event_at step) step stands n kid.path kid.task)
        path n (step task))
        root.steps root.path root.task

-- events in strictly ascending order have different paths
pub apart_from_Ascends : {L : Type 0} (events : List (Event L))
    → Ascends (λ (e f : Event L). IsEarlier e f) events → AreApart events
apart_from_Ascends [] up = tt
apart_from_Ascends (e ∷ es) up = (
  all_weaker
      (λ f. IsEarlier e f)
      (λ f. path_of f ≢ path_of e)
      (λ f less same. not_before_itself (path_of e) (subst (λ (q : List ℕ). IsBefore (path_of e) q) same less))
      es up.0,
  apart_from_Ascends es up.1,
)

-- an event is known by its path
pub known_from_Ascends : {L : Type 0} (events : List (Event L))
    → Ascends (λ (e f : Event L). IsEarlier e f) events → (e f : Event L)
    → Contains events e → Contains events f → path_of e ≡ path_of f → e ≡ f
known_from_Ascends {L} [] up e f (i, in_i, e_is) has_f same = absurd (omega arith)
known_from_Ascends {L} (x ∷ xs) up e f (zero, in_i, e_is) (zero, in_j, f_is) same = sym e_is ∙ f_is
known_from_Ascends {L} (x ∷ xs) up e f (zero, in_i, e_is) (suc j, in_j, f_is) same =
    let later : Contains xs f = (j, omega arith, f_is) in
    let less : IsEarlier x f = all_contains (λ (y : Event L). IsEarlier x y) xs f up.0 later in
    let one : path_of x ≡ path_of f = ap path_of e_is ∙ same in
    absurd (not_before_itself (path_of f) (subst (λ (q : List ℕ). IsBefore q (path_of f)) one less))
known_from_Ascends {L} (x ∷ xs) up e f (suc i, in_i, e_is) (zero, in_j, f_is) same =
    let later : Contains xs e = (i, omega arith, e_is) in
    let less : IsEarlier x e = all_contains (λ (y : Event L). IsEarlier x y) xs e up.0 later in
    let one : path_of x ≡ path_of e = ap path_of f_is ∙ sym same in
    absurd (not_before_itself (path_of e) (subst (λ (q : List ℕ). IsBefore q (path_of e)) one less))
known_from_Ascends {L} (x ∷ xs) up e f (suc i, in_i, e_is) (suc j, in_j, f_is) same =
    known_from_Ascends xs up.1 e f (i, omega arith, e_is) (j, omega arith, f_is) same
