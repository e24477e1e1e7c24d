-- The key of a tree, and its events.
use Rattle.std.proofs.Common.{◌≡◌, ℕ, List, [], ◌∷◌, ◌++◌, Option, Some, None, IfSome, IfNone, refl, sym, subst, ◌∙◌, append-nil}
use Rattle.std.specs.List.{AllByRecursion}
use Rattle.split_paths.specs.declared.event.Event.{Event}
use Rattle.split_paths.specs.Key.{IsTreeKey, IsTrueEvent}
use Rattle.split_paths.specs.Places.{Place}
use Rattle.split_paths.specs.Tree.{events_of, events_to_come, offers_of}
use Rattle.split_paths.proofs.Lists.{all_contained}
use Rattle.collector_bench.specs.Halves.{halves, top}

pub halves_key : (levels : ℕ) (events : List (Event ℕ)) (offers : List (Place ℕ))
    → events ≡ events_to_come halves (top levels ∷ []) → offers ≡ offers_of halves (top levels)
    → IsTreeKey events offers
halves_key levels events offers events_is offers_is =
    record {
      step = halves;
      root = top levels;
      whole = refl;
      same_events = events_is ∙ append-nil (events_of halves (top levels));
      same_offers = offers_is;
    }

-- all events of a key are true of it
pub all_are_true : (all events : List (Event ℕ)) → all ≡ events → AllByRecursion (IsTrueEvent events) all
all_are_true all events same = subst (λ es. AllByRecursion (IsTrueEvent events) es) (sym same) (all_contained events)

front_and_last : {A : Type 0} (P : A → Type 0) (xs : List A) (x : A) → AllByRecursion P (xs ++ x ∷ [])
    → AllByRecursion P xs × P x
front_and_last P [] x all = (tt, all.0)
front_and_last P (y ∷ ys) x all = let rest = front_and_last P ys x all.1 in ((all.0, rest.0), rest.1)

-- what holds of each item holds of the last, if there is one, and of the others
pub all_but_last : {A : Type 0} (P : A → Type 0) (old new : List A) (last : Option A) → AllByRecursion P old
    → IfSome last (λ x. old ≡ new ++ x ∷ []) → IfNone last (new ≡ []) → AllByRecursion P new × IfSome last P
all_but_last P old new None all item none = (subst (AllByRecursion P) (sym none) tt, tt)
all_but_last P old new (Some x) all item none = front_and_last P new x (subst (AllByRecursion P) item all)
