-- The trees on which the walk is tried are trees.
use Rattle.std.proofs.Common.{◌≡◌, ℕ, zero, suc, ◌+◌, ◌-◌, ◌<◌, List, [], ◌∷◌, ◌++◌, refl, sym, ap, subst, arith, append_assoc, All, Contains, take, drop, length, slice_index_or}
use Rattle.std.proofs.lemmas.List.Elements.{All-append, All-take, All-drop, Contains-get_or}
use Rattle.split_paths.specs.declared.event.Event.{Event}
use Rattle.split_paths.specs.declared.event.Event.TheVariants.{Split, Leaf}
use Rattle.split_paths.specs.declared.event.Outcome.TheVariants as outcome
use Rattle.split_paths.specs.Key.{IsTreeKey}
use Rattle.split_paths.specs.Tree.{events_of, offers_of}
use Rattle.collector.specs.Samples.{brush, brush_events, fork, fork_events, root_at}

brush_tree : (n s : ℕ) (path : List ℕ) → n + 1 < s
    → events_of brush (record { path = path; steps = s; task = suc (suc n) }) ≡ brush_events path n
unfolding brush_events
brush_tree zero zero path enough = absurd (omega arith)
brush_tree zero (suc zero) path enough = absurd (omega arith)
brush_tree zero (suc (suc s)) path enough = refl
brush_tree (suc n) zero path enough = absurd (omega arith)
brush_tree (suc n) (suc zero) path enough = absurd (omega arith)
brush_tree (suc n) (suc (suc s)) path enough =
    ap
    (λ (es : List (Event ℕ)).
    Split path 3 ∷ Leaf (path ++ 1 ∷ []) (outcome.Chain 7) ∷ (es ++ Leaf (path ++ 3 ∷ []) outcome.Gone ∷ []))
    (brush_tree n (suc s) (path ++ 2 ∷ []) (omega arith))

pub brush_key : (n : ℕ) → IsTreeKey (brush_events [] n) (offers_of brush (root_at (suc (suc n)) (suc (suc n))))
brush_key n =
    record {
      step = brush;
      root = root_at (suc (suc n)) (suc (suc n));
      whole = refl;
      same_events = sym (brush_tree n (suc (suc n)) [] (omega arith));
      same_offers = refl;
    }

pub fork_key : IsTreeKey fork_events (offers_of fork (root_at 3 3))
fork_key = record { step = fork; root = root_at 3 3; whole = refl; same_events = refl; same_offers = refl }

more_brush : (path : List ℕ) (n m : ℕ) → n ≡ suc m → brush_events path n
    ≡ Split path 3 ∷ Leaf (path ++ 1 ∷ []) (outcome.Chain 7)
    ∷ (brush_events (path ++ 2 ∷ []) m ++ Leaf (path ++ 3 ∷ []) outcome.Gone ∷ [])
unfolding brush_events
more_brush path n m is = ap (brush_events path) is

last_brush : (path : List ℕ) (n : ℕ) → n ≡ 0 → brush_events path n
    ≡ Split path 2 ∷ Leaf (path ++ 1 ∷ []) outcome.Gone ∷ Leaf (path ++ 2 ∷ []) (outcome.Chain 7) ∷ []
unfolding brush_events
last_brush path n is = ap (brush_events path) is

-- the events of a part between those before and after it
pub brush_grows : (path first second third : List ℕ) (n : ℕ) (root upper lower : Event ℕ) (old split leaf below whole : List (Event ℕ))
    → 0 < n → first ≡ path ++ 1 ∷ [] → second ≡ path ++ 2 ∷ [] → third ≡ path ++ 3 ∷ []
    → root ≡ Split path 3 → upper ≡ Leaf first (outcome.Chain 7) → lower ≡ Leaf third outcome.Gone
    → split ≡ old ++ root ∷ [] → leaf ≡ split ++ upper ∷ []
    → below ≡ leaf ++ brush_events second (n - 1) → whole ≡ below ++ lower ∷ []
    → whole ≡ old ++ brush_events path n
brush_grows path first second third n root upper lower old split leaf below whole some first_is second_is third_is root_is upper_is lower_is split_is leaf_is below_is whole_is =
    let one : n ≡ suc (n - 1) = omega arith in
    rw (whole_is, below_is, leaf_is, split_is, root_is, upper_is, lower_is, first_is, second_is, third_is, more_brush path n (n - 1) one)
    (simp append_assoc)

-- the last part, where nothing is above
pub brush_ends : (path first second : List ℕ) (n : ℕ) (root upper lower : Event ℕ) (old split leaf whole : List (Event ℕ))
    → n ≡ 0 → first ≡ path ++ 1 ∷ [] → second ≡ path ++ 2 ∷ []
    → root ≡ Split path 2 → upper ≡ Leaf first outcome.Gone → lower ≡ Leaf second (outcome.Chain 7)
    → split ≡ old ++ root ∷ [] → leaf ≡ split ++ upper ∷ [] → whole ≡ leaf ++ lower ∷ []
    → whole ≡ old ++ brush_events path n
brush_ends path first second n root upper lower old split leaf whole none first_is second_is root_is upper_is lower_is split_is leaf_is whole_is =
    rw (whole_is, leaf_is, split_is, root_is, upper_is, lower_is, first_is, second_is, last_brush path n none)
    (simp append_assoc)

-- what is left when one is taken out, and what is taken
pub left_over : {X : Type 0} (P : X → Type 0) (xs ys : List X) (i : ℕ) → ys ≡ take i xs ++ drop (suc i) xs → All P xs → All P ys
left_over P xs ys i is each =
    subst (All P) (sym is) (All-append P (take i xs) (drop (suc i) xs) (All-take P i xs each) (All-drop P (suc i) xs each))

pub taken_out : {X : Type 0} (P : X → Type 0) (xs : List X) (i : ℕ) (x : X) → x ≡ slice_index_or xs i x → i < length xs → All P xs → P x
taken_out P xs i x is within each = subst P (sym is) (each i x within)

pub each_its_own : {X : Type 0} (xs : List X) → All (Contains xs) xs
each_its_own xs k d within = Contains-get_or xs k d within
