-- The events and the offers of a tree stand in path order.
use Rattle.std.proofs.Common.{◌≡◌, ℕ, zero, suc, ◌+◌, ◌<◌, ◌≤◌, List, [], ◌∷◌, ◌++◌, refl, sym, ◌∙◌, subst, arith, append_assoc, append-nil}
use Rattle.std.specs.List.{AllByRecursion, flat_map}
use Rattle.std.specs.Cmp.Lexicographic.{slice_cmp}
use Rattle.std.specs.Cmp.{nat_cmp_is}
use Rattle.std.specs.Ordering.{nat_cmp, ordering_then}
use Rattle.std.specs.declared.cmp.Ordering.{Ordering}
use Rattle.std.specs.declared.cmp.Ordering.TheVariants.{Less, Equal}
use Rattle.std.proofs.lemmas.Cmp.{tied_itself, nat_cmp_total, nat_list_cmp_total}
use Rattle.split_paths.specs.declared.splitter.Step.{Step}
use Rattle.split_paths.specs.declared.splitter.Step.TheVariants.{Gone, Emit, TooWide, Kids}
use Rattle.split_paths.specs.Paths.{IsBefore}
use Rattle.split_paths.specs.Places.{Place}
use Rattle.split_paths.specs.Tree.{numbered, children, preorder_below}
use Rattle.split_paths.proofs.Lists.{all_append, all_weaker, Ascends, Ascends-append}

-- a path that begins with another
abbrev pub IsUnder : List ℕ → List ℕ → Type 0
IsUnder p q = (rest : List ℕ) × (q ≡ p ++ rest)

-- a path below the child i of another, or below a later child
abbrev pub IsFrom : List ℕ → ℕ → List ℕ → Type 0
IsFrom p i q = (j : ℕ) × (rest : List ℕ) × (i ≤ j) × (q ≡ p ++ (j ∷ rest))

then_less : (o : Ordering) → o ≡ Less → (r : Ordering) → ordering_then o r ≡ Less
then_less o e r = rw e

then_equal : (o : Ordering) → o ≡ Equal → (r : Ordering) → ordering_then o r ≡ r
then_equal o e r = rw e

tied : (i : ℕ) → nat_cmp i i ≡ Equal
tied i = tied_itself nat_cmp_total i

-- a front in common decides nothing
pub before_under : (p q r : List ℕ) → IsBefore q r → IsBefore (p ++ q) (p ++ r)
before_under [] q r less = less
before_under (i ∷ is) q r less =
    then_equal (nat_cmp i i) (tied i) (slice_cmp nat_cmp (is ++ q) (is ++ r)) ∙ before_under is q r less

-- a path comes before what is below it
pub before_below : (p : List ℕ) (i : ℕ) (q : List ℕ) → IsFrom p i q → IsBefore p q
before_below p i q (j, rest, above, q_is) =
    rw q_is
    (subst
    (λ (front : List ℕ). IsBefore front (p ++ (j ∷ rest)))
    (append-nil p)
    (before_under p [] (j ∷ rest) refl))

-- what is below a child comes before what is below a later one
pub before_later : (p : List ℕ) (i : ℕ) (q r : List ℕ)
    → IsUnder (p ++ i ∷ []) q → IsFrom p (i + 1) r → IsBefore q r
before_later p i q r (rest, q_is) (j, other, above, r_is) =
    let less : i < j = omega arith in
    rw (q_is, r_is, append_assoc p (i ∷ []) rest)
    (before_under p (i ∷ rest) (j ∷ other)
    (then_less (nat_cmp i j) (sym (nat_cmp_is i j Less less)) (slice_cmp nat_cmp rest other)))

-- a path is not before itself
pub not_before_itself : (p : List ℕ) → IsBefore p p → ⊥
not_before_itself p less = let even = tied_itself nat_list_cmp_total p in let bad : Less ≡ Equal = sym less ∙ even in cc

under_child : (p : List ℕ) (i : ℕ) (q : List ℕ) → IsUnder (p ++ i ∷ []) q → IsFrom p i q
under_child p i q (rest, q_is) = (i, rest, omega arith, q_is ∙ append_assoc p (i ∷ []) rest)

from_earlier : (p : List ℕ) (i : ℕ) (q : List ℕ) → IsFrom p (i + 1) q → IsFrom p i q
from_earlier p i q (j, rest, above, q_is) = (j, rest, omega arith, q_is)

from_under : (p : List ℕ) (i : ℕ) (q : List ℕ) → IsFrom p i q → IsUnder p q
from_under p i q (j, rest, above, q_is) = (j ∷ rest, q_is)

own_under : (path q : List ℕ) → q ≡ path → IsUnder path q
own_under path q same = ([], same ∙ sym (append-nil path))

module _ {T A : Type 0} (way : A → List ℕ) (own : Place T → List A) where
  -- a place's own items stand at its path
  abbrev pub StandsAt : Type 0
  StandsAt = (place : Place T) → AllByRecursion (λ a. way a ≡ place.path) (own place)

  -- everything below a place is under its path
  abbrev pub StaysUnder : (Place T → List A) → Type 0
  StaysUnder below = (place : Place T) → AllByRecursion (λ a. IsUnder place.path (way a)) (below place)

  pub from_kids : (below : Place T → List A) → StaysUnder below → (path : List ℕ) (n i : ℕ) (kids : List T)
      → AllByRecursion (λ a. IsFrom path i (way a)) (flat_map below (numbered path n i kids))
  from_kids below stays path n i [] = tt
  from_kids below stays path n i (kid ∷ kids) =
      all_append
      (λ a. IsFrom path i (way a))
      (below (record { path = path ++ i ∷ []; steps = n; task = kid }))
      (flat_map below (numbered path n (i + 1) kids))
      (all_weaker
      (λ a. IsUnder (path ++ i ∷ []) (way a))
      (λ a. IsFrom path i (way a))
      (λ a. under_child path i (way a))
      (below (record { path = path ++ i ∷ []; steps = n; task = kid }))
      (stays (record { path = path ++ i ∷ []; steps = n; task = kid })))
      (all_weaker
      (λ a. IsFrom path (i + 1) (way a))
      (λ a. IsFrom path i (way a))
      (λ a. from_earlier path i (way a))
      (flat_map below (numbered path n (i + 1) kids))
      (from_kids below stays path n (i + 1) kids))

  under_children : {L : Type 0} (below : Place T → List A) → StaysUnder below → (path : List ℕ) (n : ℕ) (made : Step T L)
      → AllByRecursion (λ a. IsUnder path (way a)) (flat_map below (children path (suc n) made))
  under_children below stays path n Gone = tt
  under_children below stays path n (Emit leaf) = tt
  under_children below stays path n TooWide = tt
  under_children below stays path n (Kids []) = tt
  under_children below stays path n (Kids (only ∷ [])) =
      all_append (λ a. IsUnder path (way a)) (below (record { path = path; steps = n; task = only })) []
      (stays (record { path = path; steps = n; task = only }))
      tt
  under_children below stays path n (Kids (first ∷ second ∷ others)) =
      all_weaker
      (λ a. IsFrom path 1 (way a))
      (λ a. IsUnder path (way a))
      (λ a. from_under path 1 (way a))
      (flat_map below (numbered path n 1 (first ∷ second ∷ others)))
      (from_kids below stays path n 1 (first ∷ second ∷ others))

  pub under_below : {L : Type 0} (step : T → Step T L) → StandsAt → (n : ℕ) (path : List ℕ) (task : T)
      → AllByRecursion (λ a. IsUnder path (way a)) (preorder_below step own n path task)
  under_below step stands zero path task =
      all_weaker (λ a. way a ≡ path) (λ a. IsUnder path (way a)) (λ a. own_under path (way a))
      (own (record { path = path; steps = zero; task = task }))
      (stands (record { path = path; steps = zero; task = task }))
  under_below step stands (suc n) path task =
      all_append
      (λ a. IsUnder path (way a))
      (own (record { path = path; steps = suc n; task = task }))
      (flat_map (λ (kid : Place T). preorder_below step own n kid.path kid.task) (children path (suc n) (step task)))
      (all_weaker (λ a. way a ≡ path) (λ a. IsUnder path (way a)) (λ a. own_under path (way a))
      (own (record { path = path; steps = suc n; task = task }))
      (stands (record { path = path; steps = suc n; task = task })))
      (under_children
      (λ (kid : Place T). preorder_below step own n kid.path kid.task)
      (λ (kid : Place T). under_below step stands n kid.path kid.task)
      path n (step task))

module _ {T A : Type 0} (way : A → List ℕ) (own : Place T → List A) (R : A → A → Type 0) where
  -- an item whose path comes before stands in the relation
  abbrev pub GoesByPath : Type 0
  GoesByPath = (a b : A) → IsBefore (way a) (way b) → R a b

  ascends_kids : (below : Place T → List A) → GoesByPath → StaysUnder way own below
      → ((place : Place T) → Ascends R (below place)) → (path : List ℕ) (n i : ℕ) (kids : List T)
      → Ascends R (flat_map below (numbered path n i kids))
  ascends_kids below goes stays up path n i [] = tt
  ascends_kids below goes stays up path n i (kid ∷ kids) =
      Ascends-append
      R
      (below (record { path = path ++ i ∷ []; steps = n; task = kid }))
      (flat_map below (numbered path n (i + 1) kids))
      (up (record { path = path ++ i ∷ []; steps = n; task = kid }))
      (ascends_kids below goes stays up path n (i + 1) kids)
      (all_weaker
      (λ a. IsUnder (path ++ i ∷ []) (way a))
      (λ a. AllByRecursion (R a) (flat_map below (numbered path n (i + 1) kids)))
      (λ a under.
      all_weaker
      (λ b. IsFrom path (i + 1) (way b))
      (R a)
      (λ b from. goes a b (before_later path i (way a) (way b) under from))
      (flat_map below (numbered path n (i + 1) kids))
      (from_kids way own below stays path n (i + 1) kids))
      (below (record { path = path ++ i ∷ []; steps = n; task = kid }))
      (stays (record { path = path ++ i ∷ []; steps = n; task = kid })))

  ascends_children : {L : Type 0} (below : Place T → List A) → GoesByPath → StaysUnder way own below
      → ((place : Place T) → Ascends R (below place)) → (path : List ℕ) (n : ℕ) (made : Step T L)
      → Ascends R (flat_map below (children path (suc n) made))
  ascends_children below goes stays up path n Gone = tt
  ascends_children below goes stays up path n (Emit leaf) = tt
  ascends_children below goes stays up path n TooWide = tt
  ascends_children below goes stays up path n (Kids []) = tt
  ascends_children below goes stays up path n (Kids (only ∷ [])) =
      rw append-nil (up (record { path = path; steps = n; task = only }))
  ascends_children below goes stays up path n (Kids (first ∷ second ∷ others)) =
      ascends_kids below goes stays up path n 1 (first ∷ second ∷ others)

  -- the places' own items ascend, and come before those of the children
  pub ascends_below : {L : Type 0} (step : T → Step T L) → StandsAt way own → GoesByPath
      → ((place : Place T) → Ascends R (own place))
      → ((n : ℕ) (path : List ℕ) (task : T)
      → AllByRecursion
      (λ a.
      AllByRecursion
      (R a)
      (flat_map
      (λ (kid : Place T). preorder_below step own n kid.path kid.task)
      (children path (suc n) (step task))))
      (own (record { path = path; steps = suc n; task = task })))
      → (n : ℕ) (path : List ℕ) (task : T) → Ascends R (preorder_below step own n path task)
  ascends_below step stands goes own_up own_first zero path task =
      own_up (record { path = path; steps = zero; task = task })
  ascends_below step stands goes own_up own_first (suc n) path task =
      Ascends-append
      R
      (own (record { path = path; steps = suc n; task = task }))
      (flat_map
      (λ (kid : Place T). preorder_below step own n kid.path kid.task)
      (children path (suc n) (step task)))
      (own_up (record { path = path; steps = suc n; task = task }))
      (ascends_children
      (λ (kid : Place T). preorder_below step own n kid.path kid.task)
      goes
      (λ (kid : Place T). under_below way own step stands n kid.path kid.task)
      (λ (kid : Place T). ascends_below step stands goes own_up own_first n kid.path kid.task)
      path n (step task))
      (own_first n path task)
