-- The events of a tree that are ahead of a path.
use Rattle.std.proofs.Common.{◌≡◌, ℕ, zero, suc, Bool, true, false, cond, List, [], ◌∷◌, filter, AllPairs, Contains, refl, sym, ap, ◌∙◌, subst, arith, is_lt, is_le, nat_cmp, Ordering}
use Rattle.std.specs.Cmp.Lexicographic.{slice_cmp}
use Rattle.std.specs.List.{AllByRecursion}
use Rattle.std.specs.declared.cmp.Ordering.TheVariants.{Less, Equal, Greater}
use Rattle.std.proofs.lemmas.List.Elements.{recursion_from_All}
use Rattle.split_paths.specs.declared.event.Event.{Event}
use Rattle.split_paths.specs.Walk.{path_of}
use Rattle.split_paths.proofs.EventOrder.{IsEarlier}
use Rattle.split_paths.proofs.Lists.{all_weaker, all_contained, Ascends}
use Rattle.collector.proofs.PathOrder.{less_from_lt, at_itself, same_path, before_from, same_tests}

pub Ascends-from_pairs : {A : Type 0} (R : A → A → Type 0) (xs : List A) → AllPairs R xs → Ascends R xs
Ascends-from_pairs R [] pairs = tt
Ascends-from_pairs R (x ∷ xs) pairs = (
  recursion_from_All (R x) xs (λ k d within. pairs zero (suc k) d (omega arith) (omega arith)),
  Ascends-from_pairs R xs (λ i j d before within. pairs (suc i) (suc j) d (omega arith) (omega arith)),
)

all_kept : {A : Type 0} (P : A → Type 0) (b : Bool) (x : A) (xs : List A) → P x → AllByRecursion P xs
    → AllByRecursion P (cond b (x ∷ xs) xs)
all_kept P true x xs of_x of_xs = (of_x, of_xs)
all_kept P false x xs of_x of_xs = of_xs

pub all_filter : {A : Type 0} (P : A → Type 0) (test : A → Bool) (xs : List A) → AllByRecursion P xs
    → AllByRecursion P (filter test xs)
all_filter P test [] all = tt
all_filter P test (x ∷ xs) all = all_kept P (test x) x (filter test xs) all.0 (all_filter P test xs all.1)

Ascends-kept : {A : Type 0} (R : A → A → Type 0) (b : Bool) (x : A) (xs : List A) → AllByRecursion (R x) xs
    → Ascends R xs → Ascends R (cond b (x ∷ xs) xs)
Ascends-kept R true x xs of_x up = (of_x, up)
Ascends-kept R false x xs of_x up = up

pub Ascends-filter : {A : Type 0} (R : A → A → Type 0) (test : A → Bool) (xs : List A) → Ascends R xs
    → Ascends R (filter test xs)
Ascends-filter R test [] up = tt
Ascends-filter R test (x ∷ xs) up =
    Ascends-kept R (test x) x (filter test xs) (all_filter (R x) test xs up.0) (Ascends-filter R test xs up.1)

kept_passes : {A : Type 0} (P : A → Type 0) (b : Bool) (x : A) (xs : List A) → AllByRecursion P (cond b (x ∷ xs) xs)
    → (b ≡ true → P x) × AllByRecursion P xs
kept_passes P true x xs all = (λ e. all.0, all.1)
kept_passes P false x xs all = (λ e. absurd (cc), all)

-- what holds of the items that pass holds of each item, if it passes
pub all_from_filter : {A : Type 0} (P : A → Type 0) (test : A → Bool) (xs : List A)
    → AllByRecursion P (filter test xs) → AllByRecursion (λ x. test x ≡ true → P x) xs
all_from_filter P test [] all = tt
all_from_filter P test (x ∷ xs) all =
    let parts = kept_passes P (test x) x (filter test xs) all in
    (parts.0, all_from_filter P test xs parts.1)

kept_test : {A : Type 0} (test : A → Bool) (x : A) (ys : List A) → AllByRecursion (λ y. test y ≡ true) ys
    → (b : Bool) → test x ≡ b → AllByRecursion (λ y. test y ≡ true) (cond b (x ∷ ys) ys)
kept_test test x ys all true is = (is, all)
kept_test test x ys all false is = all

-- the items that pass do pass
pub filter_test : {A : Type 0} (test : A → Bool) (xs : List A) → AllByRecursion (λ x. test x ≡ true) (filter test xs)
filter_test test [] = tt
filter_test test (x ∷ xs) = kept_test test x (filter test xs) (filter_test test xs) (test x) refl

pub filter_same : {A : Type 0} (f g : A → Bool) (xs : List A) → AllByRecursion (λ x. f x ≡ g x) xs
    → filter f xs ≡ filter g xs
filter_same f g [] same = refl
filter_same f g (x ∷ xs) same =
    ap (λ (b : Bool). cond b (x ∷ filter f xs) (filter f xs)) same.0
    ∙ ap (λ ys. cond (g x) (x ∷ ys) ys) (filter_same f g xs same.1)

pub filter_all : {A : Type 0} (test : A → Bool) (xs : List A) → AllByRecursion (λ x. test x ≡ true) xs
    → filter test xs ≡ xs
filter_all test [] all = refl
filter_all test (x ∷ xs) all =
    ap (λ (b : Bool). cond b (x ∷ filter test xs) (filter test xs)) all.0
    ∙ ap (λ ys. x ∷ ys) (filter_all test xs all.1)

pub filter_none : {A : Type 0} (xs : List A) → filter (λ x. false) xs ≡ []
filter_none [] = refl
filter_none (x ∷ xs) = filter_none xs

module _ {L : Type 0} (q : List ℕ) where
  abbrev from_here : Event L → Bool
  from_here e = is_le (slice_cmp nat_cmp q (path_of e))

  abbrev after_here : Event L → Bool
  after_here e = is_lt (slice_cmp nat_cmp q (path_of e))

  later_pass : (x : Event L) (xs : List (Event L)) → path_of x ≡ q → AllByRecursion (λ (f : Event L). IsEarlier x f) xs
      → filter after_here xs ≡ filter from_here xs
  later_pass x xs at later =
      filter_same after_here from_here xs
      (all_weaker
      (λ (f : Event L). IsEarlier x f)
      (λ (f : Event L). after_here f ≡ from_here f)
      (λ f less. let e : slice_cmp nat_cmp q (path_of f) ≡ Less = subst (λ (p : List ℕ). slice_cmp nat_cmp p (path_of f) ≡ Less) at less in rw e)
      xs later)

  next_by : (x : Event L) (xs : List (Event L)) (e : Event L) (rest : List (Event L))
      → AllByRecursion (λ (f : Event L). IsEarlier x f) xs
      → (filter from_here xs ≡ e ∷ rest → filter after_here xs ≡ rest) → path_of e ≡ q
      → (o : Ordering) → slice_cmp nat_cmp q (path_of x) ≡ o
      → cond (is_le o) (x ∷ filter from_here xs) (filter from_here xs) ≡ e ∷ rest
      → cond (is_lt o) (x ∷ filter after_here xs) (filter after_here xs) ≡ rest
  next_by x xs e rest later next at Less o_is is =
      let one : x ≡ e = cc in
      let tied : slice_cmp nat_cmp q (path_of x) ≡ Equal =
      subst (λ (p : List ℕ). slice_cmp nat_cmp q p ≡ Equal) (sym (ap path_of one ∙ at)) (at_itself q) in
      let bad : Less ≡ Equal = sym o_is ∙ tied in cc
  next_by x xs e rest later next at Equal o_is is =
      let others : filter from_here xs ≡ rest = cc in
      later_pass x xs (sym (same_path q (path_of x) o_is)) later ∙ others
  next_by x xs e rest later next at Greater o_is is = next is

  -- past the event at the path are those after it
  pub next_ahead : (xs : List (Event L)) (e : Event L) (rest : List (Event L)) → Ascends (λ (x y : Event L). IsEarlier x y) xs
      → filter from_here xs ≡ e ∷ rest → path_of e ≡ q → filter after_here xs ≡ rest
  next_ahead [] e rest up is at = cc
  next_ahead (x ∷ xs) e rest up is at =
      next_by x xs e rest up.0 (λ more. next_ahead xs e rest up.1 more at) at (slice_cmp nat_cmp q (path_of x)) refl is

-- of a tree's events, those after a path are those from the next one on
pub same_from_next : {L : Type 0} (events : List (Event L)) (q r : List ℕ) (e : Event L) (rest : List (Event L))
    → Ascends (λ (x y : Event L). IsEarlier x y) events
    → filter (λ (x : Event L). is_lt (slice_cmp nat_cmp q (path_of x))) events ≡ e ∷ rest → path_of e ≡ r
    → AllByRecursion (λ (x : Event L). is_lt (slice_cmp nat_cmp q (path_of x)) ≡ is_le (slice_cmp nat_cmp r (path_of x))) events
same_from_next {L} events q r e rest up is at =
    let after : Event L → Bool = λ (x : Event L). is_lt (slice_cmp nat_cmp q (path_of x)) in
    let From : Event L → Type 0 = λ (x : Event L). is_le (slice_cmp nat_cmp r (path_of x)) ≡ true in
    let later : Ascends (λ (x y : Event L). IsEarlier x y) (e ∷ rest) =
    subst (λ (xs : List (Event L)). Ascends (λ (x y : Event L). IsEarlier x y) xs) is
    (Ascends-filter (λ (x y : Event L). IsEarlier x y) after events up) in
    let passes : AllByRecursion (λ (x : Event L). after x ≡ true) (e ∷ rest) =
    subst (λ (xs : List (Event L)). AllByRecursion (λ (x : Event L). after x ≡ true) xs) is (filter_test after events) in
    let first : From e = subst (λ (p : List ℕ). is_le (slice_cmp nat_cmp r p) ≡ true) (sym at) (ap is_le (at_itself r)) in
    let others : AllByRecursion From rest =
    all_weaker (λ (x : Event L). IsEarlier e x) From
    (λ x less. ap is_le (subst (λ (p : List ℕ). slice_cmp nat_cmp p (path_of x) ≡ Less) at less))
    rest later.0 in
    let before : slice_cmp nat_cmp q r ≡ Less =
    subst (λ (p : List ℕ). slice_cmp nat_cmp q p ≡ Less) at (less_from_lt (slice_cmp nat_cmp q (path_of e)) passes.0) in
    all_weaker
    (λ (x : Event L). after x ≡ true → From x)
    (λ (x : Event L). after x ≡ is_le (slice_cmp nat_cmp r (path_of x)))
    (λ x to. same_tests (after x) (is_le (slice_cmp nat_cmp r (path_of x))) to
    (λ from. ap is_lt (before_from q r (path_of x) before from)))
    events
    (all_from_filter From after events
    (subst (λ (xs : List (Event L)). AllByRecursion From xs) (sym is) (first, others)))

-- each event that is ahead is one of the tree
pub ahead_contained : {A : Type 0} (test : A → Bool) (xs : List A) → AllByRecursion (Contains xs) (filter test xs)
ahead_contained test xs = all_filter (Contains xs) test xs (all_contained xs)
