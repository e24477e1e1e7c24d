-- What holds of each item of a list, by recursion, and of each pair.
use Rattle.std.proofs.Common.{zero, suc, List, [], ◌∷◌, ◌++◌, arith}
use Rattle.std.specs.List.{AllByRecursion, AllPairs, Contains, flat_map}
use Rattle.std.proofs.lemmas.List.Elements.{All-from_recursion, All-contains, recursion_from_All, All-contains_itself}

pub all_append : {A : Type 0} (P : A → Type 0) (xs ys : List A)
    → AllByRecursion P xs → AllByRecursion P ys → AllByRecursion P (xs ++ ys)
all_append P [] ys of_xs of_ys = of_ys
all_append P (x ∷ xs) ys of_xs of_ys = (of_xs.0, all_append P xs ys of_xs.1 of_ys)

pub all_weaker : {A : Type 0} (P Q : A → Type 0) (weaker : (a : A) → P a → Q a) (xs : List A)
    → AllByRecursion P xs → AllByRecursion Q xs
all_weaker P Q weaker [] of_xs = tt
all_weaker P Q weaker (x ∷ xs) of_xs = (weaker x of_xs.0, all_weaker P Q weaker xs of_xs.1)

-- what holds of everything holds of each item
pub all_always : {A : Type 0} (P : A → Type 0) (always : (a : A) → P a) (xs : List A)
    → AllByRecursion P xs
all_always P always [] = tt
all_always P always (x ∷ xs) = (always x, all_always P always xs)

pub all_flat_map : {X A : Type 0} (P : A → Type 0) (f : X → List A) (xs : List X)
    → AllByRecursion (λ x. AllByRecursion P (f x)) xs → AllByRecursion P (flat_map f xs)
all_flat_map P f [] of_xs = tt
all_flat_map P f (x ∷ xs) of_xs = all_append P (f x) (flat_map f xs) of_xs.0 (all_flat_map P f xs of_xs.1)

pub all_contains : {A : Type 0} (P : A → Type 0) (xs : List A) (x : A)
    → AllByRecursion P xs → Contains xs x → P x
all_contains P xs x of_xs has = All-contains P xs x (All-from_recursion P xs of_xs) has

-- a list contains each of its items
pub all_contained : {A : Type 0} (xs : List A) → AllByRecursion (Contains xs) xs
all_contained xs = recursion_from_All (Contains xs) xs (All-contains_itself xs)

-- each item stands in this relation to those after it
abbrev pub Ascends : {A : Type 0} → (A → A → Type 0) → List A → Type 0
Ascends R [] = Unit {0}
Ascends R (x ∷ xs) = AllByRecursion (R x) xs × Ascends R xs

pub Ascends-append : {A : Type 0} (R : A → A → Type 0) (xs ys : List A)
    → Ascends R xs → Ascends R ys → AllByRecursion (λ x. AllByRecursion (R x) ys) xs
    → Ascends R (xs ++ ys)
Ascends-append R [] ys of_xs of_ys across = of_ys
Ascends-append R (x ∷ xs) ys of_xs of_ys across =
    (all_append (R x) xs ys of_xs.0 across.0, Ascends-append R xs ys of_xs.1 of_ys across.1)

pub pairs_from_Ascends : {A : Type 0} (R : A → A → Type 0) (xs : List A) → Ascends R xs → AllPairs R xs
pairs_from_Ascends R [] up i j d before in_xs = absurd (omega arith)
pairs_from_Ascends R (x ∷ xs) up i zero d before in_xs = absurd (omega arith)
pairs_from_Ascends R (x ∷ xs) up zero (suc j) d before in_xs =
    All-from_recursion (R x) xs up.0 j d (omega arith)
pairs_from_Ascends R (x ∷ xs) up (suc i) (suc j) d before in_xs =
    pairs_from_Ascends R xs up.1 i j d (omega arith) (omega arith)

-- what follows from two facts on each item
pub all_both : {A : Type 0} (P Q R : A → Type 0) (joined : (a : A) → P a → Q a → R a) (xs : List A)
    → AllByRecursion P xs → AllByRecursion Q xs → AllByRecursion R xs
all_both P Q R joined [] of_xs also = tt
all_both P Q R joined (x ∷ xs) of_xs also = (joined x of_xs.0 also.0, all_both P Q R joined xs of_xs.1 also.1)
