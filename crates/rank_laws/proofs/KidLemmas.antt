-- The children of steps one after the other.
use Rattle.std.proofs.Common.{List, [], ◌∷◌, map}
use Rattle.std.specs.List.{AllByRecursion}
use Rattle.split_paths.specs.declared.splitter.Step.{Step}
use Rattle.split_paths.specs.declared.splitter.Step.TheVariants.{Gone, Emit, TooWide, Kids}
use Rattle.tree_laws.specs.Steps.{emitted_then, gives_way_to, with_each_kid}
use Rattle.rank_laws.specs.Kids.{EachKid}

-- the children of the first step, or of the second
pub emitted_kids : {T L M : Type 0} (P : T → Type 0) (s : Step T L) (f : L → Step T M) → EachKid P s → ((x : L) → EachKid P (f x)) → EachKid P (emitted_then s f)
emitted_kids P Gone f here further = tt
emitted_kids P (Emit x) f here further = further x
emitted_kids P TooWide f here further = tt
emitted_kids P (Kids kids) f here further = here

-- those that it gives way to
pub given_kids : {T : Type 0} (L : Type 0) (P : T → Type 0) (kids : List T) → AllByRecursion P kids → EachKid {T = T} {L = L} P (gives_way_to kids)
given_kids L P [] each = tt
given_kids L P (kid ∷ kids) each = each

-- children that are changed
each_mapped : {T U : Type 0} (P : T → Type 0) (Q : U → Type 0) (g : T → U) → ((x : T) → P x → Q (g x)) → (kids : List T) → AllByRecursion P kids → AllByRecursion Q (map g kids)
each_mapped P Q g step [] each = tt
each_mapped P Q g step (kid ∷ kids) each = (step kid each.0, each_mapped P Q g step kids each.1)

pub changed_kids : {T U L : Type 0} (P : T → Type 0) (Q : U → Type 0) (g : T → U) → ((x : T) → P x → Q (g x)) → (s : Step T L) → EachKid P s → EachKid Q (with_each_kid g s)
changed_kids P Q g step Gone each = tt
changed_kids P Q g step (Emit x) each = tt
changed_kids P Q g step TooWide each = tt
changed_kids P Q g step (Kids kids) each = each_mapped P Q g step kids each
