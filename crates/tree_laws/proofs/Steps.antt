-- Steps one after the other keep points, laws and what is emitted.
use Rattle.std.proofs.Common.{◌≡◌, ◌<◌, ◌^◌, List, [], ◌∷◌, map, length, Option, Some, None, inl, inr, refl, sym, subst, arith}
use Rattle.std.specs.List.{AllByRecursion, Any}
use Rattle.std.proofs.lemmas.List.{length-map}
use Rattle.split_paths.specs.declared.splitter.Step.{Step}
use Rattle.split_paths.specs.declared.splitter.Step.TheVariants.{Gone, Emit, TooWide, Kids}
use Rattle.split_paths.specs.Lawful.{IsLawfulStep}
use Rattle.tree_laws.specs.Points.{IsKeptBy, IfEmitted}
use Rattle.tree_laws.proofs.Some.{some_nowhere, some_first, some_right, some_cases}
use Rattle.tree_laws.specs.Steps.{emitted_then, fitting_then, gives_way_to, with_each_kid}

-- what holds of a step that is too wide, and of what follows what fits
pub fitting_holds : {A T L : Type 0} (Q : Step T L → Type 0) (x : Option A) (f : A → Step T L) → Q TooWide → ((a : A) → x ≡ Some a → Q (f a)) → Q (fitting_then x f)
fitting_holds Q None f wide each = wide
fitting_holds Q (Some a) f wide each = each a refl

-- a point that the first step leaves in a child, or where the second keeps it
pub emitted_kept : {T L M : Type 0} (P : T → Type 0) (R : L → Type 0) (S : M → Type 0) (s : Step T L) (f : L → Step T M) → IsKeptBy P R s → ((x : L) → R x → IsKeptBy P S (f x)) → IsKeptBy P S (emitted_then s f)
emitted_kept P R S Gone f kept each = kept
emitted_kept P R S (Emit x) f kept each = each x kept
emitted_kept P R S TooWide f kept each = tt
emitted_kept P R S (Kids kids) f kept each = kept

-- a point of one of those that it gives way to
pub some_kept : {T L : Type 0} (P : T → Type 0) (R : L → Type 0) (kids : List T) → Any P kids → IsKeptBy P R (gives_way_to kids)
some_kept P R [] some = some_nowhere P some
some_kept P R (kid ∷ kids) some = some

-- what is emitted by the second step, where the first emits what it should
pub emitted_emits : {T L M : Type 0} (R : L → Type 0) (S : M → Type 0) (s : Step T L) (f : L → Step T M) → IfEmitted R s → ((x : L) → R x → IfEmitted S (f x)) → IfEmitted S (emitted_then s f)
emitted_emits R S Gone f emits each = tt
emitted_emits R S (Emit x) f emits each = each x emits
emitted_emits R S TooWide f emits each = tt
emitted_emits R S (Kids kids) f emits each = tt

-- nothing is emitted by what gives way to others
pub nothing_emitted : {T L : Type 0} (R : L → Type 0) (kids : List T) → IfEmitted R (gives_way_to kids)
nothing_emitted R [] = tt
nothing_emitted R (kid ∷ kids) = tt

-- a point of some child is one of what that child is changed to
some_mapped : {T U : Type 0} (P : T → Type 0) (Q : U → Type 0) (g : T → U) → ((x : T) → P x → Q (g x)) → (kids : List T) → Any P kids → Any Q (map g kids)
some_mapped P Q g each [] some = absurd (some_nowhere P some)
some_mapped P Q g each (kid ∷ kids) some = elim (some_cases P kid kids some) [
  | inl here ↦ some_first Q (g kid) (map g kids) (each kid here)
  | inr later ↦ some_right Q (g kid ∷ []) (map g kids) (some_mapped P Q g each kids later)
]

pub changed_kept : {T U L : Type 0} (P : T → Type 0) (Q : U → Type 0) (R : L → Type 0) (g : T → U) → ((x : T) → P x → Q (g x)) → (s : Step T L) → IsKeptBy P R s → IsKeptBy Q R (with_each_kid g s)
changed_kept P Q R g each Gone kept = kept
changed_kept P Q R g each (Emit x) kept = kept
changed_kept P Q R g each TooWide kept = tt
changed_kept P Q R g each (Kids kids) kept = some_mapped P Q g each kids kept

-- a lawful step, and another after what it emits
pub emitted_lawful : {T L M : Type 0} (P : T → Type 0) (R : L → Type 0) (S : M → Type 0) (s : Step T L) (f : L → Step T M) → IsLawfulStep P R s → ((x : L) → R x → IsLawfulStep P S (f x)) → IsLawfulStep P S (emitted_then s f)
emitted_lawful P R S Gone f lawful each = tt
emitted_lawful P R S (Emit x) f lawful each = each x lawful
emitted_lawful P R S TooWide f lawful each = tt
emitted_lawful P R S (Kids kids) f lawful each = lawful

-- few lawful children
pub few_lawful : {T L : Type 0} (P : T → Type 0) (R : L → Type 0) (kids : List T) → length kids < 2 ^ 32 → AllByRecursion P kids → IsLawfulStep P R (gives_way_to kids)
few_lawful P R [] few lawful = tt
few_lawful P R (kid ∷ kids) few lawful = (omega arith, few, lawful)

-- children that are changed to lawful ones
each_mapped : {T U : Type 0} (P : T → Type 0) (Q : U → Type 0) (g : T → U) → ((x : T) → P x → Q (g x)) → (kids : List T) → AllByRecursion P kids → AllByRecursion Q (map g kids)
each_mapped P Q g each [] lawful = tt
each_mapped P Q g each (kid ∷ kids) lawful = (each kid lawful.0, each_mapped P Q g each kids lawful.1)

pub changed_lawful : {T U L : Type 0} (P : T → Type 0) (Q : U → Type 0) (R : L → Type 0) (g : T → U) → ((x : T) → P x → Q (g x)) → (s : Step T L) → IsLawfulStep P R s → IsLawfulStep Q R (with_each_kid g s)
changed_lawful P Q R g each Gone lawful = tt
changed_lawful P Q R g each (Emit x) lawful = lawful
changed_lawful P Q R g each TooWide lawful = tt
changed_lawful P Q R g each (Kids kids) (some, few, lawful) = (subst (λ m. 0 < m) (sym (length-map kids g)) some, subst (λ m. m < 2 ^ 32) (sym (length-map kids g)) few, each_mapped P Q g each kids lawful)

-- what is emitted meets what it is known to meet besides
pub emitted_both : {T L : Type 0} (P : T → Type 0) (R S Q : L → Type 0) → ((x : L) → R x → S x → Q x) → (s : Step T L) → IsLawfulStep P R s → IfEmitted S s → IsLawfulStep P Q s
emitted_both P R S Q join Gone lawful emits = tt
emitted_both P R S Q join (Emit x) lawful emits = join x lawful emits
emitted_both P R S Q join TooWide lawful emits = tt
emitted_both P R S Q join (Kids kids) lawful emits = lawful
