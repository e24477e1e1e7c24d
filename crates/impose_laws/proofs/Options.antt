-- A second step where there is a result of the first.
use Rattle.std.proofs.Common.{◌≡◌, Option, Some, None, IfSome, refl}
use Rattle.division_rules.specs.Within.{and_then}

-- what comes of a second step comes of a result of the first
pub then_some : {A B : Type 0} (x : Option A) (f : A → Option B) (y : B) → and_then x f ≡ Some y → (a : A) × (x ≡ Some a) × (f a ≡ Some y)
then_some None f y e = cc
then_some (Some a) f y e = (a, refl, e)

-- and what holds of each of its results holds of what comes
pub then_holds : {A B : Type 0} (Q : B → Type 0) (x : Option A) (f : A → Option B) → ((a : A) → x ≡ Some a → IfSome (f a) Q) → IfSome (and_then x f) Q
then_holds Q None f each = tt
then_holds Q (Some a) f each = each a refl
