-- A second step after one whose results are known to meet a property.
use Rattle.std.proofs.Common.{Option, Some, None, IfSome}
use Rattle.division_rules.specs.Within.{and_then}

-- what follows from a result of the first step holds of what comes of the second
pub then_follows : {A B : Type 0} (P : A → Type 0) (Q : B → Type 0) (x : Option A) (f : A → Option B) → IfSome x P → ((a : A) → P a → IfSome (f a) Q) → IfSome (and_then x f) Q
then_follows P Q None f of_x each = tt
then_follows P Q (Some a) f of_x each = each a of_x
