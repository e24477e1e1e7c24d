-- What holds of each of a list.
use Rattle.std.proofs.Common.{List}
use Rattle.std.specs.List.{AllByRecursion}
use Rattle.split_paths.proofs.Lists.{all_both}
pub use Rattle.split_paths.proofs.Lists.{all_append as each_appended, all_weaker as each_implied, all_contains as each_member}

-- two facts
pub each_both : {X : Type 0} (Q R : X → Type 0) (xs : List X) → AllByRecursion Q xs → AllByRecursion R xs → AllByRecursion (λ x. Q x × R x) xs
each_both Q R xs h k = all_both Q R (λ x. Q x × R x) (λ x q r. (q, r)) xs h k
