-- Leads that aren't 0, at their places.
use Rattle.std.proofs.Common.{◌≡◌, ◌≢◌, ℕ, List, [], Some, All, subst}
use Rattle.std.specs.List.{slice_get}
use Rattle.std.proofs.lemmas.Option.{slice_get_within, get_or_from_slice_get}
use Rattle.polynomials.specs.Polynomials.{Polynomial}

-- where no lead is 0, that at a place isn't
pub nonzero_at : (ls : List Polynomial) (i : ℕ) (l : Polynomial) → All (λ x. x ≢ []) ls → slice_get ls i ≡ Some l → l ≢ []
nonzero_at ls i l all at = subst (λ x. x ≢ []) (get_or_from_slice_get ls i l l at) (all i l (slice_get_within ls i l at))
