-- Points of a quasi-component, member by member.
use Rattle.std.proofs.Common.{◌≡◌, ◌≢◌, ℕ, List, [], ◌∷◌}
use Rattle.std.specs.List.{AllByRecursion}
use Rattle.polynomials.specs.Polynomials.{Polynomial}
use Rattle.polynomials.specs.Views.{initial_of}
use Rattle.zero_sets.specs.Domains.{Tables, value_at}
use Rattle.zero_sets.specs.ZeroSets.{InQuasiComponent}

-- the point is a zero of t, and not of its initial
abbrev pub IsRegularZero : Tables → List ℕ → Polynomial → Type 0
IsRegularZero r xs t = (value_at r xs t ≡ r.nil) × (value_at r xs (initial_of t) ≢ r.nil)

-- a point of a quasi-component, member by member
pub each_regular : (r : Tables) (xs : List ℕ) (chain : List Polynomial) → InQuasiComponent r xs chain → AllByRecursion (IsRegularZero r xs) chain
each_regular r xs [] h = tt
each_regular r xs (t ∷ chain) h = ((h.0.0, h.1.0), each_regular r xs chain (h.0.1, h.1.1))

-- and together
pub regular_each : (r : Tables) (xs : List ℕ) (chain : List Polynomial) → AllByRecursion (IsRegularZero r xs) chain → InQuasiComponent r xs chain
regular_each r xs [] h = (tt, tt)
regular_each r xs (t ∷ chain) h =
    let rest = regular_each r xs chain h.1 in
    ((h.0.0, rest.0), (h.0.1, rest.1))
