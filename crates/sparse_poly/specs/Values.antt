-- What the value of a result is, in every finite domain of the characteristic and at every point.
use Rattle.std.specs.Prelude.{◌≡◌, ◌↔◌, ℕ, List, get_or}
use Rattle.polynomials.specs.Polynomials.{Polynomial}
use Rattle.polynomials.specs.Views.{degree_in}
use Rattle.zero_sets.specs.Domains.{Tables, IsPointOver, plus_in, times_in, power_at, value_at}

-- h has the sum of the values of f and g
abbrev pub HasValueOfSum : ℕ → Polynomial → Polynomial → Polynomial → Type 0
HasValueOfSum p f g h =
    (r : Tables) (xs : List ℕ) → IsPointOver p r xs →
    value_at r xs h ≡ plus_in r (value_at r xs f) (value_at r xs g)

-- the values of h and g add to that of f
abbrev pub HasValueOfDifference : ℕ → Polynomial → Polynomial → Polynomial → Type 0
HasValueOfDifference p f g h =
    (r : Tables) (xs : List ℕ) → IsPointOver p r xs →
    plus_in r (value_at r xs h) (value_at r xs g) ≡ value_at r xs f

-- h has the product of the values of f and g
abbrev pub HasValueOfProduct : ℕ → Polynomial → Polynomial → Polynomial → Type 0
HasValueOfProduct p f g h =
    (r : Tables) (xs : List ℕ) → IsPointOver p r xs →
    value_at r xs h ≡ times_in r (value_at r xs f) (value_at r xs g)

-- h is zero where f is
abbrev pub HasZerosOf : ℕ → Polynomial → Polynomial → Type 0
HasZerosOf p f h =
    (r : Tables) (xs : List ℕ) → IsPointOver p r xs →
    (value_at r xs h ≡ r.nil) ↔ (value_at r xs f ≡ r.nil)

-- f has the value of its lead in v times the power of the coordinate, and of its tail
abbrev pub SplitsValue : ℕ → ℕ → Polynomial → Polynomial → Polynomial → Type 0
SplitsValue p v f lead tail =
    (r : Tables) (xs : List ℕ) → IsPointOver p r xs →
    value_at r xs f
    ≡ plus_in r
    (times_in r (value_at r xs lead) (power_at r (get_or xs v r.one) (degree_in v f)))
    (value_at r xs tail)
