-- The leads of remainder rows: those that aren't known nonzero, and the polynomial without them.
use Rattle.std.specs.Prelude.{ℕ, suc, true, false, List, [], ◌∷◌}
use Rattle.polynomials.specs.Polynomials.{Polynomial}
use Rattle.zero_sets.specs.Tasks.{is_known_nonzero, with_nonzero}

-- ns and each of hs in order, made monic, unless it is known nonzero by then
abbrev pub with_all_nonzero : ℕ → List Polynomial → List Polynomial → List Polynomial
with_all_nonzero p ns [] = ns
with_all_nonzero p ns (h ∷ hs) = with_all_nonzero p (with_nonzero p ns h) hs

-- the numbers, counted from j, of those of hs that aren't known nonzero under ns and those before
-- them
abbrev pub unknown_from : ℕ → List Polynomial → ℕ → List Polynomial → List ℕ
unknown_from p ns j [] = []
unknown_from p ns j (h ∷ hs) =
    let later = unknown_from p (with_nonzero p ns h) (suc j) hs in
    elim (is_known_nonzero p ns h) [ true ↦ later | false ↦ j ∷ later ]

-- the lead cases: the numbers j, from 2 on, of the leads that aren't known nonzero under ns and the
-- leads before them
abbrev pub lead_cases : ℕ → List Polynomial → List Polynomial → List ℕ
lead_cases p ns [] = []
lead_cases p ns (l ∷ ls) = unknown_from p (with_nonzero p ns l) 2 ls
