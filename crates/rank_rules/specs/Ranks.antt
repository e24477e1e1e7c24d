-- The rank of a task: what falls from each task to its children.
use Rattle.std.specs.Prelude.{ℕ, zero, suc, true, false, List, [], ◌∷◌, ◌++◌, Option, Some, None}
use Rattle.polynomials.specs.Polynomials.{Polynomial, is_zero}
use Rattle.polynomials.specs.Fits.{most_exponent}
use Rattle.polynomials.specs.Views.{degree_in, main_var}
use Rattle.zero_sets.specs.ZeroSets.{member_in}
use Rattle.zero_sets.specs.Tasks.{Task}
use Rattle.row_laws.specs.Words.{reduction_of}
use Rattle.impose_rules.specs.Factors.{stripped}

-- the degree in v of the polynomial with that main variable, and more than any where there is none
abbrev pub degree_or_more : ℕ → Option Polynomial → ℕ
degree_or_more v None = suc most_exponent
degree_or_more v (Some t) = degree_in v t

-- those degrees of a triangular set for the variables below k, the greatest first
abbrev pub degrees_below : ℕ → List Polynomial → List ℕ
degrees_below zero chain = []
degrees_below (suc v) chain = degree_or_more v (member_in v chain) ∷ degrees_below v chain

-- one more than a variable, and 0 where there is none
abbrev pub number_of : Option ℕ → ℕ
number_of None = 0
number_of (Some v) = suc v

-- modulo p, in n variables, with quotients within the width w; reductions have no limit
module _ (p n w : ℕ) (chain ns : List Polynomial) where
  -- how many polynomials at the front reduce to 0
  abbrev pub zeros_in_front : List Polynomial → ℕ
  zeros_in_front [] = 0
  zeros_in_front (f ∷ rest) = elim (is_zero (reduction_of p n chain f)) [
    | true ↦ suc (zeros_in_front rest)
    | false ↦ 0
  ]

  -- the number of the main variable of what is left of f, reduced, without the factors ns
  abbrev pub number_left : Polynomial → ℕ
  number_left f = number_of (main_var (stripped p w ns (reduction_of p n chain f)))

  -- the phase by the head of the queue, and a number: 2 while the head reduces to 0, 1 where there
  -- is none, and 0 where something is left to impose
  abbrev pub phase_of : List Polynomial → List ℕ
  phase_of [] = 1 ∷ 0 ∷ []
  phase_of (f ∷ rest) = elim (is_zero (reduction_of p n chain f)) [
    | true ↦ 2 ∷ zeros_in_front (f ∷ rest) ∷ []
    | false ↦ 0 ∷ number_left f ∷ []
  ]

-- the rank of a task whose polynomials have the variables below k: k degrees, the phase and its
-- number
abbrev pub rank_of : ℕ → ℕ → ℕ → ℕ → Task → List ℕ
rank_of p n k w task =
    degrees_below k task.chain ++ phase_of p n w task.chain task.nonzero task.queue
