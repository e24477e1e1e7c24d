-- A rank has a number for each variable, and two more.
use Rattle.std.proofs.Common.{◌≡◌, ℕ, zero, suc, List, [], ◌∷◌, length, length-append, refl, ap, arith}
use Rattle.polynomials.specs.Polynomials.{Polynomial, is_zero}
use Rattle.division_rules.proofs.Steps.{choose}
use Rattle.row_laws.specs.Words.{reduction_of}
use Rattle.rank_rules.specs.Ranks.{degrees_below, zeros_in_front, number_left, phase_of}
use Rattle.rank_rules.specs.Laws.{RanksHaveOneLength}

length-degrees : (k : ℕ) (chain : List Polynomial) → length (degrees_below k chain) ≡ k
length-degrees zero chain = refl
length-degrees (suc v) chain = ap suc (length-degrees v chain)

length-phase : (p n w : ℕ) (chain ns queue : List Polynomial) → length (phase_of p n w chain ns queue) ≡ 2
length-phase p n w chain ns [] = refl
length-phase p n w chain ns (f ∷ rest) = choose (λ l. length l ≡ 2) (is_zero (reduction_of p n chain f)) (2 ∷ zeros_in_front p n w chain ns (f ∷ rest) ∷ []) (0 ∷ number_left p n w chain ns f ∷ []) (λ e. refl) (λ e. refl)

-- the law of lengths
pub ranks_have_one_length : RanksHaveOneLength
ranks_have_one_length p n k w task =
    let both = length-append (degrees_below k task.chain) (phase_of p n w task.chain task.nonzero task.queue) in
    let front = length-degrees k task.chain in
    let back = length-phase p n w task.chain task.nonzero task.queue in
    omega (arith, both, front, back)
