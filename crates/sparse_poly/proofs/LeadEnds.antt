-- Where the terms of the lead come first, the tail is what is left behind them.
use Rattle.std.proofs.Common.{◌≡◌, ◌≢◌, ℕ, zero, suc, eqb, List, [], ◌∷◌, drop, length, refl, sym, ap, ◌∙◌, subst, arith}
use Rattle.std.specs.List.{AllWithin}
use Rattle.std.proofs.Math.ListN.{drop_of_length-le}
use Rattle.std.proofs.lemmas.Bool.{cond-true, cond-false, eq-eqb, ne_eqb}
use Rattle.polynomials.specs.Monomials.{exponent_of}
use Rattle.polynomials.specs.Polynomials.{Term}
use Rattle.polynomials.specs.Views.{degree_in, coefficient_in, without_power, tail_in}
use Rattle.polynomials.proofs.Monomialwise.{EachMonomial}
use Rattle.polynomials.proofs.Degrees.{absent_power}

-- where the power doesn't occur, each term is left without it
without_power-itself : (v d : ℕ) (f : List Term) → EachMonomial (λ m. exponent_of v m ≢ d) f → without_power v d f ≡ f
without_power-itself v d [] each = refl
without_power-itself v d (t ∷ f) each =
    cond-false (eqb (exponent_of v t.0) d) (without_power v d f) (t ∷ without_power v d f) (ne_eqb (exponent_of v t.0) d each.0)
    ∙ ap (λ l. t ∷ l) (without_power-itself v d f each.1)

-- and where it is that of the first terms alone, those behind them are
without_power-behind : (v d k : ℕ) (f : List Term) → AllWithin (λ (t : Term). exponent_of v t.0 ≡ d) f 0 k → coefficient_in v d (drop k f) ≡ [] → without_power v d f ≡ drop k f
without_power-behind v d zero f first none = without_power-itself v d f (absent_power v d f none)
without_power-behind v d (suc k) [] first none = refl
without_power-behind v d (suc k) (t ∷ f) first none =
    cond-true (eqb (exponent_of v t.0) d) (without_power v d f) (t ∷ without_power v d f) (eq-eqb (exponent_of v t.0) d (first 0 t (omega arith) (omega arith)))
    ∙ without_power-behind v d k f (λ i u least below. first (suc i) u (omega arith) (omega arith)) none

-- so the tail is what stands behind them
pub tail_behind : (v d k : ℕ) (f : List Term) → d ≡ degree_in v f → AllWithin (λ (t : Term). exponent_of v t.0 ≡ d) f 0 k → coefficient_in v d (drop k f) ≡ [] → drop k f ≡ tail_in v f
tail_behind v d k f top first none = sym (without_power-behind v d k f first none) ∙ ap (λ e. without_power v e f) top

-- and where each term has the power, the tail is 0
pub tail_behind_all : (v d k : ℕ) (f : List Term) → d ≡ degree_in v f → length f ≡ k → AllWithin (λ (t : Term). exponent_of v t.0 ≡ d) f 0 (length f) → drop k f ≡ tail_in v f
tail_behind_all v d k f top count first =
    tail_behind v d k f top (subst (λ e. AllWithin (λ (t : Term). exponent_of v t.0 ≡ d) f 0 e) count first) (ap (coefficient_in v d) (drop_of_length-le f (omega arith)))
