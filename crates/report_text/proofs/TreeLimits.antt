-- The tree of a printed polynomial passes no limit.
use Rattle.std.proofs.Common.{ℕ, ◌^◌, ◌<◌, ◌≤◌, Bool, true, false, eqb, cond, List, [], ◌∷◌, arith}
use Rattle.std.proofs.lemmas.Fmt.{decimal_is_IsNumeral, length-decimal-le}
use Rattle.std.specs.Fmt.{decimal}
use Rattle.std.specs.List.{AllByRecursion}
use Rattle.polynomials.specs.Monomials.{Monomial}
use Rattle.polynomials.specs.Polynomials.{Polynomial}
use Rattle.polynomials.specs.Polynomials as poly
use Rattle.system_text.specs.Limits.{most_digits}
use Rattle.system_text.specs.Grammar.{Sum, TermTree, Factor, First, Added, Single, Multiplied, Bare, Raised, Numeral, Variable, IsSumWithin, IsTermWithin, IsFactorWithin}
use Rattle.report_text.proofs.Trees.{power_tree, power_trees, factor_trees, times_factors, product_tree, term_tree, plus_terms, poly_tree}

-- each factor passes none
abbrev pub AreWithin : List Factor → Type 0
AreWithin fs = AllByRecursion (IsFactorWithin 0) fs

-- powers
power_within : (name : List ℕ) (e : ℕ) → e ≤ 65535 → IsFactorWithin 0 (power_tree name e)
power_within name e bound = go (eqb e 1)
  where
    go : (b : Bool) → IsFactorWithin 0 (cond b (Bare (Variable name)) (Raised (Variable name) (decimal e)))
    go true = tt
    go false = (tt, length-decimal-le 18 e (omega arith) (omega arith) (omega arith), (let value = (decimal_is_IsNumeral e (omega arith)).1 in omega arith))

chosen_within : (b : Bool) (f : Factor) (fs : List Factor) → IsFactorWithin 0 f → AreWithin fs → AreWithin (cond b fs (f ∷ fs))
chosen_within true f fs first others = others
chosen_within false f fs first others = (first, others)

powers_within : (names : List (List ℕ)) (m : Monomial) → AllByRecursion (λ e. e ≤ 65535) m → AreWithin (power_trees names m)
powers_within [] m small = tt
powers_within (name ∷ names) [] small = tt
powers_within (name ∷ names) (e ∷ m) small = chosen_within (eqb e 0) (power_tree name e) (power_trees names m) (power_within name e small.0) (powers_within names m small.1)

-- products
coefficient_within : (c : ℕ) → c < 10 ^ most_digits → IsFactorWithin 0 (Bare (Numeral (decimal c)))
coefficient_within c below = length-decimal-le 18 c (omega arith) below (omega arith)

factors_within : (c : ℕ) (fs : List Factor) → c < 10 ^ most_digits → AreWithin fs → AreWithin (factor_trees c fs)
factors_within c [] below within = (coefficient_within c below, tt)
factors_within c (f ∷ fs) below within = go (eqb c 1)
  where
    go : (b : Bool) → AreWithin (cond b (f ∷ fs) (Bare (Numeral (decimal c)) ∷ f ∷ fs))
    go true = within
    go false = (coefficient_within c below, within)

times_within : (t : TermTree) (fs : List Factor) → IsTermWithin 0 t → AreWithin fs → IsTermWithin 0 (times_factors t fs)
times_within t [] first within = first
times_within t (f ∷ fs) first within = times_within (Multiplied t f) fs (first, within.0) within.1

product_within : (fs : List Factor) → AreWithin fs → IsTermWithin 0 (product_tree fs)
product_within [] within = omega arith
product_within (f ∷ fs) within = times_within (Single f) fs within.0 within.1

-- terms and sums
abbrev pub HasSmallNumbers : poly.Term → Type 0
HasSmallNumbers t = (t.1 < 10 ^ most_digits) × AllByRecursion (λ e. e ≤ 65535) t.0

term_within : (names : List (List ℕ)) (t : poly.Term) → HasSmallNumbers t → IsTermWithin 0 (term_tree names t)
term_within names t small = product_within (factor_trees t.1 (power_trees names t.0)) (factors_within t.1 (power_trees names t.0) small.0 (powers_within names t.0 small.1))

plus_within : (names : List (List ℕ)) (a : Sum) (f : Polynomial) → IsSumWithin 0 a → AllByRecursion HasSmallNumbers f → IsSumWithin 0 (plus_terms names a f)
plus_within names a [] first small = first
plus_within names a (t ∷ f) first small = plus_within names (Added a (term_tree names t)) f (first, term_within names t small.0) small.1

pub poly_tree_within : (names : List (List ℕ)) (f : Polynomial) → AllByRecursion HasSmallNumbers f → IsSumWithin 0 (poly_tree names f)
poly_tree_within names [] small = omega arith
poly_tree_within names (t ∷ f) small = plus_within names (First (term_tree names t)) f (term_within names t small.0) small.1
