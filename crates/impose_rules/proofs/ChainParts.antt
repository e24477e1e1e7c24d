-- The members of a triangular set below and above a variable.
use Rattle.std.proofs.Common.{◌≡◌, ℕ, suc, ◌<◌, ◌≤◌, true, List, [], ◌∷◌, ◌++◌, Option, Some, None, refl, sym, ap, ◌∙◌, subst, arith}
use Rattle.std.proofs.lemmas.Bool.{ltb-true, eqb-true}
use Rattle.std.specs.List.{AllByRecursion}
use Rattle.polynomials.specs.Polynomials.{Polynomial, IsPolynomial, ArePolynomials}
use Rattle.polynomials.specs.Views.{main_var}
use Rattle.zero_sets.specs.ZeroSets.{IsTriangularFrom, IsTriangular, is_variable, member_in, is_variable_below, members_below}
use Rattle.zero_sets.proofs.TriangularSets.{triangular_sooner, below_triangular}
use Rattle.division_rules.specs.Rows.{plains, first_entries}
use Rattle.division_rules.proofs.Steps.{choose}
use Rattle.impose_rules.specs.Chains.{is_variable_above, members_above, with_member}
use Rattle.impose_rules.proofs.Lists.{each_appended}

-- each has a main variable less than v
abbrev pub HasMainBelow : ℕ → Polynomial → Type 0
HasMainBelow v t = (u : ℕ) × (main_var t ≡ Some u) × (u < v)

-- a variable that passes the test is v
has_variable : (v : ℕ) (o : Option ℕ) → is_variable v o ≡ true → o ≡ Some v
has_variable v None e = cc
has_variable v (Some u) e = ap Some (eqb-true u v e)

-- the member with the main variable v is one of the chain, with that main variable
pub member_of_chain : (Q : Polynomial → Type 0) (v : ℕ) (chain : List Polynomial) (t : Polynomial) → member_in v chain ≡ Some t → AllByRecursion Q chain → Q t × (main_var t ≡ Some v)
member_of_chain Q v [] t e h = cc
member_of_chain Q v (u ∷ chain) t e h = choose (λ o. o ≡ Some t → Q t × (main_var t ≡ Some v)) (is_variable v (main_var u)) (Some u) (member_in v chain) (λ here found. first (has_variable v (main_var u) here) found) (λ other found. member_of_chain Q v chain t found h.1) e
  where
    first : main_var u ≡ Some v → Some u ≡ Some t → Q t × (main_var t ≡ Some v)
    first main found = let same : u ≡ t = cc in (subst Q same h.0, subst (λ x. main_var x ≡ Some v) same main)

-- members below and above keep what each of the chain has
pub each_below : (Q : Polynomial → Type 0) (v : ℕ) (chain : List Polynomial) → AllByRecursion Q chain → AllByRecursion Q (members_below v chain)
each_below Q v [] h = tt
each_below Q v (t ∷ chain) h = choose (AllByRecursion Q) (is_variable_below v (main_var t)) (t ∷ members_below v chain) (members_below v chain) (λ e. (h.0, each_below Q v chain h.1)) (λ e. each_below Q v chain h.1)

-- the same above
pub each_above : (Q : Polynomial → Type 0) (v : ℕ) (chain : List Polynomial) → AllByRecursion Q chain → AllByRecursion Q (members_above v chain)
each_above Q v [] h = tt
each_above Q v (t ∷ chain) h = choose (AllByRecursion Q) (is_variable_above v (main_var t)) (t ∷ members_above v chain) (members_above v chain) (λ e. (h.0, each_above Q v chain h.1)) (λ e. each_above Q v chain h.1)

-- those below have lesser main variables
pub below_are_below : (v : ℕ) (chain : List Polynomial) → AllByRecursion (HasMainBelow v) (members_below v chain)
below_are_below v [] = tt
below_are_below v (t ∷ chain) = choose (AllByRecursion (HasMainBelow v)) (is_variable_below v (main_var t)) (t ∷ members_below v chain) (members_below v chain) (λ e. (is_below (main_var t) refl e, below_are_below v chain)) (λ e. below_are_below v chain)
  where
    is_below : (o : Option ℕ) → main_var t ≡ o → is_variable_below v o ≡ true → HasMainBelow v t
    is_below None e d = cc
    is_below (Some u) e d = (u, e, ltb-true u v d)

-- a triangular set, as rows
pub triangular_plains : (v : ℕ) (chain : List Polynomial) → IsTriangularFrom v chain → IsTriangularFrom v (first_entries (plains chain))
triangular_plains v [] h = tt
triangular_plains v (t ∷ chain) h = (h.0, h.1, h.2, triangular_plains (suc h.0) chain h.3)

-- those above are triangular
pub above_triangular : (u v : ℕ) (chain : List Polynomial) → IsTriangularFrom u chain → IsTriangularFrom u (members_above v chain)
above_triangular u v [] h = tt
above_triangular u v (t ∷ chain) h = choose (IsTriangularFrom u) (is_variable_above v (main_var t)) (t ∷ members_above v chain) (members_above v chain) (λ e. (h.0, h.1, h.2, above_triangular (suc h.0) v chain h.3)) (λ e. above_triangular u v chain (triangular_sooner u (suc h.0) chain (let from = h.2 in omega arith) h.3))

-- from there on
pub above_are_above : (u v : ℕ) (chain : List Polynomial) → IsTriangularFrom u chain → IsTriangularFrom (suc v) (members_above v chain)
above_are_above u v [] h = tt
above_are_above u v (t ∷ chain) h = choose (IsTriangularFrom (suc v)) (is_variable_above v (main_var t)) (t ∷ members_above v chain) (members_above v chain) (λ e. (h.0, h.1, ltb-true v h.0 (sym (ap (is_variable_above v) h.1) ∙ e), above_triangular (suc h.0) v chain h.3)) (λ e. above_are_above (suc h.0) v chain h.3)

-- lesser members, one with the main variable v and greater ones are triangular
joined_triangular : (u v : ℕ) (lesser : List Polynomial) (t : Polynomial) (greater : List Polynomial) → u ≤ v → main_var t ≡ Some v → IsTriangularFrom u lesser → AllByRecursion (HasMainBelow v) lesser → IsTriangularFrom (suc v) greater → IsTriangularFrom u (lesser ++ t ∷ greater)
joined_triangular u v [] t greater up e h below above = (v, e, up, above)
joined_triangular u v (s ∷ lesser) t greater up e h below above = (h.0, h.1, h.2, joined_triangular (suc h.0) v lesser t greater (smaller h.0 h.1 below.0) e h.3 below.1 above)
  where
    smaller : (x : ℕ) → main_var s ≡ Some x → HasMainBelow v s → suc x ≤ v
    smaller x d main = let same : main.0 ≡ x = cc in let less = main.2 in omega arith

-- with t at its main variable the chain stays triangular
pub with_member_triangular : (v : ℕ) (t : Polynomial) (chain : List Polynomial) → main_var t ≡ Some v → IsTriangular chain → IsTriangular (with_member v t chain)
with_member_triangular v t chain e h = joined_triangular 0 v (members_below v chain) t (members_above v chain) (omega arith) e (below_triangular 0 v chain h) (below_are_below v chain) (above_are_above 0 v chain h)

-- what holds of t and each of the chain holds of each with t in it
pub each_with_member : (Q : Polynomial → Type 0) (v : ℕ) (t : Polynomial) (chain : List Polynomial) → Q t → AllByRecursion Q chain → AllByRecursion Q (with_member v t chain)
each_with_member Q v t chain q h = each_appended Q (members_below v chain) (t ∷ members_above v chain) (each_below Q v chain h) (q, each_above Q v chain h)

-- canonical polynomials, one by one
pub each_canonical : (p n : ℕ) (fs : List Polynomial) → ArePolynomials p n fs → AllByRecursion (IsPolynomial p n) fs
each_canonical p n [] h = tt
each_canonical p n (f ∷ fs) h = (h.0, each_canonical p n fs h.1)

-- and together
pub canonical_each : (p n : ℕ) (fs : List Polynomial) → AllByRecursion (IsPolynomial p n) fs → ArePolynomials p n fs
canonical_each p n [] h = tt
canonical_each p n (f ∷ fs) h = (h.0, canonical_each p n fs h.1)
