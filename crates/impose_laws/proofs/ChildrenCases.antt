-- The children of an imposed polynomial, by cases of its reduced head.
use Rattle.std.proofs.Common.{◌≡◌, ◌≢◌, ℕ, List, [], ◌∷◌, Option, Some, None, IfSome, refl, sym, subst}
use Rattle.polynomials.specs.Primes.{IsPrime}
use Rattle.polynomials.specs.Polynomials.{Polynomial, IsPolynomial, ArePolynomials, is_zero}
use Rattle.polynomials.specs.Views.{main_var}
use Rattle.zero_sets.specs.ZeroSets.{IsTriangular, member_in, members_below}
use Rattle.zero_sets.specs.Tasks.{Task}
use Rattle.division_rules.specs.Rows.{plain, plains}
use Rattle.division_rules.specs.Lists.{list_operations}
use Rattle.division_rules.specs.RemainderRowsWithin.{remainder_rows_within}
use Rattle.division_rules.proofs.Steps.{choose}
use Rattle.division_rules.proofs.ListLaws.{zero_by_test, not_zero_by_test}
use Rattle.division_rules.proofs.WithinLimits.{gives-remainder_rows}
use Rattle.impose_rules.specs.Impose.{reduced_head, child_without, child_extended, child_initial, children_by_rows, children_at, children_by_head, impose_children}
use Rattle.impose_laws.proofs.Options.{then_holds}
use Rattle.impose_laws.proofs.RowShapes.{rows}
use Rattle.impose_laws.proofs.Heads.{IsHead, head_is_head, start_of}

module _ (p n w : ℕ) (prime : IsPrime p) (chain rest ns : List Polynomial) (are : ArePolynomials p n chain) (are_ns : ArePolynomials p n ns) (triangular : IsTriangular chain) (f : Polynomial) (i : IsPolynomial p n f) where
  -- g is the reduced head
  abbrev pub IsMade : Polynomial → Type 0
  IsMade g = reduced_head p n w chain rest ns f ≡ Some g

  -- the children by remainder rows, which are those without a limit
  abbrev pub by_rows : (v : ℕ) (g t : Polynomial) → IsHead p n chain g → main_var g ≡ Some v → member_in v chain ≡ Some t → List Task
  by_rows v g t head main found = children_by_rows p n w chain rest ns v g (rows p n prime w v (members_below v chain) t g (start_of p n w prime chain ns are are_ns triangular v g t head main found))

  module _ (Q : List Task → Type 0) (zero_head : (g : Polynomial) → IsMade g → IsHead p n chain g → g ≡ [] → Q (child_without p n w chain rest ns ∷ [])) (constant_head : (g : Polynomial) → IsMade g → IsHead p n chain g → g ≢ [] → main_var g ≡ None → Q []) (new_variable : (v : ℕ) (g : Polynomial) → IsMade g → IsHead p n chain g → main_var g ≡ Some v → Q (child_extended p n w chain rest ns v g ∷ child_initial p n w chain rest ns v g)) (with_rows : (v : ℕ) (g t : Polynomial) → IsMade g → (head : IsHead p n chain g) (main : main_var g ≡ Some v) (found : member_in v chain ≡ Some t) → Q (by_rows v g t head main found)) where
    at_cases : (v : ℕ) (g : Polynomial) → IsMade g → IsHead p n chain g → main_var g ≡ Some v → (o : Option Polynomial) → member_in v chain ≡ o → IfSome (children_at p n w chain rest ns v g o) Q
    at_cases v g made head main None e = new_variable v g made head main
    at_cases v g made head main (Some t) e = then_holds Q (remainder_rows_within (list_operations p n) w v (plains (members_below v chain)) (plain t) (plain g)) (λ x. Some (children_by_rows p n w chain rest ns v g x)) (λ x fits. subst (λ y. Q (children_by_rows p n w chain rest ns v g y)) (sym (subst (λ o. IfSome o (λ y. y ≡ rows p n prime w v (members_below v chain) t g (start_of p n w prime chain ns are are_ns triangular v g t head main e))) fits (gives-remainder_rows (list_operations p n) w v (plains (members_below v chain)) (plain t) (plain g)))) (with_rows v g t made head main e))

    of_cases : (g : Polynomial) → IsMade g → IsHead p n chain g → (o : Option ℕ) → main_var g ≡ o → IfSome (children_by_head p n w chain rest ns g o) Q
    of_cases g made head None e = choose (λ o. IfSome o Q) (is_zero g) (Some (child_without p n w chain rest ns ∷ [])) (Some []) (λ null. zero_head g made head (zero_by_test g null)) (λ some. constant_head g made head (not_zero_by_test g some) e)
    of_cases g made head (Some v) e = at_cases v g made head e (member_in v chain) refl

    -- what holds in each case holds of the children
    pub by_children : IfSome (impose_children p n w chain rest ns f) Q
    by_children = then_holds Q (reduced_head p n w chain rest ns f) (λ g. children_by_head p n w chain rest ns g (main_var g)) (λ g made. of_cases g made (head_is_head p n w prime chain ns are are_ns triangular f g rest i made) (main_var g) refl)
