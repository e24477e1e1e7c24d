-- The child that a polynomial in one variable gives.
use Rattle.std.proofs.Common.{◌≡◌, ◌≢◌, ℕ, zero, suc, ◌<◌, ◌≤◌, true, false, List, [], ◌∷◌, ◌++◌, Option, Some, None, refl, sym, ap, ◌∙◌, subst, arith}
use Rattle.polynomials.specs.Primes.{IsPrime}
use Rattle.polynomials.specs.Polynomials.{Polynomial, ArePolynomials, monic, is_zero}
use Rattle.polynomials.specs.Views.{degree_in, lead_in, tail_in, main_var}
use Rattle.polynomials.proofs.MainVariables.{degree_in_main_var}
use Rattle.polynomials.proofs.MonicForms.{monic-monic}
use Rattle.zero_sets.specs.ZeroSets.{member_in}
use Rattle.zero_sets.specs.Tasks.{Task, with_nonzero}
use Rattle.division_rules.specs.Quotients.{without_factors}
use Rattle.division_rules.specs.Within.{and_then}
use Rattle.division_rules.proofs.Factors.{IsPolynomial-without_factors}
use Rattle.division_rules.proofs.ListLaws.{zero_by_test}
use Rattle.division_rules.proofs.Steps.{choose}
use Rattle.impose_rules.specs.Chains.{with_member}
use Rattle.impose_rules.specs.Factors.{stripped}
use Rattle.impose_rules.specs.Impose.{child_without, child_extended, child_initial, children_at, children_by_head, impose_children, step_to_fitting}
use Rattle.impose_rules.proofs.Lists.{each_implied}
use Rattle.impose_laws.proofs.Stripped.{degree_in-stripped}
use Rattle.rank_laws.proofs.Phases.{zero_left}
use Rattle.step_bounds.proofs.ConstantLeads.{constant_known, with_constant, without_constants, lead_constant}
use Rattle.step_bounds.proofs.Divisors.{divides_zero}
use Rattle.step_bounds.proofs.OneVariable.{AreLow, IsLowChain, HasLeft, IsLeftBy, canonical_low, low_stripped, stripped_divides, reduction_low}
use Rattle.step_bounds.proofs.OneVariableRows.{rows_straight}
use Rattle.step_bounds.proofs.OneVariableTasks.{IsDoneBy, AreDoneBy, IsLowChild, child_with}
use Rattle.step_bounds.proofs.StraightTrees.{IsStraight}
use Rattle.step_bounds.proofs.Univariate.{IsLow}
use Rattle.step_bounds.proofs.UnivariateRows.{DividesMultiple, divides_last}

module _ (p n d w : ℕ) (prime : IsPrime p) (wide : d < w) (small : d ≤ 65535) (inputs rest done ns : List Polynomial) (of_rest : AreLow p n d rest) (of_ns : AreLow p n d ns) (f : Polynomial) (of_f : IsLow p n d f) (parts : inputs ≡ done ++ f ∷ rest) where
  abbrev IsChild : Task → Type 0
  IsChild kid = IsLowChild p n d inputs rest kid

  are_ns : ArePolynomials p n ns
  are_ns = canonical_low p n d w prime wide small ns of_ns

  module _ (chain : List Polynomial) (of_chain : IsLowChain p n d chain) (each_done : AreDoneBy p n d chain done) (g : Polynomial) (left : HasLeft p n d w prime wide small chain f g) where
    abbrev r : Polynomial
    r = stripped p w ns g

    of_r : IsLow p n d r
    of_r = low_stripped p n d w prime wide small ns are_ns g left.low

    -- nothing was left
    without : r ≡ [] → IsChild (child_without p n w chain rest ns)
    without null = child_with p n d inputs rest done of_rest f of_f parts chain ns of_chain of_ns each_done (zero_done chain of_chain left.left)
      where
        g_zero : g ≡ []
        g_zero = zero_left p n w prime ns are_ns g left.low.canonical null

        zero_done : (c : List Polynomial) → IsLowChain p n d c → IsLeftBy p n d w prime wide small c f g → IsDoneBy p n d c f
        zero_done [] of_c same = sym same ∙ g_zero
        zero_done (t ∷ []) of_c at = divides_last p n d w prime wide small f t g of_c.0 at.0 g_zero
        zero_done (t ∷ u ∷ more) of_c at = absurd of_c

    -- a constant leaves no points, and else the variable is the first
    by_head : (L : Type 0) → (main_var r ≡ Some 0 → IsStraight {L = L} IsChild (step_to_fitting (children_at p n w chain rest ns 0 r (member_in 0 chain)))) → IsStraight {L = L} IsChild (step_to_fitting (impose_children p n w chain rest ns f))
    by_head L further = subst (λ o. IsStraight IsChild (step_to_fitting {L = L} o)) (sym (ap (λ o. and_then (and_then o (λ h. Some (stripped p w ns h.first))) (λ x. children_by_head p n w chain rest ns x (main_var x))) left.made)) (go (main_var r) refl)
      where
        go : (o : Option ℕ) → main_var r ≡ o → IsStraight IsChild (step_to_fitting {L = L} (children_by_head p n w chain rest ns r o))
        go None e = choose (λ x. IsStraight IsChild (step_to_fitting {L = L} x)) (is_zero r) (Some (child_without p n w chain rest ns ∷ [])) (Some []) (λ null. without (zero_by_test r null)) (λ some. tt)
        go (Some zero) e = further e
        go (Some (suc v)) e = absurd (let occurs = degree_in_main_var (suc v) r e in let none = of_r.below (suc v) (omega arith) in omega (arith, occurs, none))

    module _ (main : main_var r ≡ Some 0) where
      occurs_r : 1 ≤ degree_in 0 r
      occurs_r = degree_in_main_var 0 r main

      g_some : g ≢ []
      g_some null =
          let falls = degree_in-stripped p n w prime ns are_ns 0 g left.low.canonical in
          let none = ap (degree_in 0) null in
          let occurs = occurs_r in
          omega (arith, falls, none, occurs)

      divides_g : DividesMultiple p n r g
      divides_g = stripped_divides p n d w prime wide small ns are_ns g left.low g_some

      no_initial : child_initial p n w chain rest ns 0 r ≡ []
      no_initial = ap (λ b. elim b as (λ _. List Task) [ true ↦ [] | false ↦ record { chain = chain; queue = lead_in 0 r ∷ tail_in 0 r ∷ rest; nonzero = ns } ∷ [] ]) (constant_known p ns (lead_in 0 r) (lead_constant r of_r.below))

  -- the first polynomial of the chain
  module _ (each_done : AreDoneBy p n d [] done) (g : Polynomial) (left : HasLeft p n d w prime wide small [] f g) (main : main_var (stripped p w ns g) ≡ Some 0) where
    abbrev s : Polynomial
    s = stripped p w ns g

    of_s : IsLow p n d (stripped p w ns g)
    of_s = of_r [] tt each_done g left

    -- it is monic already, and has no factor
    stripped_is : stripped p w (lead_in 0 s ∷ []) s ≡ s
    stripped_is = ap (monic p) (without_constants p w (lead_in 0 s ∷ []) s (lead_constant s of_s.below, tt)) ∙ monic-monic p n prime (without_factors p w ns g) (IsPolynomial-without_factors p n w prime ns g are_ns left.low.canonical)

    low_child : IsChild (record { chain = s ∷ []; queue = rest; nonzero = ns })
    low_child = child_with p n d inputs rest done of_rest f of_f parts (s ∷ []) ns (of_s, occurs_r [] tt each_done g left main) of_ns (each_implied (λ x. IsLow p n d x × (x ≡ [])) (λ x. IsLow p n d x × DividesMultiple p n s x) (λ x h. (h.0, subst (DividesMultiple p n s) (sym h.1) (divides_zero p n d w prime wide small s))) done each_done) (subst (DividesMultiple p n s) left.left (divides_g [] tt each_done g left main))

    extended : IsChild (child_extended p n w [] rest ns 0 s)
    extended = subst (λ x. IsChild (record { chain = with_member 0 x []; queue = rest; nonzero = with_nonzero p ns (lead_in 0 s) })) (sym stripped_is) (subst (λ ms. IsChild (record { chain = s ∷ []; queue = rest; nonzero = ms })) (sym (with_constant p ns (lead_in 0 s) (lead_constant s of_s.below))) low_child)

    first_straight : (L : Type 0) → IsStraight {L = L} IsChild (step_to_fitting (children_at p n w [] rest ns 0 s None))
    first_straight L = subst (λ kids. IsStraight IsChild (step_to_fitting {L = L} (Some (child_extended p n w [] rest ns 0 s ∷ kids)))) (sym (no_initial [] tt each_done g left main)) extended

  -- the step has no second child, and fits
  pub low_straight : (L : Type 0) (chain : List Polynomial) → IsLowChain p n d chain → AreDoneBy p n d chain done → IsStraight {L = L} IsChild (step_to_fitting (impose_children p n w chain rest ns f))
  low_straight L [] of_chain each_done =
      let (g, left) = reduction_low p n d w prime wide small [] of_chain f of_f in
      by_head [] of_chain each_done g left L (λ main. first_straight each_done g left main L)
  low_straight L (t ∷ []) of_chain each_done =
      let (g, left) = reduction_low p n d w prime wide small (t ∷ []) of_chain f of_f in
      let low = of_r (t ∷ []) of_chain each_done g left in
      by_head (t ∷ []) of_chain each_done g left L (λ main.
      let falls = degree_in-stripped p n w prime ns are_ns 0 g left.low.canonical in
      let less = left.left.1 in
      rows_straight p n d w prime wide small t (stripped p w ns g) of_chain.0 low of_chain.1 (occurs_r (t ∷ []) of_chain each_done g left main) (omega (arith, falls, less)) inputs rest done ns of_rest of_ns each_done f g of_f left.low parts left.left.0 (divides_g (t ∷ []) of_chain each_done g left main) (no_initial (t ∷ []) of_chain each_done g left main) L)
  low_straight L (t ∷ u ∷ more) of_chain each_done = absurd of_chain
