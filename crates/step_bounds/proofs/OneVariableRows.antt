-- The child by remainder rows in one variable: the greatest common divisor takes the place of t.
use Rattle.std.proofs.Common.{◌≡◌, ℕ, zero, suc, ◌<◌, ◌≤◌, true, false, List, [], ◌∷◌, ◌++◌, append-nil, map, Option, Some, None, IfSome, refl, sym, ap, ap₂, ◌∙◌, subst, arith}
use Rattle.std.specs.List.{AllByRecursion}
use Rattle.polynomials.specs.Primes.{IsPrime}
use Rattle.polynomials.specs.Polynomials.{Polynomial, monic, one_of}
use Rattle.polynomials.specs.Views.{degree_in, main_var, IsFreeOf}
use Rattle.polynomials.proofs.MainVariables.{degree_in_main_var}
use Rattle.polynomials.proofs.PolynomialRing.{polynomials_make_a_ring}
use Rattle.zero_sets.specs.ZeroSets.{is_variable, member_in, is_variable_below, members_below}
use Rattle.zero_sets.specs.Tasks.{Task}
use Rattle.division_rules.specs.Lists.{list_operations}
use Rattle.division_rules.specs.RemainderRows.{LaterRows}
use Rattle.division_rules.specs.RemainderRowsWithin.{remainder_rows_within}
use Rattle.division_rules.specs.Rows.{Row, plain, plains}
use Rattle.division_rules.specs.Turns.{last_row}
use Rattle.division_rules.specs.Within.{and_then}
use Rattle.division_rules.proofs.WithinLimits.{gives-remainder_rows}
use Rattle.impose_rules.specs.Chains.{is_variable_above, members_above, with_member}
use Rattle.impose_rules.specs.Factors.{stripped}
use Rattle.impose_rules.specs.Impose.{child_initial, child_lead, child_common, children_by_rows, children_at, step_to_fitting}
use Rattle.impose_rules.specs.Leads.{with_all_nonzero}
use Rattle.impose_rules.proofs.Lists.{each_implied}
use Rattle.impose_laws.proofs.CommonRows.{row_leads, last_polynomial, leads_free, leads_without, last_main}
use Rattle.impose_laws.proofs.MonicForms.{degree_in-monic}
use Rattle.impose_laws.proofs.RowShapes.{rows}
use Rattle.impose_laws.proofs.RowStarts.{IsStart}
use Rattle.step_bounds.proofs.ConstantLeads.{AreConstant, constants_from_free, with_all_constant, no_lead_cases, without_constants}
use Rattle.step_bounds.proofs.Divisors.{divides_through, divides_monic}
use Rattle.step_bounds.proofs.OneVariable.{AreLow, occurs_some, main_zero, low_monic}
use Rattle.step_bounds.proofs.OneVariableTasks.{AreDoneBy, IsLowChild, child_with}
use Rattle.step_bounds.proofs.StraightTrees.{IsStraight}
use Rattle.step_bounds.proofs.Units.{unit_one}
use Rattle.step_bounds.proofs.Univariate.{IsLow}
use Rattle.step_bounds.proofs.UnivariateRows.{DividesMultiple, Leaves, EndsWell, divides_before, rows_end_well}

module _ (p n d w : ℕ) (prime : IsPrime p) (wide : d < w) (small : d ≤ 65535) where
  module _ (t r : Polynomial) (of_t : IsLow p n d t) (of_r : IsLow p n d r) (occurs_t : 1 ≤ degree_in 0 t) (occurs_r : 1 ≤ degree_in 0 r) (falls : degree_in 0 r < degree_in 0 t) where
    main_t : main_var t ≡ Some 0
    main_t = main_zero p n d w prime wide small t of_t occurs_t

    start : IsStart p n 0 [] t r
    start = record { canonical_chain = tt; canonical_t = of_t.canonical; canonical_c = of_r.canonical; triangular = tt; below = tt; reduced = tt; occurs = occurs_r; falls = falls }

    abbrev whole : LaterRows Polynomial
    whole = rows p n prime w 0 [] t r start

    abbrev ls : List Polynomial
    ls = row_leads p n prime w 0 [] t r start

    abbrev last : Polynomial
    last = last_polynomial p n prime w 0 [] t r start

    -- the last row, where a zero row follows
    abbrev Divides : LaterRows Polynomial → Type 0
    Divides x = (z : Row Polynomial) → x.last ≡ Some z → IsLow p n d (last_row (plain r) x.later).first × DividesMultiple p n (last_row (plain r) x.later).first t × DividesMultiple p n (last_row (plain r) x.later).first r

    -- the rows fit
    rows_fit : EndsWell p n d w prime wide small t r (remainder_rows_within (list_operations p n) w 0 [] (plain t) (plain r)) → (remainder_rows_within (list_operations p n) w 0 [] (plain t) (plain r) ≡ Some whole) × Divides whole
    rows_fit (x, found, ends) = (found ∙ ap (λ y. Some y) same, subst Divides same ends)
      where
        same : x ≡ whole
        same = subst (λ o. IfSome o (λ y. y ≡ whole)) found (gives-remainder_rows (list_operations p n) w 0 [] (plain t) (plain r))

    fit : (remainder_rows_within (list_operations p n) w 0 [] (plain t) (plain r) ≡ Some whole) × Divides whole
    fit = rows_fit (rows_end_well p n d w prime wide small (suc (degree_in 0 r)) None tt t r of_t of_r (occurs_some t occurs_t) (occurs_some r occurs_r))

    -- their leads are constant
    constants : AreConstant ls
    constants = constants_from_free ls free
      where
        free : (x : ℕ) → AllByRecursion (IsFreeOf x) ls
        free zero = leads_free p n prime w 0 [] t r start
        free (suc x) = leads_without p n prime w 0 [] t r start (suc x) tt (of_t.below (suc x) (omega arith)) (of_r.below (suc x) (omega arith))

    below_none : members_below 0 (t ∷ []) ≡ []
    below_none = ap (λ o. elim (is_variable_below 0 o) as (λ _. List Polynomial) [ true ↦ t ∷ [] | false ↦ [] ]) main_t

    above_none : members_above 0 (t ∷ []) ≡ []
    above_none = ap (λ o. elim (is_variable_above 0 o) as (λ _. List Polynomial) [ true ↦ t ∷ [] | false ↦ [] ]) main_t

    member_is : member_in 0 (t ∷ []) ≡ Some t
    member_is = ap (λ o. elim (is_variable 0 o) as (λ _. Option Polynomial) [ true ↦ Some t | false ↦ None ]) main_t

    -- the chain with another polynomial in the place of t
    with_is : (x : Polynomial) → with_member 0 x (t ∷ []) ≡ x ∷ []
    with_is x = ap₂ (λ lesser greater. lesser ++ x ∷ greater) below_none above_none

    module _ (inputs rest done ns : List Polynomial) (of_rest : AreLow p n d rest) (of_ns : AreLow p n d ns) (each_done : AreDoneBy p n d (t ∷ []) done) (f g : Polynomial) (of_f : IsLow p n d f) (of_g : IsLow p n d g) (parts : inputs ≡ done ++ f ∷ rest) (at : Leaves p n d w prime wide small f t g) (by_r : DividesMultiple p n r g) (no_initial : child_initial p n w (t ∷ []) rest ns 0 r ≡ []) where
      abbrev IsChild : Task → Type 0
      IsChild kid = IsLowChild p n d inputs rest kid

      abbrev common : Option (Row Polynomial) → List Task
      common o = child_common p n w (t ∷ []) rest ns 0 ls last o

      children_are : children_at p n w (t ∷ []) rest ns 0 r (member_in 0 (t ∷ [])) ≡ Some (common whole.last)
      children_are = ap (λ o. children_at p n w (t ∷ []) rest ns 0 r o) member_is ∙ ap (λ us. and_then (remainder_rows_within (list_operations p n) w 0 (plains us) (plain t) (plain r)) (λ x. Some (children_by_rows p n w (t ∷ []) rest ns 0 r x))) below_none ∙ ap (λ o. and_then o (λ x. Some (children_by_rows p n w (t ∷ []) rest ns 0 r x))) fit.0 ∙ ap (λ kids. Some kids) (ap₂ (λ js kids. common whole.last ++ map (child_lead p n w (t ∷ []) rest ns r ls) js ++ kids) (no_lead_cases p ns ls constants) no_initial ∙ append-nil (common whole.last ++ []) ∙ append-nil (common whole.last))

      module _ (z : Row Polynomial) (e : whole.last ≡ Some z) where
        of_last : IsLow p n d last
        of_last = (fit.1 z e).0

        occurs_last : 1 ≤ degree_in 0 last
        occurs_last = degree_in_main_var 0 last (last_main p n prime w 0 [] t r start z e main_t (main_zero p n d w prime wide small r of_r occurs_r))

        -- it divides f
        divides_f : DividesMultiple p n last f
        divides_f = divides_before p n d w prime wide small last f t g g (one_of n) of_last.canonical of_f of_t at of_g (unit_one p n d w prime wide small) (sym ((polynomials_make_a_ring p n prime.many).one-mul g of_g.canonical)) (fit.1 z e).1 (divides_through p n d w prime wide small last r g of_last.canonical of_r.canonical of_g.canonical (fit.1 z e).2 by_r)

        monic_divides : (x : Polynomial) → DividesMultiple p n last x → DividesMultiple p n (monic p last) x
        monic_divides x by = divides_monic p n d w prime wide small last x of_last.canonical (low_monic p n d w prime wide small last of_last).canonical (occurs_some last occurs_last) by

        low_child : IsChild (record { chain = monic p last ∷ []; queue = rest; nonzero = ns })
        low_child = child_with p n d inputs rest done of_rest f of_f parts (monic p last ∷ []) ns (low_monic p n d w prime wide small last of_last, subst (λ x. 1 ≤ x) (sym (degree_in-monic p n prime 0 last of_last.canonical)) occurs_last) of_ns (each_implied (λ x. IsLow p n d x × DividesMultiple p n t x) (λ x. IsLow p n d x × DividesMultiple p n (monic p last) x) (λ x h. (h.0, monic_divides x (divides_through p n d w prime wide small last t x of_last.canonical of_t.canonical h.0.canonical (fit.1 z e).1 h.1))) done each_done) (monic_divides f divides_f)

        chain_is : with_member 0 (stripped p w ls last) (t ∷ []) ≡ monic p last ∷ []
        chain_is = with_is (stripped p w ls last) ∙ ap (λ x. monic p x ∷ []) (without_constants p w ls last constants)

        common_child : IsChild (record { chain = with_member 0 (stripped p w ls last) (t ∷ []); queue = rest; nonzero = with_all_nonzero p ns ls })
        common_child = subst (λ c. IsChild (record { chain = c; queue = rest; nonzero = with_all_nonzero p ns ls })) (sym chain_is) (subst (λ ms. IsChild (record { chain = monic p last ∷ []; queue = rest; nonzero = ms })) (sym (with_all_constant p ns ls constants)) low_child)

      -- there is no other child
      pub rows_straight : (L : Type 0) → IsStraight {L = L} IsChild (step_to_fitting (children_at p n w (t ∷ []) rest ns 0 r (member_in 0 (t ∷ []))))
      rows_straight L = subst (λ o. IsStraight IsChild (step_to_fitting {L = L} o)) (sym children_are) (go whole.last refl)
        where
          go : (o : Option (Row Polynomial)) → whole.last ≡ o → IsStraight IsChild (step_to_fitting {L = L} (Some (common o)))
          go None e = tt
          go (Some z) e = common_child z e
