-- The children of an imposed polynomial cover the task.
use Rattle.std.proofs.Common.{◌≡◌, ◌≢◌, ◌⊎◌, inl, inr, ℕ, ◌<◌, ◌≤◌, List, [], ◌∷◌, ◌++◌, map, Some, IfSome, refl, sym, ap, ◌∙◌, subst, arith}
use Rattle.std.proofs.lemmas.Bool.{cases_lt}
use Rattle.std.specs.List.{AllByRecursion, Any}
use Rattle.polynomials.specs.Primes.{IsPrime}
use Rattle.polynomials.specs.Polynomials.{Polynomial, IsPolynomial, ArePolynomials, product_of, variable_power}
use Rattle.polynomials.specs.Views.{degree_in, lead_in, tail_in, main_var, is_no_variable, IsFreeOf}
use Rattle.polynomials.proofs.Coefficients.{IsPolynomial-coefficient_in}
use Rattle.polynomials.proofs.Degrees.{coefficient_in_free, lead_in_nonzero}
use Rattle.polynomials.proofs.ExponentsBelow.{degree_in-past}
use Rattle.polynomials.proofs.InitialLemmas.{initial_of-lead_in}
use Rattle.polynomials.proofs.LeadAndTail.{lead_and_tail}
use Rattle.polynomials.proofs.MainVariables.{degree_in_main_var, free_above_main_var}
use Rattle.zero_sets.specs.Domains.{Tables, IsFiniteDomain, IsPoint, value_at}
use Rattle.zero_sets.specs.ZeroSets.{InZeroSet, AreNonZero, InQuasiComponent, IsTriangular, member_in, members_below}
use Rattle.zero_sets.specs.Tasks.{InTask, Task, is_known_nonzero, with_nonzero}
use Rattle.zero_sets.proofs.CertificateLemmas.{InZeroSet-members_below}
use Rattle.zero_sets.proofs.PointFacts.{zero_or_not, product_zero_left, sum_value_right}
use Rattle.division_rules.specs.Rows.{Row}
use Rattle.division_rules.specs.Lists.{list_operations}
use Rattle.division_rules.specs.RemainderRows.{leads}
use Rattle.division_rules.proofs.Steps.{choose}
use Rattle.impose_rules.specs.Factors.{stripped}
use Rattle.impose_rules.specs.Leads.{lead_cases}
use Rattle.impose_rules.specs.Chains.{with_member}
use Rattle.impose_rules.specs.Impose.{child_without, reduced_head, child_extended, child_initial, child_lead, child_common, children_by_rows, impose_children}
use Rattle.impose_laws.specs.Laws.{ChildrenCoverTheTask}
use Rattle.impose_laws.proofs.RowStarts.{IsStart}
use Rattle.impose_laws.proofs.RowShapes.{rows}
use Rattle.impose_laws.proofs.RowPoints.{reduction_zero, rows_end}
use Rattle.impose_laws.proofs.StrippedPoints.{stripped_zero, stripped_lead}
use Rattle.impose_laws.proofs.Stripped.{main_var-stripped}
use Rattle.impose_laws.proofs.KnownNonzero.{constant_nonzero, known_nonzero, with_nonzero_points, with_all_points}
use Rattle.impose_rules.proofs.ChainParts.{member_of_chain, each_with_member}
use Rattle.impose_laws.proofs.RegularZeros.{IsRegularZero, each_regular, regular_each}
use Rattle.impose_laws.proofs.Heads.{IsHead, reduced_by, head_is, IsPolynomial-reduced_by, start_of}
use Rattle.impose_laws.proofs.CommonRows.{occurring_nonzero, row_leads, leads_canonical, leads_nonzero, leads_free, later_rows, last_polynomial, last_canonical, last_main}
use Rattle.impose_laws.proofs.ChildrenCases.{by_children}
use Rattle.tree_laws.proofs.Some.{some_first, some_left, some_right}
use Rattle.impose_laws.proofs.LeadCases.{lead_case_or_none}

module _ (p n w : ℕ) (prime : IsPrime p) (r : Tables) (domain : IsFiniteDomain p r) (xs : List ℕ) (point : IsPoint r xs) where
  -- where f and its lead are zero, so is its tail
  tail_zero : (v : ℕ) (f : Polynomial) → IsPolynomial p n f → 1 ≤ degree_in v f → value_at r xs f ≡ r.nil → value_at r xs (lead_in v f) ≡ r.nil → value_at r xs (tail_in v f) ≡ r.nil
  tail_zero v f i high zero_f zero_lead =
      let lead_part = product_of p (lead_in v f) (variable_power n v (degree_in v f)) in
      sym (sum_value_right p r domain.ring xs point lead_part (tail_in v f) (product_zero_left p r domain.ring xs point (lead_in v f) (variable_power n v (degree_in v f)) zero_lead)) ∙ ap (value_at r xs) ((lead_and_tail p n v f prime.many i).whole (variable_small (cases_lt v n))) ∙ zero_f
    where
      variable_small : (v < n) ⊎ (n ≤ v) → v < n
      variable_small (inl less) = less
      variable_small (inr past) = let none = degree_in-past p n v f past i in omega arith

  module _ (chain rest ns : List Polynomial) (are : ArePolynomials p n chain) (are_ns : ArePolynomials p n ns) (triangular : IsTriangular chain) (in_chain : InQuasiComponent r xs chain) (in_rest : InZeroSet r xs rest) (nonzero : AreNonZero r xs ns) where
    -- with a polynomial that is zero, while its lead is not, stripped of what is not zero, the point stays
    -- in the quasi-component
    replaced_regular : (v : ℕ) (bs : List Polynomial) (f : Polynomial) → ArePolynomials p n bs → AllByRecursion (IsFreeOf v) bs → AreNonZero r xs bs → IsPolynomial p n f → main_var f ≡ Some v → value_at r xs f ≡ r.nil → value_at r xs (lead_in v f) ≢ r.nil → InQuasiComponent r xs (with_member v (stripped p w bs f) chain)
    replaced_regular v bs f are_bs free nonzero_bs i main zero_f lead_f = regular_each r xs (with_member v (stripped p w bs f) chain) (each_with_member (IsRegularZero r xs) v (stripped p w bs f) chain (stripped_zero p n w prime r domain xs point bs are_bs nonzero_bs f i zero_f, subst (λ x. value_at r xs x ≢ r.nil) (sym (initial_of-lead_in v (stripped p w bs f) (main_var-stripped p n w prime bs are_bs v free f i main))) (stripped_lead p n w prime r domain xs point bs are_bs v f i (occurring_nonzero v f (degree_in_main_var v f main)) lead_f)) (each_regular r xs chain in_chain))

    module _ (v : ℕ) (f : Polynomial) (head : IsHead p n chain f) (main : main_var f ≡ Some v) (zero_f : value_at r xs f ≡ r.nil) where
      lead_canonical : IsPolynomial p n (lead_in v f)
      lead_canonical = IsPolynomial-coefficient_in v (degree_in v f) p n f head.canonical

      lead_some : lead_in v f ≢ []
      lead_some = lead_in_nonzero v f (occurring_nonzero v f (degree_in_main_var v f main))

      -- where the initial is zero, the child for that has the point
      initial_has : value_at r xs (lead_in v f) ≡ r.nil → Any (InTask r xs) (child_initial p n w chain rest ns v f)
      initial_has z = choose (Any (InTask r xs)) (is_known_nonzero p ns (lead_in v f)) [] (record { chain = chain; queue = lead_in v f ∷ tail_in v f ∷ rest; nonzero = ns } ∷ []) (λ e. absurd (known_nonzero p n prime r domain xs point ns (lead_in v f) lead_canonical lead_some e nonzero z)) (λ e. some_first (InTask r xs) (record { chain = chain; queue = lead_in v f ∷ tail_in v f ∷ rest; nonzero = ns }) [] (in_chain, (z, (tail_zero v f head.canonical (degree_in_main_var v f main) zero_f z, in_rest)), nonzero))

      -- where no polynomial of the chain has the main variable v
      extended_has : Any (InTask r xs) (child_extended p n w chain rest ns v f ∷ child_initial p n w chain rest ns v f)
      extended_has = go (zero_or_not r xs (lead_in v f))
        where
          go : (value_at r xs (lead_in v f) ≡ r.nil) ⊎ (value_at r xs (lead_in v f) ≢ r.nil) → Any (InTask r xs) (child_extended p n w chain rest ns v f ∷ child_initial p n w chain rest ns v f)
          go (inl z) = some_right (InTask r xs) (child_extended p n w chain rest ns v f ∷ []) (child_initial p n w chain rest ns v f) (initial_has z)
          go (inr h) = some_first (InTask r xs) (child_extended p n w chain rest ns v f) (child_initial p n w chain rest ns v f) (replaced_regular v (lead_in v f ∷ []) f (lead_canonical, tt) (coefficient_in_free v (degree_in v f) f, tt) (h, tt) head.canonical main zero_f h, in_rest, with_nonzero_points p n prime r domain xs point ns (lead_in v f) lead_canonical nonzero h)

      module _ (t : Polynomial) (found : member_in v chain ≡ Some t) where
        start : IsStart p n v (members_below v chain) t f
        start = start_of p n w prime chain ns are are_ns triangular v f t head main found

        abbrev later : List (Row Polynomial)
        later = later_rows p n prime w v (members_below v chain) t f start

        abbrev ls : List Polynomial
        ls = row_leads p n prime w v (members_below v chain) t f start

        abbrev last : Polynomial
        last = last_polynomial p n prime w v (members_below v chain) t f start

        of_t : IsRegularZero r xs t × (main_var t ≡ Some v)
        of_t = member_of_chain (IsRegularZero r xs) v chain t found (each_regular r xs chain in_chain)

        -- where no lead is zero, the child with the last row has the point
        common_has : AreNonZero r xs ls → Any (InTask r xs) (child_common p n w chain rest ns v ls last (rows p n prime w v (members_below v chain) t f start).last)
        common_has none =
            let ended = rows_end p n prime r domain xs point w v (members_below v chain) t f start (InZeroSet-members_below r xs v chain in_chain.0) of_t.0.0 zero_f (λ x less. free_above_main_var v x t of_t.1 less) (λ x less. free_above_main_var v x f main less) none in
            subst (λ o. Any (InTask r xs) (child_common p n w chain rest ns v ls last o)) (sym ended.ends) (some_first (InTask r xs) _ [] (replaced_regular v ls last (leads_canonical p n prime w v (members_below v chain) t f start) (leads_free p n prime w v (members_below v chain) t f start) none (last_canonical p n prime w v (members_below v chain) t f start) (last_main p n prime w v (members_below v chain) t f start ended.zero_row ended.ends of_t.1 main) ended.is_zero ended.lead, in_rest, with_all_points p n prime r domain xs point ns ls (leads_canonical p n prime w v (members_below v chain) t f start) nonzero none))

        -- where the polynomial of the chain with the main variable v is t
        rows_have : Any (InTask r xs) (children_by_rows p n w chain rest ns v f (rows p n prime w v (members_below v chain) t f start))
        rows_have = go (zero_or_not r xs (lead_in v f))
          where
            common : List Task
            common = child_common p n w chain rest ns v ls last (rows p n prime w v (members_below v chain) t f start).last

            cases : List Task
            cases = map (child_lead p n w chain rest ns f ls) (lead_cases p ns ls)

            initial : List Task
            initial = child_initial p n w chain rest ns v f

            go : (value_at r xs (lead_in v f) ≡ r.nil) ⊎ (value_at r xs (lead_in v f) ≢ r.nil) → Any (InTask r xs) (common ++ cases ++ initial)
            go (inl z) = some_right (InTask r xs) (common ++ cases) initial (initial_has z)
            go (inr h) = elim (lead_case_or_none p n w prime r domain xs point chain rest ns in_chain in_rest f zero_f ls (lead_in v f ∷ []) (leads (list_operations p n) v later) (with_nonzero p ns (lead_in v f)) 2 refl refl refl (with_nonzero_points p n prime r domain xs point ns (lead_in v f) lead_canonical nonzero h) (leads_canonical p n prime w v (members_below v chain) t f start).1 (leads_nonzero p n prime w v (members_below v chain) t f start).1) [
              | inl one ↦ some_left (InTask r xs) (common ++ cases) initial (some_right (InTask r xs) common cases one)
              | inr none ↦ some_left (InTask r xs) (common ++ cases) initial (some_left (InTask r xs) common cases (common_has (h, none)))
            ]

    -- for a polynomial that is zero at the point
    pub children_have : (f : Polynomial) → IsPolynomial p n f → value_at r xs f ≡ r.nil → IfSome (impose_children p n w chain rest ns f) (Any (InTask r xs))
    children_have f i zero_f = by_children p n w prime chain rest ns are are_ns triangular f i (Any (InTask r xs)) (λ g made head null. some_first (InTask r xs) (child_without p n w chain rest ns) [] (in_chain, in_rest, nonzero)) (λ g made head some e. absurd (constant_nonzero p n prime r domain xs point g head.canonical (ap is_no_variable e) some (zero_head g made))) (λ v g made head main. extended_has v g head main (zero_head g made)) (λ v g t made head main found. rows_have v g head main (zero_head g made) t found)
      where
        zero_head : (g : Polynomial) → reduced_head p n w chain rest ns f ≡ Some g → value_at r xs g ≡ r.nil
        zero_head g made = subst (λ x. value_at r xs x ≡ r.nil) (sym (head_is p n w prime chain ns are are_ns triangular f g rest made)) (stripped_zero p n w prime r domain xs point ns are_ns nonzero (reduced_by p n w prime chain ns are are_ns triangular f) (IsPolynomial-reduced_by p n w prime chain ns are are_ns triangular f i) (reduction_zero p n prime r domain xs point chain f are i in_chain.0 zero_f))

-- the law of the cover
pub children_cover_the_task : ChildrenCoverTheTask
children_cover_the_task p n w task f rest r xs prime over triangular starts at inside =
    let queue_over = subst (ArePolynomials p n) starts over.1 in
    let queue_zero = subst (InZeroSet r xs) starts inside.1 in
    children_have p n w prime r at.domain xs at.point task.chain rest task.nonzero over.0 over.2 triangular inside.0 queue_zero.1 inside.2 f queue_over.0 queue_zero.0
