-- The children of an imposed polynomial have less rank.
use Rattle.std.proofs.Common.{◌≡◌, ◌≢◌, ℕ, suc, ◌-◌, ◌<◌, ◌≤◌, List, [], ◌∷◌, ◌++◌, map, length, take, append_assoc, Option, Some, None, IfSome, refl, sym, ap, ◌∙◌, subst, arith}
use Rattle.std.specs.List.{AllByRecursion}
use Rattle.polynomials.specs.Primes.{IsPrime}
use Rattle.polynomials.specs.Polynomials.{Polynomial, IsPolynomial, ArePolynomials, monic}
use Rattle.polynomials.specs.Views.{degree_in, lead_in, tail_in, main_var, IsFreeOf}
use Rattle.polynomials.proofs.Degrees.{coefficient_in_free}
use Rattle.polynomials.proofs.Coefficients.{IsPolynomial-coefficient_in}
use Rattle.polynomials.proofs.MainVariables.{degree_in_main_var, free_above_main_var}
use Rattle.polynomials.proofs.MonicLemmas.{IsPolynomial-monic}
use Rattle.zero_sets.specs.ZeroSets.{member_in, members_below}
use Rattle.zero_sets.specs.Tasks.{Task, is_known_nonzero, with_nonzero}
use Rattle.division_rules.specs.Lists.{list_operations}
use Rattle.division_rules.specs.Quotients.{without_factors}
use Rattle.division_rules.specs.Rows.{Row, plain}
use Rattle.division_rules.specs.RemainderRows.{leads}
use Rattle.division_rules.proofs.Factors.{without_factors_nonzero}
use Rattle.division_rules.proofs.Steps.{choose}
use Rattle.row_laws.specs.Words.{reduction_of, IsReducedBy}
use Rattle.row_laws.proofs.Members.{members_reduce}
use Rattle.impose_rules.specs.Chains.{with_member}
use Rattle.impose_rules.specs.Factors.{stripped}
use Rattle.impose_rules.specs.Impose.{reduced_head, child_extended, child_initial, child_lead, child_common, impose_children}
use Rattle.impose_rules.specs.Laws.{ChangesMember}
use Rattle.impose_rules.specs.Leads.{with_all_nonzero, unknown_from, lead_cases}
use Rattle.impose_rules.proofs.ChainParts.{member_of_chain}
use Rattle.impose_rules.proofs.ChangedMembers.{member_is_changed}
use Rattle.impose_rules.proofs.LeadPlaces.{place_of, with_all-one_more, next_place}
use Rattle.impose_rules.proofs.Lists.{each_appended}
use Rattle.impose_laws.proofs.ChildrenCases.{by_rows, by_children}
use Rattle.impose_laws.proofs.CommonRows.{row_leads, later_rows, last_polynomial, leads_canonical, leads_free, last_canonical, last_main, occurring_nonzero}
use Rattle.impose_laws.proofs.Heads.{IsHead, head_is, IsPolynomial-reduced_by, head_without, start_of}
use Rattle.impose_laws.proofs.MonicForms.{degree_in-monic}
use Rattle.impose_laws.proofs.RowShapes.{rows, rows_degrees}
use Rattle.impose_laws.proofs.RowStarts.{IsStart}
use Rattle.impose_laws.proofs.Stripped.{degree_in-stripped, main_var-stripped}
use Rattle.finish_laws.specs.Lawful.{IsLawfulPolynomial, AreLawfulPolynomials, IsLawfulChain}
use Rattle.finish_laws.proofs.Parts.{IsSmall, AreSmall, canonical_lawful, free_lawful, small_lawful}
use Rattle.case_laws.proofs.SmallTasks.{AreSmallTasks, children_small}
use Rattle.finish_laws.proofs.Mains.{lacks_all}
use Rattle.rank_rules.specs.Orders.{IsLessFromFirst}
use Rattle.rank_rules.specs.Ranks.{degree_or_more, degrees_below, number_of, phase_of, rank_of}
use Rattle.rank_laws.specs.Laws.{ImposedChildrenHaveLessRank}
use Rattle.rank_laws.proofs.ImposedHeads.{reduced_each, last_low, leads_imposed}
use Rattle.rank_laws.proofs.Leads.{lead_free_from, lead_new}
use Rattle.rank_laws.proofs.Orders.{less_behind, changed_less, main_low}
use Rattle.rank_laws.proofs.Phases.{IsNewHead, zero_left, head_phase, rest_less, low_less, monic_new}

-- canonical polynomials that don't vanish, and one more
with_canonical : (p n : ℕ) (ns : List Polynomial) (h : Polynomial) → IsPrime p → ArePolynomials p n ns → IsPolynomial p n h → ArePolynomials p n (with_nonzero p ns h)
with_canonical p n ns h prime are i = choose (ArePolynomials p n) (is_known_nonzero p ns h) ns (ns ++ monic p h ∷ []) (λ e. are) (λ e. appended ns are)
  where
    appended : (ms : List Polynomial) → ArePolynomials p n ms → ArePolynomials p n (ms ++ monic p h ∷ [])
    appended [] each = (IsPolynomial-monic p n h prime i, tt)
    appended (m ∷ ms) each = (each.0, appended ms each.1)

module _ (p n k w : ℕ) (prime : IsPrime p) (chain rest ns : List Polynomial) (of_chain : IsLawfulChain p n k chain) (of_ns : AreLawfulPolynomials p n k ns) (f : Polynomial) (of_f : IsLawfulPolynomial p n k f) where
  are : ArePolynomials p n chain
  are = canonical_lawful p n k chain of_chain.lawful

  are_ns : ArePolynomials p n ns
  are_ns = canonical_lawful p n k ns of_ns

  -- less than the rank of the task
  abbrev IsLower : Task → Type 0
  IsLower kid = IsLessFromFirst (rank_of p n k w kid) (degrees_below k chain ++ phase_of p n w chain ns (f ∷ rest))

  canonical_f : IsPolynomial p n (reduction_of p n chain f)
  canonical_f = IsPolynomial-reduced_by p n w prime chain ns are are_ns of_chain.triangular f of_f.canonical

  is_head : (g : Polynomial) → reduced_head p n w chain rest ns f ≡ Some g → g ≡ stripped p w ns (reduction_of p n chain f)
  is_head g made = head_is p n w prime chain ns are are_ns of_chain.triangular f g rest made

  -- where the head is 0 so is the reduction
  zero_reduction : (g : Polynomial) → reduced_head p n w chain rest ns f ≡ Some g → g ≡ [] → reduction_of p n chain f ≡ []
  zero_reduction g made null = zero_left p n w prime ns are_ns (reduction_of p n chain f) canonical_f (sym (is_head g made) ∙ null)

  module _ (v : ℕ) (g : Polynomial) (made : reduced_head p n w chain rest ns f ≡ Some g) (head : IsHead p n chain g) (main : main_var g ≡ Some v) where
    -- and only there
    nonzero_reduction : reduction_of p n chain f ≢ []
    nonzero_reduction null =
        let occurs = degree_in_main_var v g main in
        let left = degree_in-stripped p n w prime ns are_ns v (reduction_of p n chain f) canonical_f in
        let same = ap (degree_in v) (is_head g made) in
        let none = ap (degree_in v) null in
        omega (arith, occurs, left, same, none)

    -- the phase of the task
    task_phase : phase_of p n w chain ns (f ∷ rest) ≡ 0 ∷ suc v ∷ []
    task_phase = head_phase p n w prime chain are of_chain.triangular ns f rest nonzero_reduction ∙ ap (λ o. 0 ∷ number_of o ∷ []) (ap main_var (sym (is_head g made)) ∙ main)

    -- v is one of the variables
    is_variable : v < k
    is_variable = main_low k v g (λ x past. head_without p n w prime chain ns are are_ns of_chain.triangular x f g rest of_f.canonical made (free_lawful p n k x past chain of_chain.lawful) (of_f.named x past)) main

    reduced_g : IsReducedBy g chain
    reduced_g = reduced_each g chain head.reduced

    -- a child that imposes a new head without v
    queued_lower : (ms : List Polynomial) → ArePolynomials p n ms → (x : Polynomial) (more : List Polynomial) → IsNewHead p n chain x → ((y : ℕ) → v ≤ y → IsFreeOf y x) → IsLower (record { chain = chain; queue = x ∷ more; nonzero = ms })
    queued_lower ms are_ms x more new free = less_behind (degrees_below k chain) (phase_of p n w chain ms (x ∷ more)) (phase_of p n w chain ns (f ∷ rest)) (subst (IsLessFromFirst (phase_of p n w chain ms (x ∷ more))) (sym task_phase) (low_less p n w prime chain are of_chain.triangular ms are_ms v x more new free))

    -- a child with a lesser degree at v
    changed_lower : (t : Polynomial) (ms : List Polynomial) → main_var t ≡ Some v → degree_in v t < degree_or_more v (member_in v chain) → IsLower (record { chain = with_member v t chain; queue = rest; nonzero = ms })
    changed_lower t ms main_t falls = changed_less k v chain (with_member v t chain) (phase_of p n w (with_member v t chain) ms rest) (phase_of p n w chain ns (f ∷ rest)) is_variable (subst (λ o. degree_or_more v o < degree_or_more v (member_in v chain)) (sym changed.there) falls) changed.elsewhere
      where
        changed : ChangesMember v t chain (with_member v t chain)
        changed = member_is_changed v t chain main_t of_chain.triangular

    -- the initial is imposed
    initial_lower : AllByRecursion IsLower (child_initial p n w chain rest ns v g)
    initial_lower = choose (AllByRecursion IsLower) (is_known_nonzero p ns (lead_in v g)) [] (record { chain = chain; queue = lead_in v g ∷ tail_in v g ∷ rest; nonzero = ns } ∷ []) (λ e. tt) (λ e. (queued_lower ns are_ns (lead_in v g) (tail_in v g ∷ rest) (lead_new p n v chain (plain g) (record { canonical = head.canonical; nonzero = occurring_nonzero v g (degree_in_main_var v g main); below = members_reduce v g chain reduced_g; lacks = lacks_all (suc v) g chain (λ x from. free_above_main_var v x g main from) })) (lead_free_from v g (λ x from. free_above_main_var v x g main from)), tt))

    -- the chain has a new main variable; if it had a polynomial there, that would have a greater degree
    extended_lower : AreSmall (with_member v (stripped p w (lead_in v g ∷ []) g) chain) → IsLower (child_extended p n w chain rest ns v g)
    extended_lower small = changed_lower t (with_nonzero p ns (lead_in v g)) main_t (go (member_in v chain) refl)
      where
        factors : ArePolynomials p n (lead_in v g ∷ [])
        factors = (IsPolynomial-coefficient_in v (degree_in v g) p n g head.canonical, tt)

        t : Polynomial
        t = stripped p w (lead_in v g ∷ []) g

        main_t : main_var t ≡ Some v
        main_t = main_var-stripped p n w prime (lead_in v g ∷ []) factors v (coefficient_in_free v (degree_in v g) g, tt) g head.canonical main

        go : (o : Option Polynomial) → member_in v chain ≡ o → degree_in v t < degree_or_more v o
        go None none = let low = (member_of_chain IsSmall v (with_member v t chain) t (member_is_changed v t chain main_t of_chain.triangular).there small).0 v in omega (arith, low)
        go (Some u) found =
            let falls = (start_of p n w prime chain ns are are_ns of_chain.triangular v g u head main found).falls in
            let left = degree_in-stripped p n w prime (lead_in v g ∷ []) factors v g head.canonical in
            omega (arith, falls, left)

    -- leads are imposed
    leads_lower : (ls before later ms : List Polynomial) (j : ℕ) → ls ≡ before ++ later → j ≡ suc (length before) → ms ≡ with_all_nonzero p ns before → ArePolynomials p n ms → AllByRecursion (λ l. IsNewHead p n chain l × ((x : ℕ) → v ≤ x → IsFreeOf x l)) later → AllByRecursion IsLower (map (child_lead p n w chain rest ns g ls) (unknown_from p ms j later))
    leads_lower ls before [] ms j e at same are_ms each = tt
    leads_lower ls before (l ∷ later) ms j e at same are_ms each =
        let further = leads_lower ls (before ++ l ∷ []) later (with_nonzero p ms l) (suc j) (e ∙ sym (append_assoc before (l ∷ []) later)) (next_place before l j at) (ap (λ x. with_nonzero p x l) same ∙ sym (with_all-one_more p ns before l)) (with_canonical p n ms l prime are_ms each.0.0.canonical) each.1 in
        choose (λ js. AllByRecursion IsLower (map (child_lead p n w chain rest ns g ls) js)) (is_known_nonzero p ms l) (unknown_from p (with_nonzero p ms l) (suc j) later) (j ∷ unknown_from p (with_nonzero p ms l) (suc j) later) (λ known. further) (λ unknown. (here, further))
      where
        here : IsLower (child_lead p n w chain rest ns g ls j)
        here =
            let found = place_of ls before l later j e at in
            subst (λ x. IsLower (record { chain = chain; queue = monic p x ∷ g ∷ rest; nonzero = with_all_nonzero p ns (take (j - 1) ls) })) (sym found.0) (subst (λ x. IsLower (record { chain = chain; queue = monic p l ∷ g ∷ rest; nonzero = x })) (same ∙ ap (with_all_nonzero p ns) (sym found.1)) (queued_lower ms are_ms (monic p l) (g ∷ rest) (monic_new p n w prime chain are of_chain.triangular l each.0.0) (λ y from. degree_in-monic p n prime y l each.0.0.canonical ∙ each.0.1 y from)))

    -- the last row takes the place of the polynomial at v
    module _ (t : Polynomial) (found : member_in v chain ≡ Some t) where
      abbrev start : IsStart p n v (members_below v chain) t g
      start = start_of p n w prime chain ns are are_ns of_chain.triangular v g t head main found

      abbrev ls : List Polynomial
      ls = row_leads p n prime w v (members_below v chain) t g start

      abbrev last : Polynomial
      last = last_polynomial p n prime w v (members_below v chain) t g start

      common_lower : (o : Option (Row Polynomial)) → (rows p n prime w v (members_below v chain) t g start).last ≡ o → AllByRecursion IsLower (child_common p n w chain rest ns v ls last o)
      common_lower None e = tt
      common_lower (Some z) e = (changed_lower (stripped p w ls last) (with_all_nonzero p ns ls) (main_var-stripped p n w prime ls are_ls v (leads_free p n prime w v (members_below v chain) t g start) last canonical_last (last_main p n prime w v (members_below v chain) t g start z e main_t main)) (subst (λ x. degree_in v (stripped p w ls last) < degree_or_more v x) (sym found) less), tt)
        where
          are_ls : ArePolynomials p n ls
          are_ls = leads_canonical p n prime w v (members_below v chain) t g start

          canonical_last : IsPolynomial p n last
          canonical_last = last_canonical p n prime w v (members_below v chain) t g start

          main_t : main_var t ≡ Some v
          main_t = (member_of_chain (λ x. Unit {0}) v chain t found (anything chain)).1
            where
              anything : (us : List Polynomial) → AllByRecursion (λ x. Unit {0}) us
              anything [] = tt
              anything (u ∷ us) = (tt, anything us)

          less : degree_in v (stripped p w ls last) < degree_in v t
          less =
              let left = degree_in-stripped p n w prime ls are_ls v last canonical_last in
              let low : degree_in v last ≤ degree_in v g = last_low p n v (plain g) (later_rows p n prime w v (members_below v chain) t g start) (rows p n prime w v (members_below v chain) t g start).last (rows_degrees p n prime w v (members_below v chain) t g start) in
              let falls = start.falls in
              omega (arith, left, low, falls)

      rows_lower : AllByRecursion IsLower (by_rows p n w prime chain rest ns are are_ns of_chain.triangular f of_f.canonical v g t head main found)
      rows_lower =
          let each = leads_imposed p n w v prime chain are of_chain.triangular t g reduced_g main found start in
          let common = child_common p n w chain rest ns v ls last (rows p n prime w v (members_below v chain) t g start).last in
          let cases = map (child_lead p n w chain rest ns g ls) (lead_cases p ns ls) in
          each_appended IsLower (common ++ cases) (child_initial p n w chain rest ns v g) (each_appended IsLower common cases (common_lower (rows p n prime w v (members_below v chain) t g start).last refl) (leads_lower ls (lead_in v g ∷ []) later_leads (with_nonzero p ns (lead_in v g)) 2 refl refl refl (with_canonical p n ns (lead_in v g) prime are_ns each.0.0.canonical) each.1)) initial_lower
        where
          later_leads : List Polynomial
          later_leads = leads (list_operations p n) v (later_rows p n prime w v (members_below v chain) t g start)

  -- each child is lower, where they are small
  abbrev AreLower : List Task → Type 0
  AreLower kids = AreSmallTasks kids → AllByRecursion IsLower kids

  children_lower : IfSome (impose_children p n w chain rest ns f) AreLower
  children_lower = by_children p n w prime chain rest ns are are_ns of_chain.triangular f of_f.canonical AreLower (λ g made head null small. (less_behind (degrees_below k chain) (phase_of p n w chain ns rest) (phase_of p n w chain ns (f ∷ rest)) (rest_less p n w prime chain are of_chain.triangular ns f rest (zero_reduction g made null)), tt)) (λ g made head some none small. tt) (λ v g made head main small. (extended_lower v g made head main small.0.0, initial_lower v g made head main)) (λ v g t made head main found small. rows_lower v g made head main t found)

  pub each_lower : AreSmall rest → IfSome (impose_children p n w chain rest ns f) (AllByRecursion IsLower)
  each_lower small_rest = go (impose_children p n w chain rest ns f) children_lower (children_small p n w chain rest ns (small_lawful p n k chain of_chain.lawful) small_rest (small_lawful p n k ns of_ns) f of_f.small)
    where
      go : (o : Option (List Task)) → IfSome o AreLower → IfSome o AreSmallTasks → IfSome o (AllByRecursion IsLower)
      go None lower small = tt
      go (Some kids) lower small = lower small

-- the law of imposed children
pub imposed_children_have_less_rank : ImposedChildrenHaveLessRank
imposed_children_have_less_rank p n k w task f rest prime lawful starts =
    let queue = subst (AreLawfulPolynomials p n k) starts lawful.queue in
    subst (λ q. IfSome (impose_children p n w task.chain rest task.nonzero f) (AllByRecursion (λ kid. IsLessFromFirst (rank_of p n k w kid) (degrees_below k task.chain ++ phase_of p n w task.chain task.nonzero q)))) (sym starts) (each_lower p n k w prime task.chain rest task.nonzero lawful.chain lawful.nonzero f queue.0 (small_lawful p n k rest queue.1))
