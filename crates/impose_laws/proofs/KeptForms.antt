-- The children of an imposed polynomial keep the form of the task.
use Rattle.std.proofs.Common.{◌≡◌, ℕ, ◌-◌, List, [], ◌∷◌, ◌++◌, map, take, get_or, Option, Some, None, IfSome, refl, subst}
use Rattle.std.specs.List.{AllByRecursion}
use Rattle.polynomials.specs.Primes.{IsPrime}
use Rattle.polynomials.specs.Polynomials.{Polynomial, ArePolynomials, monic}
use Rattle.polynomials.specs.Views.{degree_in, lead_in, tail_in, main_var, IsFreeOf, AreFreeOf}
use Rattle.polynomials.proofs.Degrees.{coefficient_in_free}
use Rattle.zero_sets.specs.ZeroSets.{member_in, members_below}
use Rattle.zero_sets.specs.Tasks.{Task, is_known_nonzero, with_nonzero}
use Rattle.division_rules.specs.Rows.{Row}
use Rattle.division_rules.proofs.Steps.{choose}
use Rattle.impose_rules.specs.Leads.{with_all_nonzero, lead_cases}
use Rattle.impose_rules.specs.Impose.{child_extended, child_initial, child_lead, child_common, impose_children}
use Rattle.impose_laws.specs.TaskForms.{IsTaskFreeOf, KeepsForm}
use Rattle.impose_laws.specs.Laws.{ChildrenKeepTheForm}
use Rattle.impose_rules.proofs.Lists.{each_appended, each_implied}
use Rattle.impose_laws.proofs.RowStarts.{IsStart}
use Rattle.impose_laws.proofs.RowShapes.{rows}
use Rattle.impose_rules.proofs.ChainParts.{member_of_chain, each_below}
use Rattle.impose_laws.proofs.Heads.{IsHead, head_without, start_of}
use Rattle.impose_laws.proofs.ChildrenCases.{IsMade, by_rows, by_children}
use Rattle.impose_laws.proofs.CommonRows.{row_leads, leads_canonical, leads_free, leads_without, last_polynomial, last_canonical, last_main, last_without}
use Rattle.impose_laws.proofs.Forms.{IsFrom, AreFrom, canonical_from, from_lists, from_lead, from_tail, from_monic, from_place, from_first, ChainKept, chain_with, NonzeroKept, nonzero_with, nonzero_with_all, kept_form}

module _ (p n w : ℕ) (prime : IsPrime p) (task : Task) (chain rest ns : List Polynomial) (c : ChainKept p n w prime task chain) (q : AreFrom p n task rest) (m : NonzeroKept p n w prime task ns) where
  abbrev Keep : List Task → Type 0
  Keep kids = AllByRecursion (KeepsForm p n task) kids

  are : ArePolynomials p n chain
  are = canonical_from p n w prime task chain c.from

  are_ns : ArePolynomials p n ns
  are_ns = canonical_from p n w prime task ns m.from

  module _ (v : ℕ) (g : Polynomial) (head : IsHead p n chain g) (from_g : IsFrom p n task g) (main : main_var g ≡ Some v) where
    initial_keeps : Keep (child_initial p n w chain rest ns v g)
    initial_keeps = choose Keep (is_known_nonzero p ns (lead_in v g)) [] (record { chain = chain; queue = lead_in v g ∷ tail_in v g ∷ rest; nonzero = ns } ∷ []) (λ e. tt) (λ e. (kept_form p n w prime task chain (lead_in v g ∷ tail_in v g ∷ rest) ns c (from_lead p n w prime task v g from_g, (from_tail p n w prime task v g from_g, q)) m, tt))

    extended_keeps : Keep (child_extended p n w chain rest ns v g ∷ child_initial p n w chain rest ns v g)
    extended_keeps =
        let lead = from_lead p n w prime task v g from_g in
        (kept_form p n w prime task _ rest (with_nonzero p ns (lead_in v g)) (chain_with p n w prime task v (lead_in v g ∷ []) g chain (lead.canonical, tt) (coefficient_in_free v (degree_in v g) g, tt) from_g main c) q (nonzero_with p n w prime task ns (lead_in v g) lead m), initial_keeps)

    module _ (t : Polynomial) (found : member_in v chain ≡ Some t) where
      start : IsStart p n v (members_below v chain) t g
      start = start_of p n w prime chain ns are are_ns c.triangular v g t head main found

      abbrev ls : List Polynomial
      ls = row_leads p n prime w v (members_below v chain) t g start

      abbrev last : Polynomial
      last = last_polynomial p n prime w v (members_below v chain) t g start

      of_t : IsFrom p n task t × (main_var t ≡ Some v)
      of_t = member_of_chain (IsFrom p n task) v chain t found c.from

      below_without : (x : ℕ) → IsTaskFreeOf x task → AreFreeOf x (members_below v chain)
      below_without x none = each_below (IsFreeOf x) v chain (each_implied (IsFrom p n task) (IsFreeOf x) (λ f i. i.free x none) chain c.from)

      from_leads : AreFrom p n task ls
      from_leads = from_lists p n w prime task ls (leads_canonical p n prime w v (members_below v chain) t g start) (λ x none. leads_without p n prime w v (members_below v chain) t g start x (below_without x none) (of_t.0.free x none) (from_g.free x none))

      from_last : IsFrom p n task last
      from_last = record { canonical = last_canonical p n prime w v (members_below v chain) t g start; free = λ x none. last_without p n prime w v (members_below v chain) t g start x (below_without x none) (of_t.0.free x none) (from_g.free x none) }

      leads_keep : (js : List ℕ) → Keep (map (child_lead p n w chain rest ns g ls) js)
      leads_keep [] = tt
      leads_keep (j ∷ js) = (kept_form p n w prime task chain (monic p (get_or ls (j - 1) []) ∷ g ∷ rest) (with_all_nonzero p ns (take (j - 1) ls)) c (from_monic p n w prime task (get_or ls (j - 1) []) (from_place p n w prime task ls (j - 1) from_leads), (from_g, q)) (nonzero_with_all p n w prime task ns (take (j - 1) ls) (from_first p n w prime task (j - 1) ls from_leads) m), leads_keep js)

      common_keeps : (o : Option (Row Polynomial)) → (rows p n prime w v (members_below v chain) t g start).last ≡ o → Keep (child_common p n w chain rest ns v ls last o)
      common_keeps None e = tt
      common_keeps (Some z) e = (kept_form p n w prime task _ rest (with_all_nonzero p ns ls) (chain_with p n w prime task v ls last chain (leads_canonical p n prime w v (members_below v chain) t g start) (leads_free p n prime w v (members_below v chain) t g start) from_last (last_main p n prime w v (members_below v chain) t g start z e of_t.1 main) c) q (nonzero_with_all p n w prime task ns ls from_leads m), tt)

      rows_keep : Keep (by_rows p n w prime chain rest ns are are_ns c.triangular g head.canonical v g t head main found)
      rows_keep = each_appended (KeepsForm p n task) (child_common p n w chain rest ns v ls last (rows p n prime w v (members_below v chain) t g start).last ++ map (child_lead p n w chain rest ns g ls) (lead_cases p ns ls)) (child_initial p n w chain rest ns v g) (each_appended (KeepsForm p n task) (child_common p n w chain rest ns v ls last (rows p n prime w v (members_below v chain) t g start).last) (map (child_lead p n w chain rest ns g ls) (lead_cases p ns ls)) (common_keeps (rows p n prime w v (members_below v chain) t g start).last refl) (leads_keep (lead_cases p ns ls))) initial_keeps

  -- for a polynomial that comes from the task
  children_keep : (f : Polynomial) → IsFrom p n task f → IfSome (impose_children p n w chain rest ns f) Keep
  children_keep f from_f = by_children p n w prime chain rest ns are are_ns c.triangular f from_f.canonical Keep (λ g made head null. (kept_form p n w prime task chain rest ns c q m, tt)) (λ g made head some e. tt) (λ v g made head main. extended_keeps v g head (from_head g made head) main) (λ v g t made head main found. rows_keep v g head (from_head g made head) main t found)
    where
      from_head : (g : Polynomial) → IsMade p n w prime chain rest ns are are_ns c.triangular f from_f.canonical g → IsHead p n chain g → IsFrom p n task g
      from_head g made head = record { canonical = head.canonical; free = λ x none. head_without p n w prime chain ns are are_ns c.triangular x f g rest from_f.canonical made (each_implied (IsFrom p n task) (IsFreeOf x) (λ t i. i.free x none) chain c.from) (from_f.free x none) }

-- the law of forms
pub children_keep_the_form : ChildrenKeepTheForm
children_keep_the_form p n w task f rest prime over triangular starts =
    let queue = subst (AreFrom p n task) starts (from_lists p n w prime task task.queue over.1 (λ x none. none.1)) in
    children_keep p n w prime task task.chain rest task.nonzero (record { from = from_lists p n w prime task task.chain over.0 (λ x none. none.0); triangular = triangular; monic_chain = λ h. h }) queue.1 (record { from = from_lists p n w prime task task.nonzero over.2 (λ x none. none.2); apart = λ h. h }) f queue.0
