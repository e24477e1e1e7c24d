-- The children of an imposed polynomial have degrees of at most 65,535 where the task has.
use Rattle.std.proofs.Common.{ℕ, zero, suc, ◌-◌, List, [], ◌∷◌, ◌++◌, map, take, get_or, Option, Some, None, IfSome}
use Rattle.std.specs.List.{AllByRecursion}
use Rattle.polynomials.specs.Polynomials.{Polynomial, monic, is_zero}
use Rattle.polynomials.specs.Views.{lead_in, tail_in, main_var}
use Rattle.zero_sets.specs.ZeroSets.{member_in, members_below}
use Rattle.zero_sets.specs.Tasks.{Task, is_known_nonzero, with_nonzero}
use Rattle.division_rules.specs.Lists.{list_operations}
use Rattle.division_rules.specs.Rows.{Row, plain, plains}
use Rattle.division_rules.specs.RemainderRows.{LaterRows, leads}
use Rattle.division_rules.specs.RemainderRowsWithin.{remainder_rows_within}
use Rattle.division_rules.specs.Turns.{last_row}
use Rattle.division_rules.specs.Within.{reduction_within}
use Rattle.division_rules.proofs.Steps.{choose}
use Rattle.impose_rules.specs.Chains.{with_member}
use Rattle.impose_rules.specs.Factors.{stripped}
use Rattle.impose_rules.specs.Impose.{reduced_head, child_without, child_extended, child_initial, child_lead, child_common, children_by_rows, children_at, children_by_head, impose_children}
use Rattle.impose_rules.specs.Leads.{with_all_nonzero, lead_cases}
use Rattle.impose_rules.proofs.ChainParts.{each_with_member}
use Rattle.impose_rules.proofs.Lists.{each_appended}
use Rattle.finish_laws.proofs.Parts.{IsSmall, AreSmall}
use Rattle.case_laws.proofs.Parts.{IsSmallTask}
use Rattle.finish_laws.proofs.Results.{then_follows}
use Rattle.finish_laws.proofs.Small.{zero_small, monic_small, lead_small, tail_small, stripped_small}
use Rattle.finish_laws.proofs.SmallRows.{IsSmallRow, AreSmallRows, reduction_small, rows_small, leads_small, last_small}

-- small tasks
abbrev pub AreSmallTasks : List Task → Type 0
AreSmallTasks tasks = AllByRecursion IsSmallTask tasks

-- what is taken of a list of small polynomials
place_small : (fs : List Polynomial) (k : ℕ) → AreSmall fs → IsSmall (get_or fs k [])
place_small [] k small = zero_small
place_small (f ∷ fs) zero small = small.0
place_small (f ∷ fs) (suc k) small = place_small fs k small.1

first_small : (k : ℕ) (fs : List Polynomial) → AreSmall fs → AreSmall (take k fs)
first_small zero fs small = tt
first_small (suc k) [] small = tt
first_small (suc k) (f ∷ fs) small = (small.0, first_small k fs small.1)

-- what is known not to vanish stays small
with_nonzero_small : (p : ℕ) (ns : List Polynomial) (h : Polynomial) → IsSmall h → AreSmall ns → AreSmall (with_nonzero p ns h)
with_nonzero_small p ns h small_h small = choose AreSmall (is_known_nonzero p ns h) ns (ns ++ monic p h ∷ []) (λ e. small) (λ e. each_appended IsSmall ns (monic p h ∷ []) small (monic_small p h small_h, tt))

with_all_nonzero_small : (p : ℕ) (ns hs : List Polynomial) → AreSmall hs → AreSmall ns → AreSmall (with_all_nonzero p ns hs)
with_all_nonzero_small p ns [] small_hs small = small
with_all_nonzero_small p ns (h ∷ hs) small_hs small = with_all_nonzero_small p (with_nonzero p ns h) hs small_hs.1 (with_nonzero_small p ns h small_hs.0 small)

module _ (p n w : ℕ) (chain rest ns : List Polynomial) (small_chain : AreSmall chain) (small_rest : AreSmall rest) (small_ns : AreSmall ns) where
  -- so does a triangular set with one member changed
  with_member_small : (v : ℕ) (bs : List Polynomial) (f : Polynomial) → IsSmall f → AreSmall (with_member v (stripped p w bs f) chain)
  with_member_small v bs f small = each_with_member IsSmall v (stripped p w bs f) chain (stripped_small p w bs f small) small_chain

  -- and the reduced head of the queue
  head_small : (f : Polynomial) → IsSmall f → IfSome (reduced_head p n w chain rest ns f) IsSmall
  head_small f small = then_follows IsSmallRow IsSmall (reduction_within (list_operations p n) w (plains chain) (plain f)) (λ g. Some (stripped p w ns g.first)) (reduction_small p n w (plains chain) (plain f) (small, tt)) (λ g small_g. stripped_small p w ns g.first small_g.0)

  module _ (v : ℕ) (r : Polynomial) (small_r : IsSmall r) where
    -- child by child
    initial_child_small : AreSmallTasks (child_initial p n w chain rest ns v r)
    initial_child_small = choose AreSmallTasks (is_known_nonzero p ns (lead_in v r)) [] (record { chain = chain; queue = lead_in v r ∷ tail_in v r ∷ rest; nonzero = ns } ∷ []) (λ e. tt) (λ e. ((small_chain, (lead_small v r small_r, (tail_small v r small_r, small_rest)), small_ns), tt))

    extended_child_small : IsSmallTask (child_extended p n w chain rest ns v r)
    extended_child_small = (with_member_small v (lead_in v r ∷ []) r small_r, small_rest, with_nonzero_small p ns (lead_in v r) (lead_small v r small_r) small_ns)

    lead_children_small : (ls : List Polynomial) → AreSmall ls → (js : List ℕ) → AreSmallTasks (map (child_lead p n w chain rest ns r ls) js)
    lead_children_small ls small [] = tt
    lead_children_small ls small (j ∷ js) = ((small_chain, (monic_small p (get_or ls (j - 1) []) (place_small ls (j - 1) small), (small_r, small_rest)), with_all_nonzero_small p ns (take (j - 1) ls) (first_small (j - 1) ls small) small_ns), lead_children_small ls small js)

    common_child_small : (ls : List Polynomial) (last : Polynomial) → AreSmall ls → IsSmall last → (o : Option (Row Polynomial)) → AreSmallTasks (child_common p n w chain rest ns v ls last o)
    common_child_small ls last small small_last None = tt
    common_child_small ls last small small_last (Some z) = ((with_member_small v ls last small_last, small_rest, with_all_nonzero_small p ns ls small small_ns), tt)

    row_children_small : (rows : LaterRows Polynomial) → AreSmallRows rows → AreSmallTasks (children_by_rows p n w chain rest ns v r rows)
    row_children_small rows small =
        let ls = leads (list_operations p n) v (plain r ∷ rows.later) in
        let small_ls = leads_small p n w v (plain r ∷ rows.later) ((small_r, tt), small.0) in
        let common = child_common p n w chain rest ns v ls (last_row (plain r) rows.later).first rows.last in
        let cases = map (child_lead p n w chain rest ns r ls) (lead_cases p ns ls) in
        each_appended IsSmallTask (common ++ cases) (child_initial p n w chain rest ns v r) (each_appended IsSmallTask common cases (common_child_small ls (last_row (plain r) rows.later).first small_ls (last_small p n w (plain r) rows.later (small_r, tt) small.0).0 rows.last) (lead_children_small ls small_ls (lead_cases p ns ls))) initial_child_small

    children_at_small : (o : Option Polynomial) → IfSome (children_at p n w chain rest ns v r o) AreSmallTasks
    children_at_small None = (extended_child_small, initial_child_small)
    children_at_small (Some t) = then_follows AreSmallRows AreSmallTasks (remainder_rows_within (list_operations p n) w v (plains (members_below v chain)) (plain t) (plain r)) (λ rows. Some (children_by_rows p n w chain rest ns v r rows)) (rows_small p n w v (plains (members_below v chain)) (plain t) (plain r)) row_children_small

  children_of_small : (r : Polynomial) → IsSmall r → (o : Option ℕ) → IfSome (children_by_head p n w chain rest ns r o) AreSmallTasks
  children_of_small r small None = choose (λ x. IfSome x AreSmallTasks) (is_zero r) (Some (child_without p n w chain rest ns ∷ [])) (Some []) (λ e. ((small_chain, small_rest, small_ns), tt)) (λ e. tt)
  children_of_small r small (Some v) = children_at_small v r small (member_in v chain)

  -- where the head of the queue is small too
  pub children_small : (f : Polynomial) → IsSmall f → IfSome (impose_children p n w chain rest ns f) AreSmallTasks
  children_small f small = then_follows IsSmall AreSmallTasks (reduced_head p n w chain rest ns f) (λ r. children_by_head p n w chain rest ns r (main_var r)) (head_small f small) (λ r small_r. children_of_small r small_r (main_var r))
