-- The children of a task when the first polynomial of its queue is imposed on the chain.
use Rattle.std.specs.Prelude.{ℕ, ◌-◌, true, false, List, [], ◌∷◌, ◌++◌, map, take, get_or, Option, Some, None}
use Rattle.polynomials.specs.Polynomials.{Polynomial, monic, is_zero}
use Rattle.polynomials.specs.Views.{main_var, lead_in, tail_in}
use Rattle.zero_sets.specs.ZeroSets.{member_in, members_below}
use Rattle.zero_sets.specs.Tasks.{Task, is_known_nonzero, with_nonzero}
use Rattle.division_rules.specs.Rows.{Row, plain, plains}
use Rattle.division_rules.specs.Within.{and_then, reduction_within}
use Rattle.division_rules.specs.RemainderRows.{LaterRows, leads}
use Rattle.division_rules.specs.RemainderRowsWithin.{remainder_rows_within}
use Rattle.division_rules.specs.Turns.{last_row}
use Rattle.division_rules.specs.Lists.{list_operations}
use Rattle.split_paths.specs.declared.splitter.Step.{Step}
use Rattle.split_paths.specs.declared.splitter.Step.TheVariants.{Gone, TooWide, Kids}
use Rattle.impose_rules.specs.Factors.{stripped}
use Rattle.impose_rules.specs.Leads.{with_all_nonzero, lead_cases}
use Rattle.impose_rules.specs.Chains.{with_member}

-- in n variables modulo p, with products and quotients within the width w; a task has a chain, a
-- queue of which rest is left, and polynomials ns that don't vanish
module _ (p n w : ℕ) (chain rest ns : List Polynomial) where
  -- f reduced by the chain, without the factors ns, monic; None where a product doesn't fit
  abbrev pub reduced_head : Polynomial → Option Polynomial
  reduced_head f =
      and_then (reduction_within (list_operations p n) w (plains chain) (plain f))
      (λ g. Some (stripped p w ns g.first))

  -- nothing was left to impose
  abbrev pub child_without : Task
  child_without = record { chain = chain; queue = rest; nonzero = ns }

  -- the initial of r doesn't vanish, and r is the polynomial of the chain for its main variable v
  abbrev pub child_extended : ℕ → Polynomial → Task
  child_extended v r = record {
    chain = with_member v (stripped p w (lead_in v r ∷ []) r) chain;
    queue = rest;
    nonzero = with_nonzero p ns (lead_in v r);
  }

  -- the initial of r vanishes, unless it is known not to
  abbrev pub child_initial : ℕ → Polynomial → List Task
  child_initial v r = elim (is_known_nonzero p ns (lead_in v r)) [
    | true ↦ []
    | false ↦ record { chain = chain; queue = lead_in v r ∷ tail_in v r ∷ rest; nonzero = ns } ∷ []
  ]

  -- the lead number j vanishes, and none before it does
  abbrev pub child_lead : Polynomial → List Polynomial → ℕ → Task
  child_lead r ls j = record {
    chain = chain;
    queue = monic p (get_or ls (j - 1) []) ∷ r ∷ rest;
    nonzero = with_all_nonzero p ns (take (j - 1) ls);
  }

  -- no lead vanishes, and the last row takes the place of the polynomial for v; only where a zero
  -- row follows it
  abbrev pub child_common : ℕ → List Polynomial → Polynomial → Option (Row Polynomial) → List Task
  child_common v ls last None = []
  child_common v ls last (Some zero_row) = record {
    chain = with_member v (stripped p w ls last) chain;
    queue = rest;
    nonzero = with_all_nonzero p ns ls;
  } ∷ []

  -- the children by the remainder rows after r
  abbrev pub children_by_rows : ℕ → Polynomial → LaterRows Polynomial → List Task
  children_by_rows v r rows =
      let ls = leads (list_operations p n) v (plain r ∷ rows.later) in
      child_common v ls (last_row (plain r) rows.later).first rows.last
      ++ map (child_lead r ls) (lead_cases p ns ls)
      ++ child_initial v r

  -- the children by the polynomial of the chain for the main variable v of r, if there is one
  abbrev pub children_at : ℕ → Polynomial → Option Polynomial → Option (List Task)
  children_at v r None = Some (child_extended v r ∷ child_initial v r)
  children_at v r (Some t) =
      let below = plains (members_below v chain) in
      and_then (remainder_rows_within (list_operations p n) w v below (plain t) (plain r))
      (λ rows. Some (children_by_rows v r rows))

  -- the children by the main variable of r, if there is one: 0 imposes nothing, and another
  -- constant leaves no points
  abbrev pub children_by_head : Polynomial → Option ℕ → Option (List Task)
  children_by_head r None = elim (is_zero r) [ true ↦ Some (child_without ∷ []) | false ↦ Some [] ]
  children_by_head r (Some v) = children_at v r (member_in v chain)

  -- the children when f is imposed; None where a named product doesn't fit
  abbrev pub impose_children : Polynomial → Option (List Task)
  impose_children f = and_then (reduced_head f) (λ r. children_by_head r (main_var r))

-- a task that gives way to its children is gone where there are none
abbrev pub step_to : {L : Type 0} → List Task → Step Task L
step_to [] = Gone
step_to (kid ∷ kids) = Kids (kid ∷ kids)

-- and where a product doesn't fit the step is too wide
abbrev pub step_to_fitting : {L : Type 0} → Option (List Task) → Step Task L
step_to_fitting None = TooWide
step_to_fitting (Some kids) = step_to kids

-- the step of a task with the chain and ns, where f is the first of the queue and rest the others
abbrev pub impose_step : {L : Type 0}
    → ℕ → ℕ → ℕ → List Polynomial → Polynomial → List Polynomial → List Polynomial → Step Task L
impose_step p n w chain f rest ns = step_to_fitting (impose_children p n w chain rest ns f)
