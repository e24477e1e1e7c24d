-- The children of a task in the cases of a polynomial that is imposed on it.
use Rattle.std.specs.Prelude.{ℕ, ◌-◌, Bool, true, false, List, [], ◌∷◌, map, take, get_or, Option, Some, None}
use Rattle.polynomials.specs.Polynomials.{Polynomial, monic, is_zero}
use Rattle.polynomials.specs.Views.{lead_in, tail_in}
use Rattle.zero_sets.specs.Tasks.{Task}
use Rattle.impose_rules.specs.Leads.{with_all_nonzero}
use Rattle.chains.specs.Members.{with_polynomial}
use Rattle.subresultants.specs.declared.outcome.RowEnds.{RowEnds}
use Rattle.subresultants.specs.declared.outcome.Remainders.{Remainders}
use Rattle.subresultants.specs.declared.outcome.Remainders.TheVariants.{Coprime, Common, TooWide}
use Rattle.intersect.specs.declared.cases.Case.{Case}
use Rattle.intersect.specs.declared.cases.Case.TheVariants.{Member, Lead, Initial}
use Rattle.intersect.specs.declared.head.Head.{Head}
use Rattle.intersect.specs.Cases.{cases_of_rows}

-- the initial vanishes
abbrev pub child_with_initial : Head → Task → Task
child_with_initial head left = record {
  chain = left.chain;
  queue = lead_in head.variable head.poly ∷ tail_in head.variable head.poly ∷ left.queue;
  nonzero = left.nonzero;
}

module _ (p : ℕ) (head : Head) (left : Task) where
  -- no lead vanishes, and t stands in the chain
  abbrev pub child_with_member : Polynomial → Task
  child_with_member t = record {
    chain = with_polynomial t left.chain;
    queue = left.queue;
    nonzero = with_all_nonzero p left.nonzero head.leads;
  }

  -- lead number j vanishes, and none before it does
  abbrev pub child_with_lead : ℕ → Task
  child_with_lead j = record {
    chain = left.chain;
    queue = monic p (get_or head.leads (j - 1) []) ∷ head.poly ∷ left.queue;
    nonzero = with_all_nonzero p left.nonzero (take (j - 1) head.leads);
  }

  -- the child in a case
  abbrev pub child_in : Case → Task
  child_in (Member t) = child_with_member t
  child_in (Lead j) = child_with_lead j
  child_in Initial = child_with_initial head left

-- the children by remainder rows that start with r, whose main variable is v
abbrev pub children_after_rows : ℕ → ℕ → ℕ → Polynomial → Task → RowEnds → Bool → List Task
children_after_rows p w v r left rows common =
    map (child_in p (record { poly = r; variable = v; leads = rows.leads }) left)
    (cases_of_rows p w left.nonzero rows common)

-- the children by how the rows end
abbrev pub children_by : ℕ → ℕ → ℕ → Polynomial → Task → Remainders → Option (List Task)
children_by p w v r left (Coprime rows) = Some (children_after_rows p w v r left rows false)
children_by p w v r left (Common rows z) = Some (children_after_rows p w v r left rows true)
children_by p w v r left TooWide = None

-- the children by a constant: 0 imposes nothing, and another one leaves no points
abbrev pub children_by_constant : Polynomial → Task → List Task
children_by_constant r left = elim (is_zero r) [ true ↦ left ∷ [] | false ↦ [] ]
