-- How a report and its counts grow with the events of a tree.
use Rattle.std.specs.Prelude.{◌≡◌, ℕ, Bool, true, false, List, ◌∷◌, ◌++◌, All}
use Rattle.split_paths.specs.Answer.{answer_of}
use Rattle.split_paths.specs.declared.event.Event.{Event}
use Rattle.split_paths.specs.declared.event.Event.TheVariants as event
use Rattle.split_paths.specs.declared.event.Outcome.{Outcome}
use Rattle.split_paths.specs.declared.event.Outcome.TheVariants.{Chain}
use Rattle.finish_rules.specs.Leaves.{Leaf}
use Rattle.report_text.specs.Polynomials.{IsInLeast}
use Rattle.report_text.specs.Certified.{IsNamedCertificate}
use Rattle.report_text.specs.Answers.{is_stopped}
use Rattle.solver_reports.specs.Walks.{Counts, Front, counts_behind, later_text}

-- each variable that occurs in the chain or in a certificate has one of k names, and certificates
-- have as many cofactors as there are polynomials below
pub record IsPrintableLeaf (k : ℕ) (leaf : Leaf) : Type 0 where
  pub chain : All (IsInLeast k) leaf.chain
  pub certificates : All (IsNamedCertificate k leaf.chain) leaf.certificates

-- what is emitted is printable
abbrev pub IsPrintableOutcome : ℕ → Outcome Leaf → Type 0
IsPrintableOutcome k (Chain leaf) = IsPrintableLeaf k leaf
IsPrintableOutcome k _ = Unit {0}

-- what an event emits is printable
abbrev pub IsPrintableEvent : ℕ → Event Leaf → Type 0
IsPrintableEvent k (event.Split path kids) = Unit {0}
IsPrintableEvent k (event.Leaf path outcome) = IsPrintableOutcome k outcome

-- the report of these events behind a front
abbrev pub report_behind : List (List ℕ) → Front → List (Event Leaf) → List ℕ
report_behind names front events = front.text ++ later_text names front.count (answer_of events)

-- whether the answer of these events is stopped
abbrev pub stops : List (Event Leaf) → Bool
stops events = is_stopped (answer_of events).stop

-- after an event the front goes on, or it is the whole report and stopped
abbrev pub Grows : List (List ℕ) → Event Leaf → Front → Front → Bool → Type 0
Grows names event old new false =
    (events : List (Event Leaf))
    → (report_behind names old (event ∷ events) ≡ report_behind names new events)
    × (stops (event ∷ events) ≡ stops events)
Grows names event old new true =
    (events : List (Event Leaf))
    → (report_behind names old (event ∷ events) ≡ new.text) × (stops (event ∷ events) ≡ true)

-- the counts of these events behind a front
abbrev pub events_counted : Counts → List (Event Leaf) → Counts
events_counted front events = counts_behind front.chains front.polys (answer_of events)

-- after an event the counts go on, or they are whole and stopped
abbrev pub GrowsTo : Event Leaf → Counts → Counts → Bool → Type 0
GrowsTo event old new false =
    ((events : List (Event Leaf))
    → events_counted old (event ∷ events) ≡ events_counted new events)
    × (new.stop ≡ old.stop)
GrowsTo event old new true =
    (events : List (Event Leaf)) → events_counted old (event ∷ events) ≡ new
