-- All inputs vanish on the quasi-component of a triangular set that is emitted.
use Rattle.std.proofs.Common.{◌≡◌, ℕ, Bool, true, false, List, [], ◌∷◌, Option, Some, None, sym}
use Rattle.polynomials.specs.Primes.{IsPrime}
use Rattle.polynomials.specs.Polynomials.{Polynomial, IsPolynomial, ArePolynomials}
use Rattle.zero_sets.specs.Domains.{value_at}
use Rattle.zero_sets.specs.Tasks.{Task}
use Rattle.finish_rules.specs.Leaves.{Leaf}
use Rattle.impose_rules.specs.Impose.{impose_children, step_to_fitting}
use Rattle.impose_rules.proofs.ChainParts.{each_canonical}
use Rattle.impose_rules.proofs.Lists.{each_implied}
use Rattle.row_laws.proofs.ReductionValues.{reduced_to_zero_vanishes}
use Rattle.finish_rules.specs.Remainders.{remainder_of}
use Rattle.case_rules.specs.Finish.{has_zero_remainder, first_remainder, imposing, step_by_remainder, step_by_inputs, step_by_nonzero}
use Rattle.case_rules.specs.Cases.{step_by_queue}
use Rattle.split_paths.specs.declared.splitter.Step.{Step}
use Rattle.split_paths.specs.declared.splitter.Step.TheVariants.{Gone, Emit, TooWide, Kids}
use Rattle.split_paths.specs.Lawful.{IsLawfulStep}
use Rattle.tree_laws.specs.Points.{IfEmitted}
use Rattle.tree_laws.specs.Steps.{with_each_kid}
use Rattle.tree_laws.proofs.Steps.{fitting_holds, emitted_emits}
use Rattle.zero_sets.specs.Certificates.{Certificate}
use Rattle.finish_rules.specs.Initials.{certified}
use Rattle.case_laws.specs.Laws.{IsInZeroSet, IsSoundLeaf, EmittedLeavesAreSound}
use Rattle.finish_laws.proofs.Parts.{canonical_lawful}
use Rattle.finish_laws.proofs.Reductions.{remainder_is}
use Rattle.case_laws.proofs.FirstRemainders.{each_zero}

-- nothing is emitted while there is something to impose
pub imposed_emits : {L : Type 0} (P : L → Type 0) (kids : Option (List Task)) → IfEmitted P (step_to_fitting kids)
imposed_emits P None = tt
imposed_emits P (Some []) = tt
imposed_emits P (Some (kid ∷ kids)) = tt

-- a lawful step emits a lawful leaf
pub lawful_emitted : {T L : Type 0} (lawful_task : T → Type 0) (lawful_leaf : L → Type 0) (made : Step T L) → IsLawfulStep lawful_task lawful_leaf made → IfEmitted lawful_leaf made
lawful_emitted lawful_task lawful_leaf Gone lawful = tt
lawful_emitted lawful_task lawful_leaf (Emit leaf) lawful = lawful
lawful_emitted lawful_task lawful_leaf TooWide lawful = tt
lawful_emitted lawful_task lawful_leaf (Kids kids) lawful = tt

-- where all inputs reduce to 0 by a triangular set, they vanish on its quasi-component
pub inputs_vanish : (p n w : ℕ) → IsPrime p → (inputs chain : List Polynomial) → ArePolynomials p n inputs → ArePolynomials p n chain → first_remainder p n w chain inputs ≡ Some None → IsInZeroSet p inputs chain
inputs_vanish p n w prime inputs chain are_inputs are none r xs at inside = each_zero p n w chain (λ f. value_at r xs f ≡ r.nil) inputs (each_implied (IsPolynomial p n) (λ f. remainder_of p n w chain f ≡ Some [] → value_at r xs f ≡ r.nil) (λ f i made. reduced_to_zero_vanishes p n r xs chain f prime at are i inside (sym (remainder_is p n w chain f [] made))) inputs (each_canonical p n inputs are_inputs)) none

-- the law of what is emitted
pub emitted_leaves_are_sound : EmittedLeavesAreSound
emitted_leaves_are_sound n k w system task lawful of_task = by_queue task.queue
  where
    are : ArePolynomials system.prime n task.chain
    are = canonical_lawful system.prime n k task.chain of_task.chain.lawful

    Emits : Step Task Leaf → Type 0
    Emits made = IfEmitted (IsSoundLeaf system) made

    remainders_emit : (cs : List Certificate) (found : Option Polynomial) → first_remainder system.prime n w task.chain system.inputs ≡ Some found → Emits (step_by_remainder task.chain task.nonzero cs found)
    remainders_emit cs None e = inputs_vanish system.prime n w lawful.prime system.inputs task.chain (canonical_lawful system.prime n k system.inputs lawful.inputs) are e
    remainders_emit cs (Some r) e = tt

    inputs_emit : (cs : List Certificate) → Emits (step_by_inputs system.prime n w task.chain task.nonzero system.inputs cs)
    inputs_emit cs = fitting_holds Emits (first_remainder system.prime n w task.chain system.inputs) (λ found. step_by_remainder task.chain task.nonzero cs found) tt (remainders_emit cs)

    anything_emitted : (made : Step Task (List Certificate)) → IfEmitted (λ cs. Unit {0}) made
    anything_emitted Gone = tt
    anything_emitted (Emit cs) = tt
    anything_emitted TooWide = tt
    anything_emitted (Kids kids) = tt

    nonzero_emit : (zero : Bool) → Emits (step_by_nonzero system.prime n w task.chain task.nonzero system.inputs zero)
    nonzero_emit true = tt
    nonzero_emit false = emitted_emits (λ (cs : List Certificate). Unit {0}) (IsSoundLeaf system) (with_each_kid (imposing task.chain task.nonzero) (certified system.prime n w task.chain task.nonzero task.chain)) (λ cs. step_by_inputs system.prime n w task.chain task.nonzero system.inputs cs) (anything_emitted (with_each_kid (imposing task.chain task.nonzero) (certified system.prime n w task.chain task.nonzero task.chain))) (λ cs any. inputs_emit cs)

    by_queue : (queue : List Polynomial) → Emits (step_by_queue n w system task queue)
    by_queue [] = fitting_holds Emits (has_zero_remainder system.prime n w task.chain task.nonzero) (λ zero. step_by_nonzero system.prime n w task.chain task.nonzero system.inputs zero) tt (λ zero e. nonzero_emit zero)
    by_queue (f ∷ rest) = imposed_emits (IsSoundLeaf system) (impose_children system.prime n w task.chain rest task.nonzero f)
