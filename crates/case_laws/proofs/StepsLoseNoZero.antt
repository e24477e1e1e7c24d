-- A step keeps each point of its task that is a common zero of the inputs.
use Rattle.std.proofs.Common.{◌≡◌, ℕ, Bool, true, false, List, [], ◌∷◌, Option, Some, None, IfSome, refl, sym, ap, ◌∙◌}
use Rattle.std.specs.List.{AllByRecursion, Any}
use Rattle.polynomials.specs.Primes.{IsPrime}
use Rattle.polynomials.specs.Polynomials.{Polynomial, ArePolynomials}
use Rattle.zero_sets.specs.Certificates.{Certificate}
use Rattle.zero_sets.specs.Domains.{Tables, IsPointOver, value_at}
use Rattle.zero_sets.specs.ZeroSets.{InZeroSet, AreNonZero, InQuasiComponent}
use Rattle.zero_sets.specs.Tasks.{Task, InTask}
use Rattle.split_paths.specs.declared.splitter.Step.{Step}
use Rattle.impose_rules.specs.Impose.{impose_children, step_to_fitting}
use Rattle.finish_rules.specs.Leaves.{Leaf, InLeaf}
use Rattle.impose_laws.proofs.Cover.{children_cover_the_task}
use Rattle.row_laws.proofs.ReductionValues.{reductions_keep_zeros, reduced_to_zero_vanishes}
use Rattle.finish_rules.specs.Remainders.{remainder_of}
use Rattle.case_rules.specs.Finish.{has_zero_remainder, first_remainder, imposing, step_by_remainder, step_by_inputs, step_by_nonzero}
use Rattle.case_rules.specs.Cases.{step_by_queue}
use Rattle.tree_laws.specs.Points.{IsKeptBy}
use Rattle.tree_laws.specs.Steps.{with_each_kid}
use Rattle.tree_laws.proofs.Some.{some_first, some_nowhere}
use Rattle.tree_laws.proofs.Steps.{fitting_holds, emitted_kept, changed_kept}
use Rattle.finish_rules.specs.Initials.{certified}
use Rattle.finish_laws.proofs.EachInitial.{certified_loses_no_zero}
use Rattle.case_laws.specs.Laws.{CaseStepsLoseNoZero}
use Rattle.finish_laws.proofs.Parts.{canonical_lawful}
use Rattle.case_laws.proofs.Parts.{task_over}
use Rattle.finish_laws.proofs.Reductions.{remainder_is}
use Rattle.case_laws.proofs.FirstRemainders.{IfRemainder, first_found, zero_found}

module _ (r : Tables) (xs : List ℕ) where
  -- a point of some task is kept by the step that gives way to these tasks
  pub imposed_keeps : {L : Type 0} (in_leaf : L → Type 0) (kids : Option (List Task)) → IfSome kids (Any (InTask r xs)) → IsKeptBy (InTask r xs) in_leaf (step_to_fitting kids)
  imposed_keeps in_leaf None inside = tt
  imposed_keeps in_leaf (Some []) inside = some_nowhere (InTask r xs) inside
  imposed_keeps in_leaf (Some (kid ∷ kids)) inside = inside

module _ (p n w : ℕ) (prime : IsPrime p) (r : Tables) (xs : List ℕ) (at : IsPointOver p r xs) (chain : List Polynomial) (are : ArePolynomials p n chain) (inside : InQuasiComponent r xs chain) where
  -- a remainder of an input is zero at the point
  pub remainders_zero : (fs : List Polynomial) → ArePolynomials p n fs → InZeroSet r xs fs → AllByRecursion (IfRemainder p n w chain (λ g. value_at r xs g ≡ r.nil)) fs
  remainders_zero [] are_fs zeros_fs = tt
  remainders_zero (f ∷ fs) are_fs zeros_fs = ((λ g made. ap (value_at r xs) (remainder_is p n w chain f g made) ∙ reductions_keep_zeros p n r xs chain f prime at are are_fs.0 inside.0 zeros_fs.0), remainders_zero fs are_fs.1 zeros_fs.1)

  -- none of what isn't zero at the point reduces to 0
  pub nonzero_remain : (fs : List Polynomial) → ArePolynomials p n fs → AreNonZero r xs fs → AllByRecursion (λ f. remainder_of p n w chain f ≡ Some [] → ⊥) fs
  nonzero_remain [] are_fs nonzero_fs = tt
  nonzero_remain (f ∷ fs) are_fs nonzero_fs = ((λ made. nonzero_fs.0 (reduced_to_zero_vanishes p n r xs chain f prime at are are_fs.0 inside (sym (remainder_is p n w chain f [] made)))), nonzero_remain fs are_fs.1 nonzero_fs.1)

-- the law of zeros
pub case_steps_lose_no_zero : CaseStepsLoseNoZero
case_steps_lose_no_zero n k w system task r xs lawful of_task at zeros inside = by_queue task.queue refl
  where
    are : ArePolynomials system.prime n task.chain
    are = canonical_lawful system.prime n k task.chain of_task.chain.lawful

    Kept : Step Task Leaf → Type 0
    Kept made = IsKeptBy (InTask r xs) (InLeaf r xs) made

    Certified : List Certificate → Type 0
    Certified cs = Unit {0}

    imposed : (f : Polynomial) → value_at r xs f ≡ r.nil → InTask r xs (imposing task.chain task.nonzero f)
    imposed f null = (inside.0, (null, tt), inside.2)

    remainders_keep : (cs : List Certificate) (found : Option Polynomial) → first_remainder system.prime n w task.chain system.inputs ≡ Some found → Kept (step_by_remainder task.chain task.nonzero cs found)
    remainders_keep cs None e = inside.0
    remainders_keep cs (Some g) e = some_first (InTask r xs) (imposing task.chain task.nonzero g) [] (imposed g (first_found system.prime n w task.chain (λ h. value_at r xs h ≡ r.nil) system.inputs (remainders_zero system.prime n w lawful.prime r xs at task.chain are inside.0 system.inputs (canonical_lawful system.prime n k system.inputs lawful.inputs) zeros) g e))

    inputs_keep : (cs : List Certificate) → Kept (step_by_inputs system.prime n w task.chain task.nonzero system.inputs cs)
    inputs_keep cs = fitting_holds Kept (first_remainder system.prime n w task.chain system.inputs) (λ found. step_by_remainder task.chain task.nonzero cs found) tt (remainders_keep cs)

    initials_keep : IsKeptBy (InTask r xs) Certified (with_each_kid (imposing task.chain task.nonzero) (certified system.prime n w task.chain task.nonzero task.chain))
    initials_keep = changed_kept (λ f. value_at r xs f ≡ r.nil) (InTask r xs) Certified (imposing task.chain task.nonzero) imposed (certified system.prime n w task.chain task.nonzero task.chain) (certified_loses_no_zero system.prime n w r xs task.chain task.nonzero lawful.prime are of_task.chain.triangular (record { over = at; inside = inside.0; nonzero = inside.2 }))

    nonzero_keep : (zero : Bool) → has_zero_remainder system.prime n w task.chain task.nonzero ≡ Some zero → Kept (step_by_nonzero system.prime n w task.chain task.nonzero system.inputs zero)
    nonzero_keep true e = zero_found system.prime n w task.chain ⊥ task.nonzero (nonzero_remain system.prime n w lawful.prime r xs at task.chain are inside.0 task.nonzero (canonical_lawful system.prime n k task.nonzero of_task.nonzero) inside.2) e
    nonzero_keep false e = emitted_kept (InTask r xs) Certified (InLeaf r xs) (with_each_kid (imposing task.chain task.nonzero) (certified system.prime n w task.chain task.nonzero task.chain)) (λ cs. step_by_inputs system.prime n w task.chain task.nonzero system.inputs cs) initials_keep (λ cs kept. inputs_keep cs)

    by_queue : (queue : List Polynomial) → task.queue ≡ queue → Kept (step_by_queue n w system task queue)
    by_queue [] starts = fitting_holds Kept (has_zero_remainder system.prime n w task.chain task.nonzero) (λ zero. step_by_nonzero system.prime n w task.chain task.nonzero system.inputs zero) tt nonzero_keep
    by_queue (f ∷ rest) starts = imposed_keeps r xs (InLeaf r xs) (impose_children system.prime n w task.chain rest task.nonzero f) (children_cover_the_task system.prime n w task f rest r xs lawful.prime (task_over system.prime n k task of_task) of_task.chain.triangular starts at inside)
