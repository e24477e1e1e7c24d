-- The step of a lawful task is lawful.
use Rattle.std.proofs.Common.{◌≡◌, ℕ, ◌≤◌, max, Bool, true, false, List, [], ◌∷◌, length, Option, Some, None, IfSome, refl, subst, arith}
use Rattle.std.specs.List.{AllByRecursion}
use Rattle.polynomials.specs.Primes.{IsPrime}
use Rattle.polynomials.specs.Polynomials.{Polynomial}
use Rattle.zero_sets.specs.Systems.{PolynomialSystem}
use Rattle.zero_sets.specs.Tasks.{Task}
use Rattle.split_paths.specs.declared.splitter.Step.{Step}
use Rattle.split_paths.specs.declared.splitter.Step.TheVariants.{Gone, Emit, TooWide, Kids}
use Rattle.split_paths.specs.Lawful.{IsLawfulStep}
use Rattle.impose_rules.specs.Impose.{impose_children, impose_step, step_to_fitting}
use Rattle.finish_rules.specs.Leaves.{Leaf}
use Rattle.impose_rules.proofs.Lists.{each_implied}
use Rattle.impose_laws.specs.TaskForms.{KeepsForm}
use Rattle.impose_laws.proofs.FewChildren.{children_are_few}
use Rattle.impose_laws.proofs.KeptForms.{children_keep_the_form}
use Rattle.case_rules.specs.Finish.{has_zero_remainder, first_remainder, imposing, step_by_remainder, step_by_inputs, step_by_nonzero}
use Rattle.case_rules.specs.Cases.{step_by_queue, case_step}
use Rattle.zero_sets.specs.Certificates.{Certificate, AreCertificates}
use Rattle.tree_laws.specs.Steps.{with_each_kid}
use Rattle.tree_laws.proofs.Steps.{fitting_holds, emitted_lawful, emitted_both, changed_lawful}
use Rattle.finish_rules.specs.Initials.{certified}
use Rattle.finish_laws.specs.Lawful.{AreLawfulCertificates}
use Rattle.finish_laws.proofs.LawfulRemainders.{remainder_lawful}
use Rattle.finish_laws.proofs.LawfulSteps.{certified_keeps_law}
use Rattle.finish_laws.proofs.EachInitial.{certified_certifies}
use Rattle.case_laws.specs.Lawful.{IsLawfulPolynomial, IsLawfulSystem, IsLawfulLeaf, IsLawfulTask}
use Rattle.case_laws.specs.Laws.{CaseStepsKeepLaw}
use Rattle.case_laws.proofs.FirstRemainders.{IfRemainder, first_found}
use Rattle.finish_laws.proofs.Parts.{canonical_lawful, AreSmall, small_lawful, lawful_parts}
use Rattle.case_laws.proofs.Parts.{task_over, task_free}
use Rattle.case_laws.proofs.SmallTasks.{AreSmallTasks, children_small}

module _ (p n k w : ℕ) (prime : IsPrime p) (task : Task) (lawful : IsLawfulTask p n k task) where
  -- children that keep the form of the task and are small are lawful
  kept_lawful : (children : List Task) → AllByRecursion (KeepsForm p n task) children → AreSmallTasks children → AllByRecursion (IsLawfulTask p n k) children
  kept_lawful [] kept small = tt
  kept_lawful (child ∷ children) kept small = (
    record {
      chain = record { lawful = lawful_parts p n k child.chain kept.0.over.0 (λ v past. (kept.0.free v (task_free p n k task lawful v past)).0) small.0.0; triangular = kept.0.triangular };
      queue = lawful_parts p n k child.queue kept.0.over.1 (λ v past. (kept.0.free v (task_free p n k task lawful v past)).1) small.0.1;
      nonzero = lawful_parts p n k child.nonzero kept.0.over.2 (λ v past. (kept.0.free v (task_free p n k task lawful v past)).2) small.0.2;
    },
    kept_lawful children kept.1 small.1,
  )

  -- and they are fewer than 2 ^ 32
  few_lawful : {L : Type 0} (lawful_leaf : L → Type 0) (children : Option (List Task)) → IfSome children (AllByRecursion (KeepsForm p n task)) → IfSome children AreSmallTasks → IfSome children (λ kids. length kids ≤ max 2 65535) → IsLawfulStep (IsLawfulTask p n k) lawful_leaf (step_to_fitting children)
  few_lawful lawful_leaf None kept small few = tt
  few_lawful lawful_leaf (Some []) kept small few = tt
  few_lawful lawful_leaf (Some (kid ∷ kids)) kept small few = (omega arith, omega arith, kept_lawful (kid ∷ kids) kept small)

  -- the step that imposes the first of the queue is lawful, whatever leaves the others emit
  pub imposed_lawful : {L : Type 0} (lawful_leaf : L → Type 0) (f : Polynomial) (rest : List Polynomial) → task.queue ≡ f ∷ rest → IsLawfulStep (IsLawfulTask p n k) lawful_leaf (impose_step p n w task.chain f rest task.nonzero)
  imposed_lawful lawful_leaf f rest starts =
      let small = subst AreSmall starts (small_lawful p n k task.queue lawful.queue) in
      let over = task_over p n k task lawful in
      few_lawful lawful_leaf (impose_children p n w task.chain rest task.nonzero f) (children_keep_the_form p n w task f rest prime over lawful.chain.triangular starts) (children_small p n w task.chain rest task.nonzero (small_lawful p n k task.chain lawful.chain.lawful) small.1 (small_lawful p n k task.nonzero lawful.nonzero) f small.0) (children_are_few p n w 65535 task f rest prime over lawful.chain.triangular starts (small_lawful p n k task.chain lawful.chain.lawful))

-- the law of steps
pub case_steps_keep_law : CaseStepsKeepLaw
case_steps_keep_law n k w system lawful task of_task = by_queue task.queue refl
  where
    IsLawful : Step Task Leaf → Type 0
    IsLawful made = IsLawfulStep (IsLawfulTask system.prime n k) (IsLawfulLeaf system.prime n k) made

    imposing_lawful : (f : Polynomial) → IsLawfulPolynomial system.prime n k f → IsLawfulTask system.prime n k (imposing task.chain task.nonzero f)
    imposing_lawful f of_f = record { chain = of_task.chain; queue = (of_f, tt); nonzero = of_task.nonzero }

    -- what is emitted before the inputs are reduced
    Certify : List Certificate → Type 0
    Certify cs = AreCertificates system.prime n task.chain cs × AreLawfulCertificates system.prime n k cs

    remainders_lawful : (cs : List Certificate) → Certify cs → (found : Option Polynomial) → first_remainder system.prime n w task.chain system.inputs ≡ Some found → IsLawful (step_by_remainder task.chain task.nonzero cs found)
    remainders_lawful cs of_cs None e = record { chain = of_task.chain; certify = of_cs.0; certificates = of_cs.1 }
    remainders_lawful cs of_cs (Some r) e = (omega arith, omega arith, (imposing_lawful r (first_found system.prime n w task.chain (IsLawfulPolynomial system.prime n k) system.inputs (each_implied (IsLawfulPolynomial system.prime n k) (IfRemainder system.prime n w task.chain (IsLawfulPolynomial system.prime n k)) (λ f of_f b made. remainder_lawful system.prime n k w lawful.prime task.chain of_task.chain f b of_f made) system.inputs lawful.inputs) r e), tt))

    inputs_lawful : (cs : List Certificate) → Certify cs → IsLawful (step_by_inputs system.prime n w task.chain task.nonzero system.inputs cs)
    inputs_lawful cs of_cs = fitting_holds IsLawful (first_remainder system.prime n w task.chain system.inputs) (λ found. step_by_remainder task.chain task.nonzero cs found) tt (remainders_lawful cs of_cs)

    certified_lawful : IsLawfulStep (IsLawfulPolynomial system.prime n k) Certify (certified system.prime n w task.chain task.nonzero task.chain)
    certified_lawful = emitted_both (IsLawfulPolynomial system.prime n k) (AreLawfulCertificates system.prime n k) (AreCertificates system.prime n task.chain) Certify (λ cs of_cs certify. (certify, of_cs)) (certified system.prime n w task.chain task.nonzero task.chain) (certified_keeps_law system.prime n k w task.chain task.nonzero lawful.prime of_task.chain) (certified_certifies system.prime n w task.chain task.nonzero lawful.prime (canonical_lawful system.prime n k task.chain of_task.chain.lawful) of_task.chain.triangular)

    initials_lawful : IsLawfulStep (IsLawfulTask system.prime n k) Certify (with_each_kid (imposing task.chain task.nonzero) (certified system.prime n w task.chain task.nonzero task.chain))
    initials_lawful = changed_lawful (IsLawfulPolynomial system.prime n k) (IsLawfulTask system.prime n k) Certify (imposing task.chain task.nonzero) imposing_lawful (certified system.prime n w task.chain task.nonzero task.chain) certified_lawful

    nonzero_lawful : (zero : Bool) → IsLawful (step_by_nonzero system.prime n w task.chain task.nonzero system.inputs zero)
    nonzero_lawful true = tt
    nonzero_lawful false = emitted_lawful (IsLawfulTask system.prime n k) Certify (IsLawfulLeaf system.prime n k) (with_each_kid (imposing task.chain task.nonzero) (certified system.prime n w task.chain task.nonzero task.chain)) (λ cs. step_by_inputs system.prime n w task.chain task.nonzero system.inputs cs) initials_lawful inputs_lawful

    by_queue : (queue : List Polynomial) → task.queue ≡ queue → IsLawful (step_by_queue n w system task queue)
    by_queue [] starts = fitting_holds IsLawful (has_zero_remainder system.prime n w task.chain task.nonzero) (λ zero. step_by_nonzero system.prime n w task.chain task.nonzero system.inputs zero) tt (λ zero e. nonzero_lawful zero)
    by_queue (f ∷ rest) starts = imposed_lawful system.prime n k w lawful.prime task of_task (IsLawfulLeaf system.prime n k) f rest starts

-- the same tasks, where each is said to be one of a lawful system
with_system : (n k : ℕ) (system : PolynomialSystem) → IsLawfulSystem n k system → (kids : List Task) → AllByRecursion (IsLawfulTask system.prime n k) kids → AllByRecursion (λ kid. IsLawfulSystem n k system × IsLawfulTask system.prime n k kid) kids
with_system n k system lawful [] each = tt
with_system n k system lawful (kid ∷ kids) each = ((lawful, each.0), with_system n k system lawful kids each.1)

step_of_system : (n k : ℕ) (system : PolynomialSystem) → IsLawfulSystem n k system → (made : Step Task Leaf) → IsLawfulStep (IsLawfulTask system.prime n k) (IsLawfulLeaf system.prime n k) made → IsLawfulStep (λ task. IsLawfulSystem n k system × IsLawfulTask system.prime n k task) (IsLawfulLeaf system.prime n k) made
step_of_system n k system lawful Gone h = tt
step_of_system n k system lawful (Emit leaf) h = h
step_of_system n k system lawful TooWide h = tt
step_of_system n k system lawful (Kids kids) h = (h.0, h.1, with_system n k system lawful kids h.2)

-- so their steps are lawful
pub system_steps_keep_law : (n k w : ℕ) (system : PolynomialSystem) (task : Task) → IsLawfulSystem n k system × IsLawfulTask system.prime n k task → IsLawfulStep (λ t. IsLawfulSystem n k system × IsLawfulTask system.prime n k t) (IsLawfulLeaf system.prime n k) (case_step n w system task)
system_steps_keep_law n k w system task h = step_of_system n k system h.0 (case_step n w system task) (case_steps_keep_law n k w system h.0 task h.1)
