-- Every branch below a lawful task ends, and so does the tree of a lawful system.
use Rattle.std.proofs.Common.{◌+◌, List, [], ◌∷◌}
use Rattle.std.specs.List.{AllByRecursion}
use Rattle.split_paths.specs.declared.event.Event.{Event}
use Rattle.split_paths.specs.declared.event.Event.TheVariants.{Split, Leaf}
use Rattle.split_paths.specs.declared.event.Outcome.TheVariants as outcome
use Rattle.split_paths.specs.declared.splitter.Step.{Step}
use Rattle.split_paths.specs.declared.splitter.Step.TheVariants.{Gone, Emit, TooWide, Kids}
use Rattle.split_paths.specs.Answer.{answer_of}
use Rattle.split_paths.specs.Lawful.{IsLawfulStep}
use Rattle.split_paths.specs.Tree.{events_of}
use Rattle.rank_rules.specs.Ranks.{rank_of}
use Rattle.rank_rules.proofs.Lengths.{ranks_have_one_length}
use Rattle.case_rules.specs.Cases.{case_step, root_task, root_place}
use Rattle.case_laws.specs.Lawful.{IsLawfulLeaf, IsLawfulTask}
use Rattle.case_laws.proofs.Roots.{roots_start_well}
use Rattle.case_laws.proofs.StepsKeepLaw.{case_steps_keep_law}
use Rattle.rank_laws.specs.Ends.{HadAStep, HadEachStep, EveryBranchEnds, SystemsNeedSomeSteps}
use Rattle.rank_laws.specs.Kids.{EachKid}
use Rattle.rank_laws.proofs.FinishedRanks.{case_steps_lower_the_rank}
use Rattle.rank_laws.proofs.TreeEnds.{enough_by_rank}

-- children of lawful steps
lawful_kids : {T L : Type 0} (P : T → Type 0) (R : L → Type 0) (made : Step T L) → IsLawfulStep P R made → EachKid P made
lawful_kids P R Gone lawful = tt
lawful_kids P R (Emit leaf) lawful = tt
lawful_kids P R TooWide lawful = tt
lawful_kids P R (Kids kids) lawful = lawful.2

-- the law of branches
pub every_branch_ends : EveryBranchEnds
every_branch_ends n k w system task lawful of_task =
    let p = system.prime in
    enough_by_rank (case_step n w system) (IsLawfulTask p n k) (k + 2) (rank_of p n k w) (ranks_have_one_length p n k w) (λ other of_other. lawful_kids (IsLawfulTask p n k) (IsLawfulLeaf p n k) (case_step n w system other) (case_steps_keep_law n k w system lawful other of_other)) (λ other of_other. case_steps_lower_the_rank n k w system other lawful of_other) task of_task

-- where each leaf had a step, the answer isn't stopped by one that had none
answer_had : {L : Type 0} (events : List (Event L)) → AllByRecursion HadAStep events → HadEachStep (answer_of events)
answer_had [] each = tt
answer_had (Split at kids ∷ events) each = answer_had events each.1
answer_had (Leaf at outcome.Gone ∷ events) each = answer_had events each.1
answer_had (Leaf at (outcome.Chain leaf) ∷ events) each = answer_had events each.1
answer_had (Leaf at outcome.Steps ∷ events) each = each.0
answer_had (Leaf at outcome.TooWide ∷ events) each = tt

-- the law of systems
pub systems_need_some_steps : SystemsNeedSomeSteps
systems_need_some_steps n k w system lawful =
    let enough = every_branch_ends n k w system (root_task n system) lawful (roots_start_well n k system lawful).lawful in
    (enough.0, λ more from. answer_had (events_of (case_step n w system) (root_place n more system)) (enough.1 more from []))
