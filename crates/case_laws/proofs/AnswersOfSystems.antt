-- The answer to a system has its common zeros alone, and all of them where it isn't stopped.
use Rattle.zero_sets.specs.Tasks.{InTask}
use Rattle.finish_rules.specs.Leaves.{InLeaf}
use Rattle.case_rules.specs.Cases.{case_step, root_place}
use Rattle.tree_laws.proofs.Cover.{answers_cover_the_root}
use Rattle.tree_laws.proofs.Emitted.{answers_are_emitted}
use Rattle.case_laws.specs.Lawful.{IsLawfulLeaf, IsLawfulTask}
use Rattle.case_laws.specs.Laws.{IsSoundLeaf, AnswersAreLawful, AnswersAreSound, AnswersHaveCommonZeros}
use Rattle.case_laws.proofs.EmittedLeaves.{lawful_emitted, emitted_leaves_are_sound}
use Rattle.case_laws.proofs.Roots.{roots_start_well}
use Rattle.case_laws.proofs.StepsKeepLaw.{case_steps_keep_law}
use Rattle.case_laws.proofs.StepsLoseNoZero.{case_steps_lose_no_zero}

-- the law of lawful answers
pub answers_are_lawful : AnswersAreLawful
answers_are_lawful n k w steps system lawful =
    let p = system.prime in
    let keeps = case_steps_keep_law n k w system lawful in
    answers_are_emitted (case_step n w system) (IsLawfulTask p n k) (IsLawfulLeaf p n k) (IsLawfulLeaf p n k) keeps (λ task of_task. lawful_emitted (IsLawfulTask p n k) (IsLawfulLeaf p n k) (case_step n w system task) (keeps task of_task)) (root_place n steps system) (roots_start_well n k system lawful).lawful

-- the law of soundness
pub answers_are_sound : AnswersAreSound
answers_are_sound n k w steps system lawful =
    let p = system.prime in
    answers_are_emitted (case_step n w system) (IsLawfulTask p n k) (IsLawfulLeaf p n k) (IsSoundLeaf system) (case_steps_keep_law n k w system lawful) (λ task of_task. emitted_leaves_are_sound n k w system task lawful of_task) (root_place n steps system) (roots_start_well n k system lawful).lawful

-- the law of common zeros
pub answers_have_common_zeros : AnswersHaveCommonZeros
answers_have_common_zeros n k w steps system lawful on r xs at nonzero = (
  λ zeros.
      let p = system.prime in
      let start = roots_start_well n k system lawful in
      answers_cover_the_root (case_step n w system) (IsLawfulTask p n k) (IsLawfulLeaf p n k) (InTask r xs) (InLeaf r xs) (case_steps_keep_law n k w system lawful) (λ task of_task inside. case_steps_lose_no_zero n k w system task r xs lawful of_task at zeros inside) (root_place n steps system) start.lawful (start.zeros r xs at (zeros, nonzero)) on,
  λ found. answers_are_sound n k w steps system lawful found.1 (found.0, found.2, found.3) r xs at found.4,
)
