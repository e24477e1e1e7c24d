-- Lawful tasks by their parts.
use Rattle.std.proofs.Common.{ℕ, ◌≤◌}
use Rattle.zero_sets.specs.Tasks.{Task}
use Rattle.impose_laws.specs.TaskForms.{IsTaskOver, IsTaskFreeOf}
pub use Rattle.finish_laws.proofs.Parts.{canonical_lawful}
use Rattle.finish_laws.proofs.Parts.{AreSmall, free_lawful}
use Rattle.case_laws.specs.Lawful.{IsLawfulTask}

-- no degree of any polynomial of a task is greater than 65,535
abbrev pub IsSmallTask : Task → Type 0
IsSmallTask task = AreSmall task.chain × AreSmall task.queue × AreSmall task.nonzero

module _ (p n k : ℕ) (task : Task) (lawful : IsLawfulTask p n k task) where
  -- a lawful task is one of canonical polynomials
  pub task_over : IsTaskOver p n task
  task_over = (canonical_lawful p n k task.chain lawful.chain.lawful, canonical_lawful p n k task.queue lawful.queue, canonical_lawful p n k task.nonzero lawful.nonzero)

  -- without the variables from k on
  pub task_free : (v : ℕ) → k ≤ v → IsTaskFreeOf v task
  task_free v past = (free_lawful p n k v past task.chain lawful.chain.lawful, free_lawful p n k v past task.queue lawful.queue, free_lawful p n k v past task.nonzero lawful.nonzero)
