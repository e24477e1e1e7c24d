-- The place of a task in a tree.
use Rattle.std.specs.Prelude.{ℕ, List}

-- a task with its path, and how many steps may still be made along its branch
pub record Place (T : Type 0) : Type 0 where
  pub path : List ℕ
  pub steps : ℕ
  pub task : T
