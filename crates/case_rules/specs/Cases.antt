-- The step of any task of a system, and the task that its tree starts with.
use Rattle.std.specs.Prelude.{ℕ, Bool, true, false, List, [], ◌∷◌}
use Rattle.std.specs.List.{list_any}
use Rattle.polynomials.specs.Polynomials.{Polynomial, is_zero, one_of}
use Rattle.zero_sets.specs.Systems.{PolynomialSystem}
use Rattle.zero_sets.specs.Tasks.{Task}
use Rattle.split_paths.specs.declared.splitter.Step.{Step}
use Rattle.split_paths.specs.Places.{Place}
use Rattle.impose_rules.specs.Impose.{impose_step}
use Rattle.impose_rules.specs.Leads.{with_all_nonzero}
use Rattle.finish_rules.specs.Leaves.{Leaf}
use Rattle.case_rules.specs.Finish.{finish_step}

-- by its queue: its first polynomial is imposed, or the task is finished
abbrev pub step_by_queue : ℕ → ℕ → PolynomialSystem → Task → List Polynomial → Step Task Leaf
step_by_queue n w system task [] = finish_step n w system task
step_by_queue n w system task (f ∷ rest) =
    impose_step system.prime n w task.chain f rest task.nonzero

-- the step of a task of the system, in n variables, with products within the width w
abbrev pub case_step : ℕ → ℕ → PolynomialSystem → Task → Step Task Leaf
case_step n w system task = step_by_queue n w system task task.queue

-- the task of the whole system, where one of the polynomials that must not vanish is 0 or none is:
-- no triangular set yet, and all inputs to impose; that 0 must not vanish is the demand that 1 does
abbrev pub root_by_zero : ℕ → PolynomialSystem → Bool → Task
root_by_zero n system true =
    record { chain = []; queue = one_of n ∷ system.inputs; nonzero = [] }
root_by_zero n system false = record {
  chain = [];
  queue = system.inputs;
  nonzero = with_all_nonzero system.prime [] system.nonzero;
}

-- the task of the whole system
abbrev pub root_task : ℕ → PolynomialSystem → Task
root_task n system = root_by_zero n system (list_any is_zero system.nonzero)

-- the root of the tree of a system, with so many steps for each branch
abbrev pub root_place : ℕ → ℕ → PolynomialSystem → Place Task
root_place n steps system = record { path = []; steps = steps; task = root_task n system }
