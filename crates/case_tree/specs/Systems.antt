-- What the tree of cases is told of a system.
use Rattle.std.specs.Prelude.{ℕ, length}
use Rattle.mono_words.specs.declared.mono.TheConstants.{VARS}
use Rattle.zero_sets.specs.Systems.{PolynomialSystem}
use Rattle.zero_sets.specs.Tasks.{Task}
use Rattle.split_paths.specs.declared.splitter.Step.{Step}
use Rattle.finish_rules.specs.Leaves.{Leaf}
use Rattle.case_rules.specs.Cases.{case_step}
use Rattle.case_laws.specs.Lawful.{IsLawfulSystem, IsLawfulTask, IsLawfulLeaf}
use Rattle.system_text.specs.Lines.{TextSystem}

-- a system, and the width that products fit
pub record CaseSystem : Type 0 where
  pub system : TextSystem
  pub width : ℕ

-- a system without the names of its variables
abbrev pub polynomial_system_of : TextSystem → PolynomialSystem
polynomial_system_of system =
    record { prime = system.prime; inputs = system.inputs; nonzero = system.nonzero }

-- its prime is one, and its polynomials are lawful in its named variables
abbrev pub IsSolvable : TextSystem → Type 0
IsSolvable system = IsLawfulSystem VARS (length system.names) (polynomial_system_of system)

-- a task of a system that can be solved
abbrev pub IsTaskOf : CaseSystem → Task → Type 0
IsTaskOf cases task =
    IsSolvable cases.system
    × IsLawfulTask cases.system.prime VARS (length cases.system.names) task

-- a leaf of the system
abbrev pub IsLeafOf : CaseSystem → Leaf → Type 0
IsLeafOf cases leaf = IsLawfulLeaf cases.system.prime VARS (length cases.system.names) leaf

-- the step of a task
abbrev pub step_of : CaseSystem → Task → Step Task Leaf
step_of cases task = case_step VARS cases.width (polynomial_system_of cases.system) task
