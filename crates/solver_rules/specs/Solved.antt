-- What it means that a run answered a system.
use Rattle.std.specs.Prelude.{◌≡◌, ℕ, Bool, true, List, [], ◌∷◌, length, Option, Some, None, Ok, Contains}
use Rattle.std.specs.Io.KnownBytes.{Appends}
use Rattle.system_text.specs.Lines.{TextSystem, read_text}
use Rattle.system_parser.specs.Made.{made_system}
use Rattle.tri_io.specs.Commands.{Options, IsCommand}
use Rattle.report_text.specs.declared.status.Status.{Status}
use Rattle.report_text.specs.declared.status.Status.TheVariants.{Chains, Stopped}
use Rattle.split_paths.specs.Answer.{Answer}
use Rattle.finish_rules.specs.Leaves.{Leaf}
use Rattle.case_laws.specs.Laws.{IsLawfulAnswer, IsSoundAnswer, IsCompleteAnswer}
use Rattle.case_tree.specs.Systems.{IsSolvable, polynomial_system_of}
use Rattle.run_rules.specs.Programs.{Ending, IsInput}
use Rattle.solver_rules.specs.Solver.{answer_of_system, ending_of_system, written_text}
use Rattle.solver_rules.specs.Limits.{AreEnough}

-- the status goes with the answer to a system
abbrev pub IsOfSystem : Status → Type 0
IsOfSystem status = Contains (Chains ∷ Stopped ∷ []) status

-- an input, which is what the source tells if it tells its bytes, is the text of this system
pub record HasRead (n : ℕ) (told : Option (List ℕ)) (system : TextSystem) : Type 0 where
  pub bytes : List ℕ
  pub input : IsInput true told bytes
  pub read : read_text n bytes ≡ Ok system

-- the system was read, or it is the one that is made from this number
abbrev pub WasReadOrMade : ℕ → Option ℕ → Option (List ℕ) → TextSystem → Type 0
WasReadOrMade n None told system = HasRead n told system
WasReadOrMade n (Some k) told system = system ≡ made_system n k

-- the words are a command, and this is its system
pub record HasSystem (with_workers : Bool) (n : ℕ) (words : List (List ℕ))
    (told : Option (List ℕ)) (options : Options) (system : TextSystem) : Type 0 where
  pub command : IsCommand with_workers words options
  pub origin : WasReadOrMade n options.made told system

-- this is the ending of a command's system, whose tree of cases can be walked
pub record IsAnswered (with_workers : Bool) (n : ℕ) (words : List (List ℕ))
    (told : Option (List ℕ)) (ending : Ending Status) : Type 0 where
  pub options : Options
  pub system : TextSystem
  pub of_command : HasSystem with_workers n words told options system
  pub solvable : IsSolvable system
  pub same : ending ≡ ending_of_system n options system

-- the answer solves the system: its chains are triangular sets of polynomials over the field in the
-- named variables, each with one certificate for each initial that isn't constant, and no other;
-- their points are common zeros of the inputs; and with the status of chains each common zero at
-- which no polynomial is zero that must not vanish is one of their points
pub record Solves (n : ℕ) (system : TextSystem) (answer : Answer Leaf) (status : Status)
    : Type 0 where
  pub lawful : IsLawfulAnswer n (length system.names) (polynomial_system_of system) answer
  pub sound : IsSoundAnswer (polynomial_system_of system) answer
  pub complete : status ≡ Chains → IsCompleteAnswer (polynomial_system_of system) answer

-- a system was read or made, its answer's text or summary was written, and the answer solves it;
-- where the limits are known to be enough no branch passed one
pub record IsSolved (with_workers : Bool) (n : ℕ) (words : List (List ℕ))
    (told old new : Option (List ℕ)) (status : Status) : Type 0 where
  pub options : Options
  pub system : TextSystem
  pub of_command : HasSystem with_workers n words told options system
  pub written : Appends old new
      (written_text options.made system (answer_of_system n options system))
  pub solves : Solves n system (answer_of_system n options system) status
  pub enough : AreEnough options system → status ≡ Chains
