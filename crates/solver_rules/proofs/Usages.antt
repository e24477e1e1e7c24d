-- A run whose words are no command, or none that reads.
use Rattle.std.proofs.Common.{◌≡◌, ℕ, Bool, List, [], ◌∷◌, Option, Result, Ok, Err, IfSome, inl, inr, refl, sym, ◌∙◌, lit≤}
use Rattle.std.specs.Prelude.{Contains, OnOk, OnErr}
use Rattle.mono_words.specs.declared.mono.TheConstants.{VARS}
use Rattle.report_text.specs.declared.status.Status.{Status}
use Rattle.report_text.specs.declared.status.Status.TheVariants.{Usage, ReadFault, WriteFault, OutOfMemory}
use Rattle.run_rules.specs.Programs.{Ending, IsNoCommand, IsReader}
use Rattle.run_rules.specs.Runs.{Leaves, Writes}
use Rattle.run_rules.proofs.Inputs.{nothing_read_leaves}
use Rattle.solver_rules.specs.Solver.{solver}

-- words that are no command are none that reads
pub no_reader : (with_workers : Bool) (words : List (List ℕ)) → IsNoCommand (solver with_workers VARS) words → IsReader (solver with_workers VARS) words → ⊥
no_reader with_workers words none reader = none reader.0 reader.1

-- nothing is read
all_left : (with_workers : Bool) (words : List (List ℕ)) (told : Option (List ℕ)) → (IsReader (solver with_workers VARS) words → ⊥) → (status : Status) → IfSome told (λ bytes. Leaves (solver with_workers VARS) words bytes told status)
all_left with_workers words told unread status = nothing_read_leaves (solver with_workers VARS) words told told status unread refl

module _ {A E : Type 0} (with_workers : Bool) (words : List (List ℕ)) where
  pub unread_leaves_all : (told : Option (List ℕ)) (made : Result A E) → (IsReader (solver with_workers VARS) words → ⊥) → OnOk made ((status : Status) → IfSome told (λ bytes. Leaves (solver with_workers VARS) words bytes told status))
  unread_leaves_all told (Ok a) unread = all_left with_workers words told unread
  unread_leaves_all told (Err e) unread = tt

  pub unread_leaves_all_fault : (told : Option (List ℕ)) (made : Result A E) → (IsReader (solver with_workers VARS) words → ⊥) → OnErr made ((status : Status) → Contains (ReadFault ∷ OutOfMemory ∷ []) status → IfSome told (λ bytes. Leaves (solver with_workers VARS) words bytes told status))
  unread_leaves_all_fault told (Ok a) unread = tt
  unread_leaves_all_fault told (Err e) unread = λ status h. all_left with_workers words told unread status

-- a run that ends with the usage line had that to write
pub written_usage : (with_workers : Bool) (words : List (List ℕ)) (K : Type 0) (old new : Option (List ℕ)) (ending : Ending Status) (status : Status) → (ending.status ≡ Usage → IsNoCommand (solver with_workers VARS) words) → Writes (solver with_workers VARS) ending K old new status → status ≡ Usage → IsNoCommand (solver with_workers VARS) words
written_usage with_workers words K old new ending status h (inl w) e = h (sym w.0 ∙ e)
written_usage with_workers words K old new ending status h (inr w) e = let bad = sym w.0 ∙ e in cc

-- a run that had it to write ends with it, or with a fault of its sink
pub written_words : (with_workers : Bool) (K : Type 0) (old new : Option (List ℕ)) (ending : Ending Status) (status : Status) → ending.status ≡ Usage → Writes (solver with_workers VARS) ending K old new status → Contains (Usage ∷ WriteFault ∷ OutOfMemory ∷ []) status
written_words with_workers K old new ending status h (inl w) = (0, lit≤ tt, sym (w.0 ∙ h))
written_words with_workers K old new ending status h (inr w) = (1, lit≤ tt, sym w.0)
