-- A run that wrote an ending, whole or in part, ends as is expected.
use Rattle.std.proofs.Common.{ℕ, List, [], Option, None, Some, inl, inr, refl, sym, subst, append-nil}
use Rattle.std.specs.Io.KnownBytes.{Appends}
use Rattle.run_rules.specs.Programs.{Ending, Program, IsExpected, IsNoCommand, IsReader}
use Rattle.run_rules.specs.Runs.{Ends, Writes}

module _ {O S : Type 0} (program : Program O S) (words : List (List ℕ)) (told : Option (List ℕ)) (source_rose sink_rose : Type 0) (old new : Option (List ℕ)) where
  pub written_ends : (ending : Ending S) (status : S) → IsExpected program words told ending → Writes program ending sink_rose old new status → Ends program words told source_rose sink_rose old new status
  written_ends ending status expected (inl w) = inl (ending.text, subst (λ s. IsExpected program words told (record { status = s; text = ending.text })) (sym w.0) expected, w.1)
  written_ends ending status expected (inr w) = inr (inr (inl (w.0, w.1, (ending, expected, w.2))))

-- of nothing no sink takes anything
nothing_taken : (old : Option (List ℕ)) → Appends old old []
nothing_taken None = tt
nothing_taken (Some taken) = sym (append-nil taken)

-- a run that wrote nothing, after a read that failed or without memory
pub silent_ends : {O S : Type 0} (program : Program O S) (words : List (List ℕ)) (told : Option (List ℕ)) (source_rose sink_rose : Type 0) (old : Option (List ℕ)) → Ends program words told source_rose sink_rose old old program.out_of_memory
silent_ends program words told source_rose sink_rose old = inr (inr (inr (refl, inl (nothing_taken old))))

pub read_fault_ends : {O S : Type 0} (program : Program O S) (words : List (List ℕ)) (told : Option (List ℕ)) (source_rose sink_rose : Type 0) (old : Option (List ℕ)) → IsReader program words → source_rose → Ends program words told source_rose sink_rose old old program.read_fault
read_fault_ends program words told source_rose sink_rose old reader rose = inr (inl (refl, reader, rose, nothing_taken old))

-- words that are a command aren't no command
pub reader_is_one : {O S P : Type 0} → (program : Program O S) (words : List (List ℕ)) → IsReader program words → IsNoCommand program words → P
reader_is_one program words reader none = absurd (none reader.0 reader.1)
