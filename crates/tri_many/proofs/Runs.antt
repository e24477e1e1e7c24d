-- What a run did that wrote its answer as it came.
use Rattle.std.proofs.Common.{◌≡◌, ◌≢◌, ℕ, true, List, [], ◌∷◌, Option, inl, inr, refl, sym, ◌∙◌}
use Rattle.std.specs.Prelude.{Contains}
use Rattle.mono_words.specs.declared.mono.TheConstants.{VARS}
use Rattle.tri_io.specs.Commands.{Options}
use Rattle.report_text.specs.declared.status.Status.{Status}
use Rattle.report_text.specs.declared.status.Status.TheVariants.{Chains, Stopped, Usage, Refused, ReadFault, WriteFault}
use Rattle.run_rules.specs.Programs.{Ending}
use Rattle.run_rules.specs.Runs.{Ends, Writes}
use Rattle.run_rules.proofs.Written.{written_ends}
use Rattle.case_tree.specs.Systems.{CaseSystem}
use Rattle.solver_rules.specs.Asked.{AreCases}
use Rattle.solver_rules.specs.Solver.{ending_of_system}
use Rattle.solver_rules.specs.Solved.{IsOfSystem, IsSolved}
use Rattle.solver_rules.proofs.Answered.{system_not_usage, system_not_fault, system_not_read_fault}
use Rattle.solver_rules.proofs.Asked.{cases_answered}
use Rattle.solver_rules.proofs.Solved.{written_solved}
use Rattle.solver_rules.proofs.Statuses.{line_not_fault, of_two}
use Rattle.tri_many.specs.Early.{WritesEarly}
use Rattle.tri_many.specs.Many.{many}

module _ (words : List (List ℕ)) (told : Option (List ℕ)) (options : Options) (cases : CaseSystem) (are : AreCases true words told options cases) (sink_rose : Type 0) (old new : Option (List ℕ)) (status : Status) (writes : WritesEarly (ending_of_system VARS options cases.system) sink_rose old new status) where
  -- it ended as is expected
  pub early_ends : (source_rose : Type 0) → Ends many words told source_rose sink_rose old new status
  early_ends source_rose = elim writes [
    | inl whole ↦ written_ends many words told source_rose sink_rose old new (ending_of_system VARS options cases.system) status are.expected whole
    | inr starved ↦ inr (inr (inr (starved.0, inr (ending_of_system VARS options cases.system, are.expected, starved.1))))
  ]

  -- not with the usage line
  pub early_not_usage : status ≢ Usage
  early_not_usage = elim writes [
    | inl whole ↦ elim whole [ inl w ↦ λ e. system_not_usage _ (sym w.0 ∙ e) | inr w ↦ λ e. let bad = sym w.0 ∙ e in cc ]
    | inr starved ↦ λ e. let bad = sym starved.0 ∙ e in cc
  ]

  -- with a fault of a write only where the sink's count rose
  pub early_fault : status ≡ WriteFault → sink_rose
  early_fault e = elim writes [
    | inl whole ↦ elim whole [ inl w ↦ absurd (system_not_fault _ (sym w.0 ∙ e)) | inr w ↦ w.1 ]
    | inr starved ↦ let bad = sym starved.0 ∙ e in cc
  ]

  -- and not with one of a read
  pub early_not_read_fault : status ≢ ReadFault
  early_not_read_fault = elim writes [
    | inl whole ↦ elim whole [ inl w ↦ λ e. system_not_read_fault _ (sym w.0 ∙ e) | inr w ↦ λ e. let bad = sym w.0 ∙ e in cc ]
    | inr starved ↦ λ e. let bad = sym starved.0 ∙ e in cc
  ]

  -- and it has solved the system
  pub early_solved : IsOfSystem status → IsSolved true VARS words told old new status
  early_solved of = elim writes [
    | inl whole ↦ written_solved true words told sink_rose old new (ending_of_system VARS options cases.system) status (λ h. cases_answered true words told options cases are (ending_of_system VARS options cases.system) refl) whole of
    | inr starved ↦ elim (of_two Chains Stopped status of) [ inl f ↦ let bad = sym f ∙ starved.0 in cc | inr f ↦ let bad = sym f ∙ starved.0 in cc ]
  ]

-- a line that is written ends with a fault of a write only where the sink's count rose
pub line_fault : (sink_rose : Type 0) (old new : Option (List ℕ)) (ending : Ending Status) (status : Status) → Contains (Usage ∷ Refused ∷ []) ending.status → Writes many ending sink_rose old new status → status ≡ WriteFault → sink_rose
line_fault sink_rose old new ending status line (inl w) e = line_not_fault ending.status line (sym w.0 ∙ e)
line_fault sink_rose old new ending status line (inr w) e = w.1

-- and it never ends with a fault of a read
pub line_not_read_fault : {P : Type 0} (sink_rose : Type 0) (old new : Option (List ℕ)) (ending : Ending Status) (status : Status) → Contains (Usage ∷ Refused ∷ []) ending.status → Writes many ending sink_rose old new status → status ≡ ReadFault → P
line_not_read_fault sink_rose old new ending status line (inl w) e = elim (of_two Usage Refused ending.status line) [ inl f ↦ let bad = sym f ∙ (sym w.0 ∙ e) in cc | inr f ↦ let bad = sym f ∙ (sym w.0 ∙ e) in cc ]
line_not_read_fault sink_rose old new ending status line (inr w) e = let bad = sym w.0 ∙ e in cc
