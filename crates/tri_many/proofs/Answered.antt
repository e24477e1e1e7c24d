-- How a run ends by what was written of its answer.
use Rattle.std.proofs.Common.{◌≡◌, ◌≢◌, ℕ, Bool, cond, List, Option, Some, None, Result, Ok, Err, IfOk, IfErr, inl, inr, refl, sym, ap, ◌∙◌, subst}
use Rattle.std.specs.Prelude.{OnOk}
use Rattle.mono_words.specs.declared.mono.TheConstants.{VARS}
use Rattle.system_text.specs.Lines.{TextSystem}
use Rattle.tri_io.specs.Commands.{Options}
use Rattle.tri_io.specs.Faults.{Rose}
use Rattle.tri_io.specs.Transfers.{AppendsPart}
use Rattle.split_paths.specs.Answer.{Answer}
use Rattle.finish_rules.specs.Leaves.{Leaf}
use Rattle.case_laws.specs.Laws.{answer_to}
use Rattle.case_tree.specs.Systems.{CaseSystem, polynomial_system_of}
use Rattle.report_text.specs.declared.status.Status.{Status}
use Rattle.report_text.specs.declared.status.Status.TheVariants.{Chains, Stopped, WriteFault, OutOfMemory}
use Rattle.report_text.specs.Answers.{is_stopped}
use Rattle.run_rules.specs.Programs.{Ending}
use Rattle.solver_rules.specs.Solver.{answer_of_system, ending_of_system, written_text}
use Rattle.tri_many.specs.declared.output.Fault.{Fault}
use Rattle.tri_many.specs.declared.output.Fault.TheVariants.{Memory, Write}
use Rattle.tri_many.specs.Answers.{answer_in}
use Rattle.tri_many.specs.Early.{HasWritten, IsCutShort, WritesEarly, status_of}
use Rattle.tri_many.proofs.Reports.{nothing_of_report, nothing_of_summary}

-- the answer in cases of a command's width is that to their system
answer_same : (options : Options) (cases : CaseSystem) → cases.width ≡ options.width → answer_in cases options.steps ≡ answer_of_system VARS options cases.system
answer_same options cases width = ap (λ w. answer_to VARS w options.steps (polynomial_system_of cases.system)) width

-- nothing was written
nothing_of_written : (made : Option ℕ) (system : TextSystem) (answer : Answer Leaf) (old : Option (List ℕ)) → AppendsPart old old (written_text made system answer)
nothing_of_written None system answer old = nothing_of_report system.names system.nonzero answer old
nothing_of_written (Some k) system answer old = nothing_of_summary k answer old

pub starved_writes : (options : Options) (system : TextSystem) (rose : Type 0) (old : Option (List ℕ)) → WritesEarly (ending_of_system VARS options system) rose old old OutOfMemory
starved_writes options system rose old = inr (refl, nothing_of_written options.made system (answer_of_system VARS options system) old)

-- what is cut short, of the text that is to be written
pub cut_of_made : {A : Type 0} (cases : CaseSystem) (steps before after : ℕ) (old new : Option (List ℕ)) (answered : Result A Fault) (options : Options) (these made : Option ℕ) → these ≡ options.made → these ≡ made → IfErr answered (IsCutShort (written_text made cases.system (answer_in cases steps)) before after old new) → IfErr answered (IsCutShort (written_text options.made cases.system (answer_in cases steps)) before after old new)
cut_of_made cases steps before after old new answered options these made view is cut = subst (λ m. IfErr answered (IsCutShort (written_text m cases.system (answer_in cases steps)) before after old new)) (sym is ∙ view) cut

module _ (ending : Ending Status) (before after : ℕ) (old new : Option (List ℕ)) where
  by_answered : (answer : Answer Leaf) (answered : Result Bool Fault) (status : Status) → ending.status ≡ cond (is_stopped answer.stop) Stopped Chains → IfOk answered (HasWritten ending.text answer old new) → IfErr answered (IsCutShort ending.text before after old new) → status ≡ status_of answered → WritesEarly ending (Rose before after) old new status
  by_answered answer (Ok stopped) status is written cut same = inl (inl (same ∙ ap (λ b. cond b Stopped Chains) written.1 ∙ sym is, written.0))
  by_answered answer (Err Memory) status is written cut same = inr (same, cut.1)
  by_answered answer (Err Write) status is written cut same = inl (inr (same, cut.0, cut.1))

-- a run writes what it answers, or a part of it
pub answered_writes : (options : Options) (cases shared : CaseSystem) (before after : ℕ) (old new : Option (List ℕ)) (answered : Result Bool Fault) (status : Status) → shared ≡ cases → cases.width ≡ options.width
    → IfOk answered (HasWritten (written_text options.made shared.system (answer_in shared options.steps)) (answer_in shared options.steps) old new)
    → IfErr answered (IsCutShort (written_text options.made shared.system (answer_in shared options.steps)) before after old new)
    → status ≡ status_of answered → WritesEarly (ending_of_system VARS options cases.system) (Rose before after) old new status
answered_writes options cases shared before after old new answered status shares width written cut same =
    let is : answer_in shared options.steps ≡ answer_of_system VARS options cases.system = ap (λ c. answer_in c options.steps) shares ∙ answer_same options cases width in
    let text : written_text options.made shared.system (answer_in shared options.steps) ≡ (ending_of_system VARS options cases.system).text =
    ap (λ c. written_text options.made c.system (answer_in shared options.steps)) shares ∙ ap (written_text options.made cases.system) is in
    by_answered (ending_of_system VARS options cases.system) before after old new (answer_in shared options.steps) answered status (ap (λ (a : Answer Leaf). cond (is_stopped a.stop) Stopped Chains) (sym is))
    (subst (λ t. IfOk answered (HasWritten t (answer_in shared options.steps) old new)) text written)
    (subst (λ t. IfErr answered (IsCutShort t before after old new)) text cut) same

-- a fault that was counted is answered
pub answered_fault : (text : List ℕ) (before after : ℕ) (old new : Option (List ℕ)) (answered : Result Bool Fault) (status : Status) → OnOk answered (after ≡ before) → IfErr answered (IsCutShort text before after old new) → status ≡ status_of answered → after ≢ before → status ≡ WriteFault
answered_fault text before after old new (Ok stopped) status kept cut same differs = absurd (differs kept)
answered_fault text before after old new (Err Memory) status kept cut same differs = absurd (differs cut.0)
answered_fault text before after old new (Err Write) status kept cut same differs = same
