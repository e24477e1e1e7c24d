-- A report: what must not vanish, the chains, the last line.
use Rattle.std.proofs.Common.{◌≡◌, ℕ, List, [], ◌++◌, length, Option, Result, Ok, Err, IfErr, refl, sym, ap, ◌∙◌, subst, arith}
use Rattle.std.proofs.lemmas.List.{append_assoc}
use Rattle.std.specs.List.{flat_map}
use Rattle.std.specs.Io.KnownBytes.{Appends}
use Rattle.std.specs.Result.{IsErrAnd}
use Rattle.polynomials.specs.Polynomials.{Polynomial}
use Rattle.system_text.specs.Lines.{TextSystem}
use Rattle.tri_io.specs.Faults.{Rose}
use Rattle.tri_io.specs.Transfers.{AppendsPart}
use Rattle.split_paths.specs.Answer.{Answer}
use Rattle.finish_rules.specs.Leaves.{Leaf}
use Rattle.report_text.specs.Answers.{answer_text, last_line, leaf_text, nonzero_text, summary_text}
use Rattle.work_pool.specs.declared.taker.End.{End}
use Rattle.tri_many.specs.declared.output.Fault.{Fault}
use Rattle.tri_many.specs.declared.output.Fault.TheVariants.{Memory, Write}
use Rattle.tri_many.specs.Answers.{ending_text}
use Rattle.tri_many.specs.Early.{HasPrinted, IsCutShort, end_line_of}
use Rattle.tri_many.proofs.Fronts.{nothing, both, front_is_part, part_of_front, part_behind}
use Rattle.tri_many.proofs.Endings.{line_of_end}
use Rattle.tri_many.proofs.Printed.{more_behind}

-- a run that is cut short behind a front
pub cut_behind : (old mid new : Option (List ℕ)) (before between after : ℕ) (front next : List ℕ) (fault : Fault) → Appends old mid front → between ≡ before → IsCutShort next between after mid new fault → IsCutShort (front ++ next) before after old new fault
cut_behind old mid new before between after front next Memory first same cut = (cut.0 ∙ same, part_behind old mid new front next first cut.1)
cut_behind old mid new before between after front next Write first same cut = (subst (λ n. Rose n after) same cut.0, part_behind old mid new front next first cut.1)

-- a run that is cut short, over a sink
pub record SinkIsCut {K : Type 0} (taken : K → Option (List ℕ)) (faults : K → ℕ) (text : List ℕ) (old new : K) (fault : Fault) : Type 0 where
  pub cut : IsCutShort text (faults old) (faults new) (taken old) (taken new) fault

pub sink_is_cut : {K : Type 0} (taken : K → Option (List ℕ)) (faults : K → ℕ) (text : List ℕ) (old new : K) (fault : Fault) → SinkIsCut taken faults text old new fault → IsCutShort text (faults old) (faults new) (taken old) (taken new) fault
sink_is_cut taken faults text old new fault h = h.cut

-- what holds of the error of a result
pub if_err : {A E : Type 0} (P : E → Type 0) (answered : Result A E) (error : E) → IsErrAnd answered (λ made. made ≡ error) → P error → IfErr answered P
if_err P (Ok a) error same h = tt
if_err P (Err made) error same h = subst P (sym same) h

-- the fault of a result
abbrev fault_or : {A : Type 0} → Fault → Result A Fault → Fault
fault_or fault (Ok a) = fault
fault_or fault (Err e) = e

same_fault : {A : Type 0} (a b : Fault) → ◌≡◌ {A = Result A Fault} (Err a) (Err b) → a ≡ b
same_fault a b same = ap (fault_or a) same

-- the text of what must not vanish
pub front_of_system : (front : List ℕ) (read system : TextSystem) → front ≡ nonzero_text read.names read.nonzero → read ≡ system → front ≡ nonzero_text system.names system.nonzero
front_of_system front read system is same = is ∙ ap (λ (s : TextSystem). nonzero_text s.names s.nonzero) same

-- without memory nothing was written
pub starved : {A : Type 0} (text : List ℕ) (faults : ℕ) (old : Option (List ℕ)) (fault : Fault) → ◌≡◌ {A = Result A Fault} (Err fault) (Err Memory) → AppendsPart old old text → IsCutShort text faults faults old old fault
starved text faults old fault same part = subst (IsCutShort text faults faults old old) (sym (same_fault fault Memory same)) (refl, part)

-- a summary isn't empty
pub nothing_of_summary : (k : ℕ) (answer : Answer Leaf) (old : Option (List ℕ)) → AppendsPart old old (summary_text k answer)
nothing_of_summary k answer old = front_is_part old old [] (summary_text k answer) (omega arith) (nothing old)

module _ (names : List (List ℕ)) (nonzero : List Polynomial) (answer : Answer Leaf) (old : Option (List ℕ)) where
  -- nothing was written
  pub nothing_of_report : AppendsPart old old (answer_text names nonzero answer)
  nothing_of_report =
      let texts = flat_map (leaf_text names) answer.chains in
      let count = length answer.chains in
      subst (λ bytes. AppendsPart old old bytes) (append_assoc (nonzero_text names nonzero) texts (last_line count answer.stop))
      (front_is_part old old [] (nonzero_text names nonzero ++ texts ++ last_line count answer.stop) (more_behind (nonzero_text names nonzero ++ texts) count answer.stop) (nothing old))

  -- the front was written in part
  pub front_of_report : (new : Option (List ℕ)) → AppendsPart old new (nonzero_text names nonzero) → AppendsPart old new (answer_text names nonzero answer)
  front_of_report new part = part_of_front old new (nonzero_text names nonzero) (ending_text names answer) part

  -- it was cut short there, where a write failed
  pub front_cut : (new : Option (List ℕ)) (before after : ℕ) (fault : Fault) (front : List ℕ) → ◌≡◌ {A = Result (Unit {0}) Fault} (Err fault) (Err Write) → Rose before after → front ≡ nonzero_text names nonzero → AppendsPart old new front → IsCutShort (answer_text names nonzero answer) before after old new fault
  front_cut new before after fault front same rose is part = subst (IsCutShort (answer_text names nonzero answer) before after old new) (sym (same_fault fault Write same)) (rose, front_of_report new (subst (AppendsPart old new) is part))

  module _ (mid : Option (List ℕ)) (front : Appends old mid (nonzero_text names nonzero)) (before between : ℕ) (same : between ≡ before) where
    -- it was cut short among its chains
    pub chains_of_report : (new : Option (List ℕ)) (after : ℕ) (fault : Fault) → IsCutShort (ending_text names answer) between after mid new fault → IsCutShort (answer_text names nonzero answer) before after old new fault
    chains_of_report new after fault cut = cut_behind old mid new before between after (nonzero_text names nonzero) (ending_text names answer) fault front same cut

    module _ (later : Option (List ℕ)) (count : ℕ) (end : End) (printed : HasPrinted names answer mid later (count, end)) where
      -- the last line is that of the answer
      line_is : end_line_of count end ≡ last_line (length answer.chains) answer.stop
      line_is = line_of_end count answer.stop end printed.ended ∙ ap (λ n. last_line n answer.stop) printed.count

      -- the report was written whole
      pub whole_report : (new : Option (List ℕ)) → Appends later new (end_line_of count end) → Appends old new (answer_text names nonzero answer)
      whole_report new line =
          let texts = flat_map (leaf_text names) answer.chains in
          both old mid new (nonzero_text names nonzero) (ending_text names answer) front
          (both mid later new texts (last_line (length answer.chains) answer.stop) printed.text (subst (λ bytes. Appends later new bytes) line_is line))

      -- it was cut short at its last line
      pub end_of_report : (latest after : ℕ) (new : Option (List ℕ)) (fault : Fault) → latest ≡ between → IsCutShort (end_line_of count end) latest after later new fault → IsCutShort (answer_text names nonzero answer) before after old new fault
      end_of_report latest after new fault kept cut =
          let texts = flat_map (leaf_text names) answer.chains in
          chains_of_report new after fault
          (cut_behind mid later new between latest after texts (last_line (length answer.chains) answer.stop) fault printed.text kept
          (subst (λ bytes. IsCutShort bytes latest after later new fault) line_is cut))
