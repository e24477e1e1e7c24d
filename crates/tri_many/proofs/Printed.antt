-- What printers wrote of an answer, whole or in part.
use Rattle.std.proofs.Common.{◌≡◌, ◌<◌, ℕ, ◌+◌, List, [], ◌∷◌, ◌++◌, length, Option, Some, None, refl, sym, ap, ◌∙◌, subst, length-append, arith}
use Rattle.std.proofs.lemmas.List.{append_assoc}
use Rattle.std.specs.Io.KnownBytes.{Appends}
use Rattle.std.specs.List.{flat_map}
use Rattle.tri_io.specs.Faults.{Rose}
use Rattle.tri_io.specs.Transfers.{AppendsPart}
use Rattle.split_paths.specs.Answer.{Answer}
use Rattle.split_paths.specs.declared.event.Why.{Why}
use Rattle.finish_rules.specs.Leaves.{Leaf}
use Rattle.report_text.specs.Answers.{last_line, leaf_text}
use Rattle.work_pool.specs.Taken.{Took, IsCut, IsEnd}
use Rattle.work_pool.specs.declared.taker.End.{End}
use Rattle.work_pool.specs.declared.taker.PoolError.TheVariants as error
use Rattle.tri_many.specs.declared.output.Fault.{Fault}
use Rattle.tri_many.specs.declared.output.Fault.TheVariants.{Memory, Write}
use Rattle.tri_many.specs.Answers.{ending_text}
use Rattle.tri_many.specs.Early.{HasPrinted, IsCutShort}
use Rattle.tri_many.specs.Printing.{Prints, FailsToPrint}
use Rattle.tri_many.proofs.Fronts.{nothing, both, front_is_part, part_of_front, part_behind}
use Rattle.tri_many.proofs.Taken.{front_of, failure_of}

-- a last line isn't empty
pub last_line_is_some : (count : ℕ) (stop : Option (List ℕ × Why)) → 0 < length (last_line count stop)
last_line_is_some count None = omega arith
last_line_is_some count (Some stop) = omega arith

-- texts one after the other
texts_both : {A : Type 0} (text : A → List ℕ) (xs ys : List A) (last : List ℕ) → flat_map text (xs ++ ys) ++ last ≡ flat_map text xs ++ (flat_map text ys ++ last)
texts_both text [] ys last = refl
texts_both text (x ∷ xs) ys last =
    append_assoc (text x) (flat_map text (xs ++ ys)) last
    ∙ ap (λ later. text x ++ later) (texts_both text xs ys last)
    ∙ sym (append_assoc (text x) (flat_map text xs) (flat_map text ys ++ last))

-- of a text that ends with a last line something is left behind each front
pub more_behind : (texts : List ℕ) (count : ℕ) (stop : Option (List ℕ × Why)) → 0 < length (texts ++ last_line count stop)
more_behind texts count stop =
    let sum = length-append texts (last_line count stop) in
    let more = last_line_is_some count stop in
    omega (arith, sum, more)

module _ {P K : Type 0} (taken : K → Option (List ℕ)) (faults : K → ℕ)
    (takes : P → List ℕ → Leaf → P → Type 0) (fails : P → List ℕ → Leaf → Fault → P → Type 0)
    (names : P → List (List ℕ)) (count : P → ℕ) (sink : P → K)
    (prints : (before : P) (path : List ℕ) (leaf : Leaf) (after : P) → takes before path leaf after → Prints taken faults (names before) (path, leaf) (count before) (count after) (sink before) (sink after) × (names after ≡ names before))
    (fails_to : (before : P) (path : List ℕ) (leaf : Leaf) (fault : Fault) (after : P) → fails before path leaf fault after → FailsToPrint taken faults (names before) (path, leaf) fault (sink before) (sink after)) where
  -- all of the pairs were printed
  pub record HasTaken (before : P) (pairs : List (List ℕ × Leaf)) (after : P) : Type 0 where
    pub text : Appends (taken (sink before)) (taken (sink after)) (flat_map (leaf_text (names before)) pairs)
    pub kept : faults (sink after) ≡ faults (sink before)
    pub counted : count after ≡ count before + length pairs
    pub same : names after ≡ names before

  pub took_prints : (pairs : List (List ℕ × Leaf)) (before after : P) → Took takes before pairs after → HasTaken before pairs after
  took_prints [] before after took = record {
    text = subst (λ p. Appends (taken (sink before)) (taken (sink p)) []) took (nothing (taken (sink before)));
    kept = ap (λ p. faults (sink p)) (sym took);
    counted = let same = ap count took in omega (arith, same);
    same = ap names (sym took);
  }
  took_prints (pair ∷ pairs) before after (between, first, later) =
      let one = prints before pair.0 pair.1 between first in
      let more = took_prints pairs between after later in
      record {
        text =
            both (taken (sink before)) (taken (sink between)) (taken (sink after)) (leaf_text (names before) pair) (flat_map (leaf_text (names before)) pairs) one.0.text
            (subst (λ ns. Appends (taken (sink between)) (taken (sink after)) (flat_map (leaf_text ns) pairs)) one.1 more.text);
        kept = more.kept ∙ one.0.kept;
        counted = let a = more.counted in let b = one.0.count in omega (arith, a, b);
        same = more.same ∙ one.1;
      }

  -- an answer was printed whole
  pub printed_all : (answer : Answer Leaf) (before after : P) (end : End) → Took takes before answer.chains after → IsEnd answer.stop end → count before ≡ 0 → HasPrinted (names before) answer (taken (sink before)) (taken (sink after)) (count after, end)
  printed_all answer before after end took ended none =
      let h = took_prints answer.chains before after took in record {
        text = h.text;
        count = let sum = h.counted in omega (arith, sum, none);
        ended = ended;
      }

  -- a part of the answer's text was written, where the first of its chains were
  part_by_front : (answer : Answer Leaf) (before after : P) → (front rest : List (List ℕ × Leaf)) → answer.chains ≡ front ++ rest → Took takes before front after → AppendsPart (taken (sink before)) (taken (sink after)) (ending_text (names before) answer)
  part_by_front answer before after front rest same took =
      let text = leaf_text (names before) in
      let last = last_line (length answer.chains) answer.stop in
      subst (λ bytes. AppendsPart (taken (sink before)) (taken (sink after)) bytes)
      (sym (ap (λ pairs. flat_map text pairs ++ last) same ∙ texts_both text front rest last))
      (front_is_part (taken (sink before)) (taken (sink after)) (flat_map text front) (flat_map text rest ++ last) (more_behind (flat_map text rest) (length answer.chains) answer.stop) (took_prints front before after took).text)

  -- without memory
  pub cut_by_memory : (answer : Answer Leaf) (before after : P) → IsCut takes fails before answer.chains error.Memory after → IsCutShort (ending_text (names before) answer) (faults (sink before)) (faults (sink after)) (taken (sink before)) (taken (sink after)) Memory
  cut_by_memory answer before after cut =
      let h = front_of takes fails answer.chains before after cut in
      ((took_prints h.front before after h.took).kept, part_by_front answer before after h.front h.rest h.same h.took)

  -- at a chain that failed
  pub cut_by_fault : (answer : Answer Leaf) (before after : P) (fault : Fault) → IsCut takes fails before answer.chains (error.Each fault) after → IsCutShort (ending_text (names before) answer) (faults (sink before)) (faults (sink after)) (taken (sink before)) (taken (sink after)) fault
  cut_by_fault answer before after Memory cut =
      let h = failure_of takes fails answer.chains Memory before after cut in
      let done = took_prints h.front before h.between h.took in
      let same = fails_to h.between h.pair.0 h.pair.1 Memory after h.failed in (
        ap faults same ∙ done.kept,
        subst (λ k. AppendsPart (taken (sink before)) (taken k) (ending_text (names before) answer)) (sym same)
            (part_by_front answer before h.between h.front (h.pair ∷ h.rest) h.same h.took),
      )
  cut_by_fault answer before after Write cut =
      let h = failure_of takes fails answer.chains Write before after cut in
      let done = took_prints h.front before h.between h.took in
      let failed = fails_to h.between h.pair.0 h.pair.1 Write after h.failed in
      let text = leaf_text (names before) in
      let last = last_line (length answer.chains) answer.stop in
      let piece = subst (λ ns. AppendsPart (taken (sink h.between)) (taken (sink after)) (leaf_text ns h.pair)) done.same failed.1 in (
        subst (λ n. Rose n (faults (sink after))) done.kept failed.0,
        subst (λ bytes. AppendsPart (taken (sink before)) (taken (sink after)) bytes)
            (sym (ap (λ pairs. flat_map text pairs ++ last) h.same ∙ texts_both text h.front (h.pair ∷ h.rest) last ∙ ap (λ later. flat_map text h.front ++ later) (append_assoc (text h.pair) (flat_map text h.rest) last)))
            (part_behind (taken (sink before)) (taken (sink h.between)) (taken (sink after)) (flat_map text h.front) (text h.pair ++ (flat_map text h.rest ++ last)) done.text
            (part_of_front (taken (sink h.between)) (taken (sink after)) (text h.pair) (flat_map text h.rest ++ last) piece)),
      )
