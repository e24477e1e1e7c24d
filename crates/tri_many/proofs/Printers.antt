-- What a printer wrote of an answer, and its sink is still the same.
use Rattle.std.proofs.Common.{◌≡◌, ℕ, List, length, map, Option, string_bytes, sym, ap, ◌∙◌, subst}
use Rattle.std.proofs.lemmas.List.{length-map}
use Rattle.std.specs.List.{AllByRecursion}
use Rattle.split_paths.specs.Answer.{Answer}
use Rattle.finish_rules.specs.Leaves.{Leaf}
use Rattle.solver_reports.specs.Growth.{IsPrintableLeaf}
use Rattle.work_pool.specs.Taken.{Took, IsCut, IsEnd}
use Rattle.work_pool.specs.declared.taker.End.{End}
use Rattle.work_pool.specs.declared.taker.PoolError.{PoolError}
use Rattle.work_pool.specs.declared.taker.PoolError.TheVariants as error
use Rattle.tri_many.specs.declared.output.Fault.{Fault}
use Rattle.tri_many.specs.declared.output.Fault.TheVariants.{Memory}
use Rattle.tri_many.specs.declared.printer.Printer.{Printer}
use Rattle.tri_many.specs.Answers.{ending_text}
use Rattle.tri_many.specs.Early.{HasPrinted, IsCutShort}
use Rattle.tri_many.specs.Printing.{Prints, FailsToPrint}
use Rattle.tri_many.proofs.Taken.{took_keeps, cut_keeps}
use Rattle.tri_many.proofs.Printed.{took_prints, printed_all, cut_by_memory, cut_by_fault}

-- leaves that can be printed in these names
pub printable_in : {N : Type 0} (bytes : N → List ℕ) (names : List N) (named : List (List ℕ)) (pairs : List (List ℕ × Leaf)) → map bytes names ≡ named → AllByRecursion (λ (pair : List ℕ × Leaf). IsPrintableLeaf (length named) pair.1) pairs → AllByRecursion (λ (pair : List ℕ × Leaf). IsPrintableLeaf (length names) pair.1) pairs
printable_in bytes names named pairs same all = subst (λ k. AllByRecursion (λ (pair : List ℕ × Leaf). IsPrintableLeaf k pair.1) pairs) (sym (ap length same) ∙ length-map _ _) all

module _ {K : Type 0} (taken : K → Option (List ℕ)) (faults : K → ℕ) where
  abbrev names_of : Printer K → List (List ℕ)
  names_of printer = map string_bytes printer.names.now

  abbrev pub PrinterTakes : Printer K → List ℕ → Leaf → Printer K → Type 0
  PrinterTakes before path leaf after =
      Prints taken faults (names_of before) (path, leaf) before.count after.count before.sink.now after.sink.now
      × (after.names ≡ before.names) × (after.sink.ghost_name ≡ before.sink.ghost_name)

  abbrev pub PrinterFails : Printer K → List ℕ → Leaf → Fault → Printer K → Type 0
  PrinterFails before path leaf fault after =
      FailsToPrint taken faults (names_of before) (path, leaf) fault before.sink.now after.sink.now
      × (after.sink.ghost_name ≡ before.sink.ghost_name)

  prints : (before : Printer K) (path : List ℕ) (leaf : Leaf) (after : Printer K) → PrinterTakes before path leaf after → Prints taken faults (names_of before) (path, leaf) before.count after.count before.sink.now after.sink.now × (names_of after ≡ names_of before)
  prints before path leaf after h = (h.0, ap (λ names. map string_bytes names.now) h.1)

  fails_to : (before : Printer K) (path : List ℕ) (leaf : Leaf) (fault : Fault) (after : Printer K) → PrinterFails before path leaf fault after → FailsToPrint taken faults (names_of before) (path, leaf) fault before.sink.now after.sink.now
  fails_to before path leaf fault after h = h.0

  module _ (below answer : Answer Leaf) (same : below ≡ answer) (names : List (List ℕ)) (before after : Printer K) (named : names_of before ≡ names) where
    -- all of the answer below the root
    pub printer_printed : (end : End) → Took PrinterTakes before below.chains after → IsEnd below.stop end → before.count ≡ 0 → HasPrinted names answer (taken before.sink.now) (taken after.sink.now) (after.count, end)
    printer_printed end took ended none =
        subst (λ a. HasPrinted names a (taken before.sink.now) (taken after.sink.now) (after.count, end)) same
        (subst (λ ns. HasPrinted ns below (taken before.sink.now) (taken after.sink.now) (after.count, end)) named
        (printed_all taken faults PrinterTakes PrinterFails names_of (λ p. p.count) (λ p. p.sink.now) prints fails_to below before after end took ended none))

    -- it is about the answer
    cut_in : (fault : Fault) → IsCutShort (ending_text (names_of before) below) (faults before.sink.now) (faults after.sink.now) (taken before.sink.now) (taken after.sink.now) fault → IsCutShort (ending_text names answer) (faults before.sink.now) (faults after.sink.now) (taken before.sink.now) (taken after.sink.now) fault
    cut_in fault cut =
        subst (λ a. IsCutShort (ending_text names a) (faults before.sink.now) (faults after.sink.now) (taken before.sink.now) (taken after.sink.now) fault) same
        (subst (λ ns. IsCutShort (ending_text ns below) (faults before.sink.now) (faults after.sink.now) (taken before.sink.now) (taken after.sink.now) fault) named cut)

    -- a part, without memory
    pub printer_starved : (why : PoolError Fault) → why ≡ error.Memory → IsCut PrinterTakes PrinterFails before below.chains why after → IsCutShort (ending_text names answer) (faults before.sink.now) (faults after.sink.now) (taken before.sink.now) (taken after.sink.now) Memory
    printer_starved why is cut = cut_in Memory
        (cut_by_memory taken faults PrinterTakes PrinterFails names_of (λ p. p.count) (λ p. p.sink.now) prints fails_to below before after
        (subst (λ e. IsCut PrinterTakes PrinterFails before below.chains e after) is cut))

    -- a part, at a chain that failed
    pub printer_failed : (why : PoolError Fault) (fault : Fault) → why ≡ error.Each fault → IsCut PrinterTakes PrinterFails before below.chains why after → IsCutShort (ending_text names answer) (faults before.sink.now) (faults after.sink.now) (taken before.sink.now) (taken after.sink.now) fault
    printer_failed why fault is cut = cut_in fault
        (cut_by_fault taken faults PrinterTakes PrinterFails names_of (λ p. p.count) (λ p. p.sink.now) prints fails_to below before after fault
        (subst (λ e. IsCut PrinterTakes PrinterFails before below.chains e after) is cut))

  module _ (pairs : List (List ℕ × Leaf)) (before after : Printer K) where
    -- no fault was counted
    pub printer_kept : Took PrinterTakes before pairs after → faults after.sink.now ≡ faults before.sink.now
    printer_kept took = (took_prints taken faults PrinterTakes PrinterFails names_of (λ p. p.count) (λ p. p.sink.now) prints fails_to pairs before after took).kept

    -- the sink is the same
    pub printer_same : Took PrinterTakes before pairs after → after.sink.ghost_name ≡ before.sink.ghost_name
    printer_same took = took_keeps PrinterTakes (λ p. p.sink.ghost_name) (λ b path leaf a h. h.2) pairs before after took

    pub printer_cut_same : (why : PoolError Fault) → IsCut PrinterTakes PrinterFails before pairs why after → after.sink.ghost_name ≡ before.sink.ghost_name
    printer_cut_same why cut = cut_keeps PrinterTakes PrinterFails (λ p. p.sink.ghost_name) (λ b path leaf a h. h.2) (λ b path leaf fault a h. h.1) pairs why before after cut
