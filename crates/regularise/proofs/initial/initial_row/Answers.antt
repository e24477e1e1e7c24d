-- The rows are those of the initial and of a triangular set.
use Rattle.std.proofs.Common.{true, ap, ◌∙◌}
use Rattle.subresultants.specs.Generators.{generator_row}
use Rattle.regularise.proofs.GeneratorRows.{rows_triangular, rows_counts}
use Rattle.regularise.proofs.initial.initial_row.Goals as goal

pub reduce_rows-requires-clause-triangular : goal.reduce_rows-requires-clause-triangular
reduce_rows-requires-clause-triangular c = rows_triangular c.args.w.now.field c.args.initial.now c.args.below.now c.in_ok-row.row c.in_ok-rows.rows (c.in_ok-row.ensures.value ∙ ap (λ k. generator_row true 0 k c.args.initial.now) c.count.ensures) c.in_ok-rows.ensures.value c.requires.triangular

pub reduce_rows-requires-clause-cofactors : goal.reduce_rows-requires-clause-cofactors
reduce_rows-requires-clause-cofactors c = rows_counts c.args.w.now.field c.args.initial.now c.args.below.now c.in_ok-row.row c.in_ok-rows.rows (c.in_ok-row.ensures.value ∙ ap (λ k. generator_row true 0 k c.args.initial.now) c.count.ensures) c.in_ok-rows.ensures.value
