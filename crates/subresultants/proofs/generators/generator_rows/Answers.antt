-- One more row of a generator.
use Rattle.std.proofs.Common.{◌≡◌, ◌+◌, ◌-◌, List, ◌++◌, length, sym, ap, ◌∙◌, subst}
use Rattle.mono_words.specs.declared.mono.TheConstants.{VARS}
use Rattle.polynomials.specs.Polynomials.{Polynomial}
use Rattle.division_rules.specs.PolynomialRows.{ArePolynomialRows}
use Rattle.division_rules.specs.Rows.{Row}
use Rattle.polynomials.proofs.PolynomialLists.{IsPolynomial-at}
use Rattle.subresultants.specs.Generators.{generator_row, generator_rows}
use Rattle.subresultants.proofs.GeneratorRows.{generator_rows_start, generator_rows_more, rows_canonical_more}
use Rattle.subresultants.proofs.generators.generator_rows.Goals as goal

pub loop-i-init : goal.loop-i-init
loop-i-init c = (
  ap (λ (rows : List (Row Polynomial)). rows ++ generator_rows c.args.w.now.field c.args.cofactors (c.args.before + 0) c.args.list.now) c.new-rows.ensures ∙ generator_rows_start c.args.w.now.field c.args.cofactors c.args.before c.args.list.now,
  subst (ArePolynomialRows c.args.w.now.field VARS) (sym c.new-rows.ensures) tt,
)

pub generator_row-requires : goal.generator_row-requires
generator_row-requires c = IsPolynomial-at c.args.w.now.field VARS c.args.list.now c.loop-i.i c.at.result.now c.requires.over c.at.ensures

pub loop-i-preserved : goal.loop-i-preserved
loop-i-preserved c =
    let same : c.in_ok-row.row ≡ generator_row c.args.cofactors (c.args.before + c.loop-i.i) (length c.args.list.now - c.loop-i.i - 1) c.at.result.now = c.in_ok-row.ensures.value ∙ ap (λ k. generator_row c.args.cofactors (c.args.before + c.loop-i.i) (k - c.loop-i.i - 1) c.at.result.now) c.count-count.ensures in (
      generator_rows_more c.args.w.now.field c.args.cofactors c.args.before c.args.list.now c.loop-i.rows c.push.new.self c.loop-i.i c.at.result.now c.in_ok-row.row c.at.ensures same c.in_ok-push.ensures.ok c.loop-i.invariant.0,
      rows_canonical_more c.args.w.now.field c.loop-i.rows c.push.new.self c.in_ok-row.row c.in_ok-push.ensures.ok c.loop-i.invariant.1 c.in_ok-row.ensures.over,
    )
