-- The rows of the generators start remainder rows.
use Rattle.std.proofs.Common.{◌≡◌, ◌+◌, suc, length, IfOk, ap, subst, ◌∙◌, arith}
use Rattle.subresultants.specs.AllRows.{AllRemainders}
use Rattle.subresultants.specs.Ends.{ends_of}
use Rattle.subresultants.specs.Generators.{generator_row}
use Rattle.subresultants.proofs.PolynomialRemainders.{few_below, same_start, same_counts, same_outcome}
use Rattle.subresultants.proofs.sequence.rows_of_generators.Goals as goal

pub overflow_add-count : goal.overflow_add-count
overflow_add-count c =
    let few = few_below c.args.v 0 c.args.below.now (omega arith) c.requires.start.triangular c.requires.start.below in
    let count = c.count-count.ensures in
    omega arith

pub generator_rows-requires-clause-places : goal.generator_rows-requires-clause-places
generator_rows-requires-clause-places c =
    let few = few_below c.args.v 0 c.args.below.now (omega arith) c.requires.start.triangular c.requires.start.below in
    omega arith

pub rows_of-requires-clause-start : goal.rows_of-requires-clause-start
rows_of-requires-clause-start c =
    let first : c.in_ok-first.first ≡ generator_row c.args.cofactors 1 (length c.args.below.now) c.args.t.now = c.in_ok-first.ensures.value ∙ ap (λ k. generator_row c.args.cofactors 1 k c.args.t.now) c.count-count.ensures in
    let one_more : c.count-count.result + 1 ≡ suc (length c.args.below.now) = omega (arith, c.count-count.ensures) in
    let second : c.in_ok-second.second ≡ generator_row c.args.cofactors 0 (suc (length c.args.below.now)) c.args.c.now = c.in_ok-second.ensures.value ∙ ap (λ k. generator_row c.args.cofactors 0 k c.args.c.now) one_more in
    same_start c.args.w.now.field c.args.w.now.width c.args.v c.args.cofactors c.facts.ensures.prime c.args.t.now c.args.c.now c.args.below.now c.requires.first c.requires.second c.requires.chain c.requires.start c.in_ok-first.first c.in_ok-second.second c.in_ok-chain.chain first second c.in_ok-chain.ensures.value

pub rows_of-requires-clause-cofactors : goal.rows_of-requires-clause-cofactors
rows_of-requires-clause-cofactors c =
    let first : c.in_ok-first.first ≡ generator_row c.args.cofactors 1 (length c.args.below.now) c.args.t.now = c.in_ok-first.ensures.value ∙ ap (λ k. generator_row c.args.cofactors 1 k c.args.t.now) c.count-count.ensures in
    let one_more : c.count-count.result + 1 ≡ suc (length c.args.below.now) = omega (arith, c.count-count.ensures) in
    let second : c.in_ok-second.second ≡ generator_row c.args.cofactors 0 (suc (length c.args.below.now)) c.args.c.now = c.in_ok-second.ensures.value ∙ ap (λ k. generator_row c.args.cofactors 0 k c.args.c.now) one_more in
    same_counts c.args.w.now.field c.args.w.now.width c.args.v c.args.cofactors c.facts.ensures.prime c.args.t.now c.args.c.now c.args.below.now c.requires.first c.requires.second c.requires.chain c.requires.start c.in_ok-first.first c.in_ok-second.second c.in_ok-chain.chain first second c.in_ok-chain.ensures.value

pub returns : goal.returns
returns c =
    let first : c.in_ok-first.first ≡ generator_row c.args.cofactors 1 (length c.args.below.now) c.args.t.now = c.in_ok-first.ensures.value ∙ ap (λ k. generator_row c.args.cofactors 1 k c.args.t.now) c.count-count.ensures in
    let one_more : c.count-count.result + 1 ≡ suc (length c.args.below.now) = omega (arith, c.count-count.ensures) in
    let second : c.in_ok-second.second ≡ generator_row c.args.cofactors 0 (suc (length c.args.below.now)) c.args.c.now = c.in_ok-second.ensures.value ∙ ap (λ k. generator_row c.args.cofactors 0 k c.args.c.now) one_more in
    subst (λ (x : AllRemainders). IfOk c.rows_of.result (λ r. r ≡ ends_of x)) (same_outcome c.args.w.now.field c.args.w.now.width c.args.v c.args.cofactors c.facts.ensures.prime c.args.t.now c.args.c.now c.args.below.now c.requires.first c.requires.second c.requires.chain c.requires.start c.in_ok-first.first c.in_ok-second.second c.in_ok-chain.chain first second c.in_ok-chain.ensures.value) c.rows_of.ensures
