-- From sums of 0 to those of all products.
use Rattle.std.proofs.Common.{◌≡◌, ◌++◌, ℕ, List, length, take, drop, sym, ap, ◌∙◌, subst, append-nil, arith}
use Rattle.std.proofs.Math.ListN.{drop_of_length-le}
use Rattle.std.proofs.Math.Seq.{take-append_seam}
use Rattle.mono_words.specs.declared.mono.TheConstants.{VARS}
use Rattle.polynomials.specs.Polynomials.{Term, IsPolynomial, term_products}
use Rattle.polynomials.proofs.Canonical.{IsPolynomial-product_of}
use Rattle.polynomials.proofs.SamePolynomials.{SameSums}
use Rattle.sparse_poly.specs.Boxes.{boxed, from_slots}
use Rattle.sparse_poly.proofs.Moduli.{positive_modulus}
use Rattle.sparse_poly.proofs.SortedTerms.{IfOk-implied}
use Rattle.sparse_poly.proofs.BoxTurns.{rows_turn}
use Rattle.sparse_poly.proofs.BoxRows.{box_places}
use Rattle.sparse_poly.proofs.BoxSums.{empty_sums, empty_same, full_sums}
use Rattle.sparse_poly.proofs.boxes.product_in_box.Goals as goal

pub loop-i-init : goal.loop-i-init
loop-i-init c = rw (c.in_ok-sums.ensures.items_if_clones_equal (λ y same. same)) (record {
  bounds = empty_sums c.args.sides.now c.args.size c.args.long.now c.requires.size;
  sums = empty_same c.args.f VARS c.args.sides.now c.args.size c.args.short.now c.args.long.now;
})

pub loop-i-preserved : goal.loop-i-preserved
loop-i-preserved c =
    let new = c.add_row.new.sums in
    let same : length new ≡ length c.loop-i.sums.items =
    c.add_row.ensures.bounds.count ∙ sym c.loop-i.invariant.bounds.count in
    let written : take c.loop-i.sums.len (new ++ drop (length new) c.loop-i.sums.items) ≡ new =
    ap (λ k. take k (new ++ drop (length new) c.loop-i.sums.items)) (omega (arith, c.loop-i.sums.ok.0)) ∙ take-append_seam new (drop (length new) c.loop-i.sums.items) in
    rw written (record {
      bounds = c.add_row.ensures.bounds;
      sums =
          rows_turn c.args.f c.loop-i.i c.index-short-i.result
          (boxed VARS c.args.sides.now 0 c.loop-i.sums.items) (boxed VARS c.args.sides.now 0 new)
          c.args.short.now c.args.long.now (term_products c.args.short.now c.args.long.now)
          c.loop-i-test.true c.index-short-i.is (rw (← c.deref_mut.ensures.value) c.add_row.ensures.sums) c.loop-i.invariant.sums;
    })

pub from_sums-requires : goal.from_sums-requires
from_sums-requires c = record {
  variables = c.requires.factors.variables;
  some = box_places c.args.f VARS c.args.sides.now c.args.short.now c.args.long.now c.requires.factors;
  narrow = c.requires.factors.narrow;
  count = ap length c.deref-2.ensures.value ∙ c.loop-i.invariant.bounds.count;
}

pub returns-clause-value : goal.returns-clause-value
returns-clause-value c =
    IfOk-implied _ _ c.from_sums.result
    (λ r e. e ∙ ap (λ (l : List ℕ). from_slots c.args.f (boxed VARS c.args.sides.now 0 l)) c.deref-2.ensures.value
    ∙ full_sums c.args.f VARS c.args.sides.now c.args.short.now c.args.long.now c.loop-i.sums.items (positive_modulus c.facts.ensures.least)
    c.requires.factors.left c.requires.factors.right c.requires.factors.variables
    (box_places c.args.f VARS c.args.sides.now c.args.short.now c.args.long.now c.requires.factors)
    c.loop-i.invariant.bounds.count
    (subst (λ (l : List Term). SameSums c.args.f l (term_products c.args.short.now c.args.long.now))
    (ap (λ (l : List Term). boxed VARS c.args.sides.now 0 c.loop-i.sums.items ++ term_products l c.args.long.now) (drop_of_length-le c.args.short.now c.loop-i-test.false)
    ∙ append-nil (boxed VARS c.args.sides.now 0 c.loop-i.sums.items))
    c.loop-i.invariant.sums))
    c.from_sums.ensures

pub returns-clause-over : goal.returns-clause-over
returns-clause-over c =
    IfOk-implied _ _ c.from_sums.result
    (λ r e. subst (IsPolynomial c.args.f VARS) (sym e)
    (IsPolynomial-product_of c.args.f VARS (positive_modulus c.facts.ensures.least) c.args.short.now c.args.long.now c.requires.factors.left c.requires.factors.right))
    (returns-clause-value c)
