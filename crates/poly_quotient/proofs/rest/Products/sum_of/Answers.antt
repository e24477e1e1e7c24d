-- Each product joins.
use Rattle.std.proofs.Common.{◌≡◌, ℕ, ◌∙◌, ◌≤◌, [], ◌∷◌, length, IsPermutation, sym, ap, subst, arith}
use Rattle.std.specs.BinaryHeap.{heap_items}
use Rattle.mono_words.specs.declared.mono.TheConstants.{VARS}
use Rattle.std.proofs.lemmas.List.Sorted.{length_permutation}
use Rattle.polynomials.specs.Polynomials.{term, collected}
use Rattle.poly_quotient.specs.Rests.{products_left}
use Rattle.poly_quotient.proofs.Clauses.{some_at, none_at}
use Rattle.poly_quotient.proofs.RestItems.{rest_of, item_small}
use Rattle.poly_quotient.proofs.RestTurns.{joining_begins, joining_turn}
use Rattle.poly_quotient.proofs.rest.Products.sum_of.Goals as goal

pub loop-more-init : goal.loop-more-init
loop-more-init c = (c.requires.order, c.requires.products, joining_begins c.args.f VARS (let small = c.requires.residue in omega arith) c.args.monomial c.args.c (products_left c.args.f c.args.quotient.now c.args.divisor.now (heap_items c.args.self.now.heap)) c.requires.residue (rest_of c.args.f VARS (let small = c.requires.residue in omega arith) [] c.args.quotient.now c.args.divisor.now (heap_items c.args.self.now.heap) c.args.self.now.waiting.items tt c.requires.products) c.requires.most)

pub take_at-requires-clause-order : goal.take_at-requires-clause-order
take_at-requires-clause-order c = c.loop-more.invariant.0

pub take_at-requires-clause-products : goal.take_at-requires-clause-products
take_at-requires-clause-products c = c.loop-more.invariant.1

pub take_at-requires-clause-most : goal.take_at-requires-clause-most
take_at-requires-clause-most c = c.loop-more.invariant.2.2

pub add-sum-requires-clause-left : goal.add-sum-requires-clause-left
add-sum-requires-clause-left c = c.loop-more.invariant.2.0

pub add-sum-requires-clause-right : goal.add-sum-requires-clause-right
add-sum-requires-clause-right c = item_small c.args.f VARS [] (products_left c.args.f c.args.quotient.now c.args.divisor.now (heap_items c.loop-more.self.heap)) (products_left c.args.f c.args.quotient.now c.args.divisor.now (heap_items c.take_at.new.self.heap)) (term c.args.monomial c.in-Some.more) (some_at (λ (x : ℕ). IsPermutation (products_left c.args.f c.args.quotient.now c.args.divisor.now (heap_items c.loop-more.self.heap)) (term c.args.monomial x ∷ (products_left c.args.f c.args.quotient.now c.args.divisor.now (heap_items c.take_at.new.self.heap)))) c.in_ok-more.field-0 c.in-Some.more c.in-Some.is c.in_ok-more.ensures.some) c.loop-more.invariant.2.1

pub loop-more-smaller : goal.loop-more-smaller
loop-more-smaller c = let shorter = length_permutation (products_left c.args.f c.args.quotient.now c.args.divisor.now (heap_items c.loop-more.self.heap)) (term c.args.monomial c.in-Some.more ∷ (products_left c.args.f c.args.quotient.now c.args.divisor.now (heap_items c.take_at.new.self.heap))) (some_at (λ (x : ℕ). IsPermutation (products_left c.args.f c.args.quotient.now c.args.divisor.now (heap_items c.loop-more.self.heap)) (term c.args.monomial x ∷ (products_left c.args.f c.args.quotient.now c.args.divisor.now (heap_items c.take_at.new.self.heap)))) c.in_ok-more.field-0 c.in-Some.more c.in-Some.is c.in_ok-more.ensures.some) in omega arith

pub loop-more-preserved : goal.loop-more-preserved
loop-more-preserved c = (
  c.in_ok-more.ensures.order,
  c.in_ok-more.ensures.products,
  joining_turn c.args.f VARS (let small = c.requires.residue in omega arith) c.args.monomial c.args.c (products_left c.args.f c.args.quotient.now c.args.divisor.now (heap_items c.args.self.now.heap)) c.loop-more.sum c.add-sum.result c.in-Some.more (products_left c.args.f c.args.quotient.now c.args.divisor.now (heap_items c.loop-more.self.heap)) (products_left c.args.f c.args.quotient.now c.args.divisor.now (heap_items c.take_at.new.self.heap)) c.shape.ensures.variables (some_at (λ (x : ℕ). IsPermutation (products_left c.args.f c.args.quotient.now c.args.divisor.now (heap_items c.loop-more.self.heap)) (term c.args.monomial x ∷ (products_left c.args.f c.args.quotient.now c.args.divisor.now (heap_items c.take_at.new.self.heap)))) c.in_ok-more.field-0 c.in-Some.more c.in-Some.is c.in_ok-more.ensures.some) c.add-sum.ensures.sum c.add-sum.ensures.residue c.loop-more.invariant.2,
)

pub returns-clause-residue : goal.returns-clause-residue
returns-clause-residue c = c.loop-more.invariant.2.0

pub returns-clause-sum : goal.returns-clause-sum
returns-clause-sum c = c.loop-more.invariant.2.3 ∙ ap (λ es. collected c.args.f (term c.args.monomial c.loop-more.sum ∷ products_left c.args.f c.args.quotient.now c.args.divisor.now es)) (sym (none_at (heap_items c.take_at.new.self.heap ≡ heap_items c.loop-more.self.heap) c.in_ok-more.field-0 c.in_default.is c.in_ok-more.ensures.none))

pub returns-clause-count : goal.returns-clause-count
returns-clause-count c = subst (λ es. length (products_left c.args.f c.args.quotient.now c.args.divisor.now es) ≤ length (products_left c.args.f c.args.quotient.now c.args.divisor.now (heap_items c.args.self.now.heap))) (sym (none_at (heap_items c.take_at.new.self.heap ≡ heap_items c.loop-more.self.heap) c.in_ok-more.field-0 c.in_default.is c.in_ok-more.ensures.none)) c.loop-more.invariant.2.4
