-- Sorting changes the order alone.
use Rattle.std.proofs.Common.{rules, ℕ, List, IsPermutation, map, sym, ap, ◌∙◌, subst}
use Rattle.std.proofs.lemmas.List.Sorted.{answers_always, All-permutation}
use Rattle.mono_words.specs.declared.mono.TheConstants.{VARS}
use Rattle.polynomials.specs.Polynomials.{Term, IsPolynomial, collected}
use Rattle.polynomials.proofs.Canonical.{IsPolynomial-product_of}
use Rattle.sparse_poly.specs.declared.keys.Pair.{Pair}
use Rattle.sparse_poly.specs.Keys.{reduced_pair, IsPair, ArePairs, FallByPlace}
use Rattle.sparse_poly.proofs.Moduli.{positive_modulus}
use Rattle.sparse_poly.proofs.SortedTerms.{IfOk-implied}
use Rattle.sparse_poly.proofs.KeyTurns.{comes_before, comes_before_order, falling_pairs, collected_pairs}
use Rattle.sparse_poly.proofs.keys.product_by_keys.Goals as goal

-- the sorted pairs are pairs too
sorted_are : (sides : List ℕ) (short long : List Term) (pairs sorted : List Pair) → IsPermutation pairs sorted → ArePairs sides short long pairs → ArePairs sides short long sorted
sorted_are sides short long pairs sorted permuted are = All-permutation (IsPair sides short long) pairs sorted permuted are

pub joined-requires-clause-pairs : goal.joined-requires-clause-pairs
joined-requires-clause-pairs c =
    subst (ArePairs c.args.sides.now c.args.short.now c.args.long.now) (sym c.deref.ensures.value)
    (sorted_are c.args.sides.now c.args.short.now c.args.long.now c.in_ok-pairs.pairs.items c.sort_unstable_by.new.self.items c.sort_unstable_by.ensures.permutation c.in_ok-pairs.ensures.pairs)

pub joined-requires-clause-falling : goal.joined-requires-clause-falling
joined-requires-clause-falling c =
    subst FallByPlace (sym c.deref.ensures.value)
    (falling_pairs c.sort_unstable_by.new.self.items
    (c.sort_unstable_by.ensures.sorted comes_before comes_before_order (answers_always _ _ _ (λ f a r g h. search rules))))

pub returns-clause-value : goal.returns-clause-value
returns-clause-value c =
    IfOk-implied _ _ c.joined.result
    (λ r e. e
    ∙ ap (λ (l : List Pair). collected c.args.f (map (reduced_pair c.args.f c.args.short.now c.args.long.now) l)) c.deref.ensures.value
    ∙ collected_pairs c.args.f VARS c.args.sides.now c.args.short.now c.args.long.now c.requires (positive_modulus c.facts.ensures.least) c.in_ok-pairs.pairs.items c.sort_unstable_by.new.self.items c.sort_unstable_by.ensures.permutation (sorted_are c.args.sides.now c.args.short.now c.args.long.now c.in_ok-pairs.pairs.items c.sort_unstable_by.new.self.items c.sort_unstable_by.ensures.permutation c.in_ok-pairs.ensures.pairs) c.in_ok-pairs.ensures.terms)
    c.joined.ensures

pub returns-clause-over : goal.returns-clause-over
returns-clause-over c =
    IfOk-implied _ _ c.joined.result
    (λ r e. subst (IsPolynomial c.args.f VARS) (sym e) (IsPolynomial-product_of c.args.f VARS (positive_modulus c.facts.ensures.least) c.args.short.now c.args.long.now c.requires.left c.requires.right))
    (returns-clause-value c)
