-- The parts of the first factor are polynomials, and the product is the sum of theirs.
use Rattle.std.proofs.Common.{◌≡◌, ◌≢◌, ◌⊎◌, ◌<◌, ◌+◌, ◌/◌, ◌==◌, Bool, false, [], ◌∷◌, length, inl, inr, ℕ, List, sym, subst, ap, ap₂, ◌∙◌, arith}
use Rattle.mono_words.specs.declared.mono.TheConstants.{VARS}
use Rattle.polynomials.specs.Polynomials.{Term, IsPolynomial, product_of, sum_of}
use Rattle.sparse_poly.specs.Pairs.{PairsFit}
use Rattle.sparse_poly.proofs.MultipleTurns.{two_items}
use Rattle.sparse_poly.proofs.Products.{IsPolynomial-append_left, IsPolynomial-append_right, product_of-append}
use Rattle.sparse_poly.proofs.FittingPairs.{PairsFit-append_left, PairsFit-append_right}
use Rattle.sparse_poly.proofs.SortedTerms.{IfOk-implied}
use Rattle.sparse_poly.proofs.product.+merged_product.Goals as goal

-- a part of at least one item of at least two is shorter
shorter : (n : ℕ) (b : Bool) → b ≡ (n == 0) → b ≡ false → n ≢ 1 → (m : ℕ) → (m ≡ n / 2) ⊎ (m + n / 2 ≡ n) → {t : ℕ} → n ≡ t → m < t
shorter n b is tested one m half same =
    let some : n ≢ 0 = λ e. (let f = ap (λ k. k == 0) e in cc) in
    elim half [ inl e ↦ omega arith | inr e ↦ omega arith ]

pub merged_product-requires : goal.merged_product-requires
merged_product-requires t c = (
  shorter (length c.args.short.now) _ c.is_empty.ensures c.if-is_empty.false c.if-short-eq1.false _ (inl c.split_at.ensures.front_len) c.decreases,
  (
    IsPolynomial-append_left c.args.f VARS c.split_at.result.0.now c.split_at.result.1.now (subst (IsPolynomial c.args.f VARS) c.split_at.ensures.by_index.0 c.requires.left),
    (
      c.requires.right,
      PairsFit-append_left c.split_at.result.0.now c.split_at.result.1.now c.args.long.now (subst (λ (l : List Term). PairsFit l c.args.long.now) c.split_at.ensures.by_index.0 c.requires.fit),
    ),
  ),
)

pub merged_product-requires-2 : goal.merged_product-requires-2
merged_product-requires-2 t c = (
  shorter (length c.args.short.now) _ c.is_empty.ensures c.if-is_empty.false c.if-short-eq1.false _ (inr c.split_at.ensures.back_len) c.decreases,
  (
    IsPolynomial-append_right c.args.f VARS c.split_at.result.0.now c.split_at.result.1.now (subst (IsPolynomial c.args.f VARS) c.split_at.ensures.by_index.0 c.requires.left),
    (
      c.requires.right,
      PairsFit-append_right c.split_at.result.0.now c.split_at.result.1.now c.args.long.now (subst (λ (l : List Term). PairsFit l c.args.long.now) c.split_at.ensures.by_index.0 c.requires.fit),
    ),
  ),
)

pub returns-clause-value : goal.returns-clause-value
returns-clause-value t c =
    IfOk-implied _ _ c.merged.result
    (λ r e. e
    ∙ (ap₂ (sum_of c.args.f) (c.deref.ensures.value ∙ c.in_ok-left.ensures.value) (c.deref-2.ensures.value ∙ c.in_ok-right.ensures.value)
    ∙ (sym (product_of-append c.args.f VARS c.facts.ensures.prime c.split_at.result.0.now c.split_at.result.1.now c.args.long.now (subst (IsPolynomial c.args.f VARS) c.split_at.ensures.by_index.0 c.requires.left) c.requires.right)
    ∙ ap (λ (l : List Term). product_of c.args.f l c.args.long.now) (sym c.split_at.ensures.by_index.0))))
    c.merged.ensures.value

pub returns-then-short-eq2-clause-value : goal.returns-then-short-eq2-clause-value
returns-then-short-eq2-clause-value t c =
    let same = two_items c.args.short.now c.index-short-0-then-short-eq2.result c.index-short-1.result c.if-short-eq2.true c.index-short-0-then-short-eq2.is c.index-short-1.is in
    IfOk-implied _ _ c.sum_of_multiples.result
    (λ r e. e
    ∙ (sym (product_of-append c.args.f VARS c.facts.ensures.prime (c.index-short-0-then-short-eq2.result ∷ []) (c.index-short-1.result ∷ []) c.args.long.now (subst (IsPolynomial c.args.f VARS) same c.requires.left) c.requires.right)
    ∙ ap (λ (l : List Term). product_of c.args.f l c.args.long.now) (sym same)))
    c.sum_of_multiples.ensures.value
