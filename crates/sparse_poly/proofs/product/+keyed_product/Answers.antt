-- The box holds the products of both parts, and the product is the sum of theirs.
use Rattle.std.proofs.Common.{◌≡◌, ◌⊎◌, ◌<◌, ◌≤◌, ◌+◌, ◌/◌, ℕ, List, length, inl, inr, sym, subst, ap, ap₂, ◌∙◌, arith}
use Rattle.mono_words.specs.declared.mono.TheConstants.{VARS}
use Rattle.polynomials.specs.Polynomials.{Term, product_of, sum_of}
use Rattle.sparse_poly.specs.Boxes.{IsBoxOf}
use Rattle.sparse_poly.proofs.Products.{product_of-append}
use Rattle.sparse_poly.proofs.KeyTurns.{box_of_left, box_of_right}
use Rattle.sparse_poly.proofs.SortedTerms.{IfOk-implied}
use Rattle.sparse_poly.proofs.product.+keyed_product.Goals as goal

-- a half of at least two items is shorter
shorter : (n m : ℕ) → 6 ≤ n → (m ≡ n / 2) ⊎ (m + n / 2 ≡ n) → {t : ℕ} → n ≡ t → m < t
shorter n m many half same = elim half [ inl e ↦ omega arith | inr e ↦ omega arith ]

-- and has items
some : (n m : ℕ) → 6 ≤ n → (m ≡ n / 2) ⊎ (m + n / 2 ≡ n) → 0 < m
some n m many half = elim half [ inl e ↦ omega arith | inr e ↦ omega arith ]

pub keyed_product-requires : goal.keyed_product-requires
keyed_product-requires t c =
    let half = inl c.split_at.ensures.front_len in (
      shorter (length c.args.short.now) _ c.if-short-lt-FEWEST_TERMS.false half c.decreases,
      box_of_left c.args.f VARS c.args.sides.now c.split_at.result.0.now c.split_at.result.1.now c.args.long.now
          (some (length c.args.short.now) _ c.if-short-lt-FEWEST_TERMS.false half)
          (subst (λ (l : List Term). IsBoxOf c.args.f VARS c.args.sides.now l c.args.long.now) c.split_at.ensures.by_index.0 c.requires),
    )

pub keyed_product-requires-2 : goal.keyed_product-requires-2
keyed_product-requires-2 t c =
    let half = inr c.split_at.ensures.back_len in (
      shorter (length c.args.short.now) _ c.if-short-lt-FEWEST_TERMS.false half c.decreases,
      box_of_right c.args.f VARS c.args.sides.now c.split_at.result.0.now c.split_at.result.1.now c.args.long.now
          (some (length c.args.short.now) _ c.if-short-lt-FEWEST_TERMS.false half)
          (subst (λ (l : List Term). IsBoxOf c.args.f VARS c.args.sides.now l c.args.long.now) c.split_at.ensures.by_index.0 c.requires),
    )

pub returns-clause-value : goal.returns-clause-value
returns-clause-value t c =
    IfOk-implied _ _ c.merged.result
    (λ r e. e
    ∙ (ap₂ (sum_of c.args.f) (c.deref.ensures.value ∙ c.in_ok-left.ensures.value) (c.deref-2.ensures.value ∙ c.in_ok-right.ensures.value)
    ∙ (sym (product_of-append c.args.f VARS c.facts.ensures.prime c.split_at.result.0.now c.split_at.result.1.now c.args.long.now (subst (λ (l : List Term). IsBoxOf c.args.f VARS c.args.sides.now l c.args.long.now) c.split_at.ensures.by_index.0 c.requires).left c.requires.right)
    ∙ ap (λ (l : List Term). product_of c.args.f l c.args.long.now) (sym c.split_at.ensures.by_index.0))))
    c.merged.ensures.value
