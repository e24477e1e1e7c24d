-- Laws of the order of monomials.
use Rattle.std.proofs.Common.{◌≡◌, ℕ, ◌+◌, ◌⊎◌, [], ◌∷◌, length, refl, sym, ap, ap₂, ◌∙◌, subst, inl, inr, arith}
use Rattle.std.specs.Cmp.{IsTotalOrder}
use Rattle.std.specs.Ordering.{nat_cmp, ordering_then, ordering_reverse}
use Rattle.std.specs.declared.cmp.Ordering.{Ordering}
use Rattle.std.specs.declared.cmp.Ordering.TheVariants.{Less, Equal, Greater}
use Rattle.std.proofs.lemmas.Cmp.{nat_cmp_total}
use Rattle.std.proofs.lemmas.Bool.Decides.{nat_tests}
use Rattle.polynomials.specs.Monomials.{Monomial, monomial_order, monomial_product}
pub use Rattle.polynomials.specs.MonomialProducts.{monomial_product_comm, monomial_product_assoc}
pub use Rattle.polynomials.specs.MonomialProducts.{length-monomial_product}
pub use Rattle.polynomials.specs.MonomialProducts.{replicate-monomial_product}

-- a comparison turned round
then_reverse :
    (o q : Ordering)
    → ordering_then (ordering_reverse o) (ordering_reverse q) ≡ ordering_reverse (ordering_then o q)
then_reverse Less q = refl
then_reverse Equal q = refl
then_reverse Greater q = refl

-- less in two steps: by the first answer, or the first ties
pub then_less :
    (o q : Ordering) → ordering_then o q ≡ Less → (o ≡ Less) ⊎ ((o ≡ Equal) × (q ≡ Less))
then_less Less q h = inl refl
then_less Equal q h = inr (refl, h)
then_less Greater q h = cc

-- equal in two steps: both tie
then_equal : (o q : Ordering) → ordering_then o q ≡ Equal → (o ≡ Equal) × (q ≡ Equal)
then_equal Less q h = cc
then_equal Equal q h = (refl, h)
then_equal Greater q h = cc

-- numbers that tie are the same
pub nat_cmp_same : (d e : ℕ) → nat_cmp d e ≡ Equal → d ≡ e
nat_cmp_same d e h = grind (arith, nat_tests)

-- a number compared with itself
pub nat_cmp-refl : (d : ℕ) → nat_cmp d d ≡ Equal
nat_cmp-refl d = grind (arith, nat_tests)

-- adding a number keeps the order of numbers
nat_cmp-add : (a d e : ℕ) → nat_cmp (a + d) (a + e) ≡ nat_cmp d e
nat_cmp-add a d e = grind (arith, nat_tests)

-- a monomial compared with itself
pub monomial_order-refl : (m : Monomial) → monomial_order m m ≡ Equal
monomial_order-refl [] = refl
monomial_order-refl (d ∷ m) = ap₂ ordering_then (monomial_order-refl m) (nat_cmp-refl d)

-- monomials that tie are the same
pub monomial_order_same : (l m : Monomial) → monomial_order l m ≡ Equal → l ≡ m
monomial_order_same [] [] h = refl
monomial_order_same [] (e ∷ m) h = cc
monomial_order_same (d ∷ l) [] h = cc
monomial_order_same (d ∷ l) (e ∷ m) h =
    let both = then_equal (monomial_order l m) (nat_cmp d e) h in
    ap₂ ◌∷◌ (nat_cmp_same d e both.1) (monomial_order_same l m both.0)

-- turned round, the answer is turned round
pub monomial_order-reverse :
    (l m : Monomial) → monomial_order l m ≡ ordering_reverse (monomial_order m l)
monomial_order-reverse [] [] = refl
monomial_order-reverse [] (e ∷ m) = refl
monomial_order-reverse (d ∷ l) [] = refl
monomial_order-reverse (d ∷ l) (e ∷ m) =
    ap₂ ordering_then (monomial_order-reverse l m) (nat_cmp_total.antisymm d e)
    ∙ then_reverse (monomial_order m l) (nat_cmp e d)

-- two steps down, each by the later variables or, where they tie, by the least
less_by_steps :
    (c d e : ℕ) (k l m : Monomial)
    → (monomial_order k l ≡ Less → monomial_order l m ≡ Less → monomial_order k m ≡ Less)
    → (monomial_order k l ≡ Less) ⊎ ((monomial_order k l ≡ Equal) × (nat_cmp c d ≡ Less))
    → (monomial_order l m ≡ Less) ⊎ ((monomial_order l m ≡ Equal) × (nat_cmp d e ≡ Less))
    → ordering_then (monomial_order k m) (nat_cmp c e) ≡ Less
less_by_steps c d e k l m later (inl a) (inl b) =
    ap (λ o. ordering_then o (nat_cmp c e)) (later a b)
less_by_steps c d e k l m later (inl a) (inr b) =
    ap (λ o. ordering_then o (nat_cmp c e))
    (subst (λ x. monomial_order k x ≡ Less) (monomial_order_same l m b.0) a)
less_by_steps c d e k l m later (inr a) (inl b) =
    ap (λ o. ordering_then o (nat_cmp c e))
    (subst (λ x. monomial_order x m ≡ Less) (sym (monomial_order_same k l a.0)) b)
less_by_steps c d e k l m later (inr a) (inr b) =
    ap₂ ordering_then (subst (λ x. monomial_order k x ≡ Equal) (monomial_order_same l m b.0) a.0)
    (nat_cmp_total.trans c d e a.1 b.1)

-- less than what is less is less
pub monomial_order_trans :
    (k l m : Monomial)
    → monomial_order k l ≡ Less
    → monomial_order l m ≡ Less
    → monomial_order k m ≡ Less
monomial_order_trans [] [] m h i = cc
monomial_order_trans [] (d ∷ l) [] h i = cc
monomial_order_trans [] (d ∷ l) (e ∷ m) h i = refl
monomial_order_trans (c ∷ k) [] m h i = cc
monomial_order_trans (c ∷ k) (d ∷ l) [] h i = cc
monomial_order_trans (c ∷ k) (d ∷ l) (e ∷ m) h i =
    less_by_steps c d e k l m (monomial_order_trans k l m)
    (then_less (monomial_order k l) (nat_cmp c d) h)
    (then_less (monomial_order l m) (nat_cmp d e) i)

-- the lexicographic order is a total order
pub monomial_order_total : IsTotalOrder monomial_order
monomial_order_total = record {
  antisymm = monomial_order-reverse;
  trans = monomial_order_trans;
  congr = λ l m k h. ap (λ x. monomial_order x k) (monomial_order_same l m h);
}

-- a common factor keeps the order of monomials of one length
pub monomial_order-product :
    (k l m : Monomial)
    → length l ≡ length m
    → monomial_order (monomial_product k l) (monomial_product k m) ≡ monomial_order l m
monomial_order-product [] l m h = refl
monomial_order-product (c ∷ k) [] [] h = monomial_order-refl (c ∷ k)
monomial_order-product (c ∷ k) [] (e ∷ m) h = absurd (omega arith)
monomial_order-product (c ∷ k) (d ∷ l) [] h = absurd (omega arith)
monomial_order-product (c ∷ k) (d ∷ l) (e ∷ m) h =
    ap₂ ordering_then (monomial_order-product k l m (omega arith)) (nat_cmp-add c d e)

-- a common factor cancels, at one length
pub monomial_product_cancel :
    (k l m : Monomial) → length l ≡ length m → monomial_product k l ≡ monomial_product k m → l ≡ m
monomial_product_cancel k l m h same =
    monomial_order_same l m
    (sym (monomial_order-product k l m h)
    ∙ ap (λ x. monomial_order x (monomial_product k m)) same
    ∙ monomial_order-refl (monomial_product k m))
