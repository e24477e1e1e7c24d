-- Entries of a heap by their order: the greatest comes first.
use Rattle.std.proofs.Common.{◌≡◌, ◌≢◌, ◌<◌, true, false, length, List, [], ◌∷◌, get_or, All, refl, sym, ap, ◌∙◌, subst, inl, inr, arith}
use Rattle.std.specs.BinaryHeap.{IsUpperBound}
use Rattle.std.specs.Ordering.{is_lt, is_gt, nat_cmp, ordering_then, ordering_reverse}
use Rattle.std.specs.declared.cmp.Ordering.{Ordering}
use Rattle.std.specs.declared.cmp.Ordering.TheVariants.{Less, Equal, Greater}
use Rattle.std.proofs.lemmas.List.Elements.{All-cons}
use Rattle.polynomials.specs.Monomials.{Monomial, monomial_order}
use Rattle.polynomials.specs.MonomialOrders.{monomial_order_trans, monomial_order-refl, monomial_order-reverse, monomial_order_same}
use Rattle.sparse_poly.specs.Falling.{IsAtMost}
use Rattle.poly_quotient.specs.Rests.{Entry, entry_order}

-- what isn't above d in the order of entries has no greater monomial
at_most_from_order : (d e : Entry) → is_lt (entry_order d e) ≡ false → IsAtMost d.0 e.0
at_most_from_order d e h = go (monomial_order e.0 d.0) refl
  where
    go : (o : Ordering) → monomial_order e.0 d.0 ≡ o → IsAtMost d.0 e.0
    go Less h = inl h
    go Equal h = inr (monomial_order_same e.0 d.0 h)
    go Greater i =
        let turned = monomial_order-reverse d.0 e.0 ∙ ap ordering_reverse i in
        let bad = ap (λ o. is_lt (ordering_then (ordering_then o (nat_cmp d.1 e.1)) (nat_cmp d.2 e.2))) (sym turned) ∙ h in
        cc

-- no monomial is greater than that of an upper bound
pub at_most_from_bound : (e : Entry) (es : List Entry) → IsUpperBound entry_order e es → All (λ d. IsAtMost e.0 d.0) es
at_most_from_bound e [] bound = λ k d below. absurd (omega arith)
at_most_from_bound e (d ∷ es) bound = All-cons (λ (x : Entry). IsAtMost e.0 x.0) d es (at_most_from_order e d bound.0) (at_most_from_bound e es bound.1)

-- what is at most l is at most a monomial that is at least l
pub at_most_trans : (m l k : Monomial) → IsAtMost m l → IsAtMost l k → IsAtMost m k
at_most_trans m l k (inl less) (inl below) = inl (monomial_order_trans k l m below less)
at_most_trans m l k (inl less) (inr same) = inl (subst (λ x. monomial_order x m ≡ Less) (sym same) less)
at_most_trans m l k (inr equal) below = subst (λ x. IsAtMost x k) equal below

-- what is at most a monomial below m is below m
pub below_trans : (m l k : Monomial) → monomial_order l m ≡ Less → IsAtMost l k → monomial_order k m ≡ Less
below_trans m l k less (inl below) = monomial_order_trans k l m below less
below_trans m l k less (inr same) = subst (λ x. monomial_order x m ≡ Less) (sym same) less

-- where m isn't less than an upper bound, none is greater than m
pub at_most_beside : (m : Monomial) (e : Entry) (es : List Entry) → IsAtMost m e.0 → All (λ d. IsAtMost e.0 d.0) es → All (λ d. IsAtMost m d.0) es
at_most_beside m e es most all = λ k d below. at_most_trans m e.0 (get_or es k d).0 most (all k d below)

-- where an upper bound is below m, each is
pub below_beside : (m : Monomial) (e : Entry) (es : List Entry) → IsAtMost m e.0 → e.0 ≢ m → All (λ d. IsAtMost e.0 d.0) es → All (λ d. monomial_order d.0 m ≡ Less) es
below_beside m e es (inr same) other all = absurd (other same)
below_beside m e es (inl less) other all = λ k d below. below_trans m e.0 (get_or es k d).0 less (all k d below)

-- a monomial that isn't greater than m is at most m
pub at_most_from_test : (m l : Monomial) → is_gt (monomial_order l m) ≡ false → IsAtMost m l
at_most_from_test m l e = go (monomial_order l m) refl
  where
    go : (o : Ordering) → monomial_order l m ≡ o → IsAtMost m l
    go Less h = inl h
    go Equal h = inr (monomial_order_same l m h)
    go Greater h = let bad = ap is_gt (sym h) ∙ e in cc

-- and one that is isn't
pub not_at_most : (m l : Monomial) → is_gt (monomial_order l m) ≡ true → IsAtMost m l → ⊥
not_at_most m l e (inl less) = let bad = ap is_gt (sym less) ∙ e in cc
not_at_most m l e (inr same) =
    let tie = ap (λ x. monomial_order x m) same ∙ monomial_order-refl m in
    let bad = ap is_gt (sym tie) ∙ e in
    cc

-- what isn't at most m is greater
pub greater_from_not : (m l : Monomial) → (IsAtMost m l → ⊥) → monomial_order m l ≡ Less
greater_from_not m l other = go (monomial_order m l) refl
  where
    go : (o : Ordering) → monomial_order m l ≡ o → monomial_order m l ≡ Less
    go Less h = h
    go Equal h = absurd (other (inr (sym (monomial_order_same m l h))))
    go Greater h = absurd (other (inl (monomial_order-reverse l m ∙ ap ordering_reverse h)))

-- an entry at the first place is one of them
pub first_item : (P : Entry → Type 0) (es : List Entry) (e : Entry) → 0 < length es → e ≡ get_or es 0 e → All P es → P e
first_item P es e some at all = subst P (sym at) (all 0 e some)

-- there is one entry at the first place
pub one_first : (es : List Entry) (d e : Entry) → 0 < length es → d ≡ get_or es 0 d → e ≡ get_or es 0 e → d ≡ e
one_first [] d e some at_d at_e = absurd (omega arith)
one_first (x ∷ es) d e some at_d at_e = at_d ∙ sym at_e
