-- Sorting terms doesn't change what they are collected to, and puts them in falling order.
use Rattle.std.proofs.Common.{◌≡◌, ◌<◌, ◌+◌, ℕ, Bool, false, zero, suc, List, [], ◌∷◌, length, get_or, refl, ap, sym, ◌∙◌, subst, inl, inr, arith}
use Rattle.std.specs.Prelude.{IsPermutation, IsSortedBy, All, Result, Ok, Err, IfOk}
use Rattle.std.specs.Ordering.{is_lt, ordering_reverse}
use Rattle.std.specs.Cmp.{IsStrictWeakOrder}
use Rattle.std.specs.declared.cmp.Ordering.{Ordering}
use Rattle.std.specs.declared.cmp.Ordering.TheVariants.{Less, Equal, Greater}
use Rattle.std.proofs.lemmas.List.Sorted.{ranks_by, IsStrictWeakOrder-flip, sorted_far, All-permutation}
use Rattle.polynomials.specs.Monomials.{Monomial, monomial_order}
use Rattle.polynomials.specs.MonomialOrders.{monomial_order_total, monomial_order-reverse, monomial_order_same}
use Rattle.polynomials.specs.Polynomials.{Term, collected}
use Rattle.polynomials.proofs.Monomialwise.{EachMonomial, HaveLength}
use Rattle.polynomials.proofs.Canonical.{IsPolynomial-collected}
use Rattle.polynomials.proofs.SamePolynomials.{same_from_sums, SameSums-trans, SameSums-sym, SameSums-collected}
use Rattle.polynomials.proofs.SameSumsLemmas.{SameSums-permutation}
use Rattle.sparse_poly.specs.Falling.{AreResidues, IsAtMost, AreAtMost, IsFalling}

-- t comes before u where its monomial is greater
abbrev pub comes_before : Term → Term → Bool
comes_before t u = is_lt (monomial_order u.0 t.0)

-- it is an order on monomials
pub comes_before_order : IsStrictWeakOrder comes_before
comes_before_order = IsStrictWeakOrder-flip (λ t u. is_lt (monomial_order t.0 u.0)) (ranks_by monomial_order_total (λ t. t.0))

-- what doesn't come before t is at most its monomial
at_most_from_test : (m l : Monomial) → is_lt (monomial_order m l) ≡ false → IsAtMost m l
at_most_from_test m l e = go (monomial_order l m) refl
  where
    go : (o : Ordering) → monomial_order l m ≡ o → IsAtMost m l
    go Less h = inl h
    go Equal h = inr (monomial_order_same l m h)
    go Greater h = let turned = monomial_order-reverse m l ∙ ap ordering_reverse h in let bad = ap is_lt (sym turned) ∙ e in cc

-- an item for each index
each_from_index : (m : Monomial) (ts : List Term) → ((j : ℕ) (d : Term) → j < length ts → IsAtMost m (get_or ts j d).0) → AreAtMost m ts
each_from_index m [] h = tt
each_from_index m (t ∷ ts) h = (h 0 t (omega arith), each_from_index m ts (λ j d below. h (suc j) d (omega arith)))

-- the order of two sums with 1
one_later : (k : ℕ) → suc k + 1 ≡ suc (k + 1)
one_later k = omega arith

-- a sorted list is in falling order
pub falling_from_sorted : (ts : List Term) → IsSortedBy comes_before ts → IsFalling ts
falling_from_sorted [] sorted = tt
falling_from_sorted (t ∷ ts) sorted = (
  each_from_index t.0 ts (λ j d below. at_most_from_test t.0 (get_or ts j d).0 (sorted_far comes_before comes_before_order (t ∷ ts) sorted 0 (suc j) d (omega arith) (omega arith))),
  falling_from_sorted ts (λ k d low high. subst (λ j. comes_before (get_or (t ∷ ts) j d) (get_or ts k d) ≡ false) (one_later k) (sorted (suc k) d (omega arith) (omega arith))),
)

module _ (p n : ℕ) (positive : 0 < p) where
  -- terms in another order are collected to the same polynomial
  pub collected-permutation : (ts us : List Term) → HaveLength n ts → HaveLength n us → IsPermutation ts us → collected p us ≡ collected p ts
  collected-permutation ts us l k permuted =
      same_from_sums p n (collected p us) (collected p ts)
      (IsPolynomial-collected p n positive us k)
      (IsPolynomial-collected p n positive ts l)
      (SameSums-trans p (collected p us) us (collected p ts) (SameSums-collected p us)
      (SameSums-trans p us ts (collected p ts) (SameSums-permutation p ts us permuted) (SameSums-sym p (collected p ts) ts (SameSums-collected p ts))))

-- each coefficient is a residue
AreResidues-from_All : (p : ℕ) (ts : List Term) → All (λ t. t.1 < p) ts → AreResidues p ts
AreResidues-from_All p [] h = tt
AreResidues-from_All p (t ∷ ts) h = (h 0 t (omega arith), AreResidues-from_All p ts (λ k d below. h (suc k) d (omega arith)))

-- and in another order too
pub AreResidues-permutation : (p : ℕ) (ts us : List Term) → IsPermutation ts us → All (λ t. t.1 < p) ts → AreResidues p us
AreResidues-permutation p ts us permuted h = AreResidues-from_All p us (All-permutation (λ t. t.1 < p) ts us permuted h)

-- what holds of each monomial holds of them in another order
All-from_EachMonomial : (P : Monomial → Type 0) (ts : List Term) → EachMonomial P ts → All (λ (t : Term). P t.0) ts
All-from_EachMonomial P [] h k d below = absurd (omega arith)
All-from_EachMonomial P (t ∷ ts) h zero d below = h.0
All-from_EachMonomial P (t ∷ ts) h (suc k) d below = All-from_EachMonomial P ts h.1 k d (omega arith)

EachMonomial-from_All : (P : Monomial → Type 0) (ts : List Term) → All (λ (t : Term). P t.0) ts → EachMonomial P ts
EachMonomial-from_All P [] h = tt
EachMonomial-from_All P (t ∷ ts) h = (h 0 t (omega arith), EachMonomial-from_All P ts (λ k d below. h (suc k) d (omega arith)))

pub EachMonomial-permutation : (P : Monomial → Type 0) (ts us : List Term) → IsPermutation ts us → EachMonomial P ts → EachMonomial P us
EachMonomial-permutation P ts us permuted h = EachMonomial-from_All P us (All-permutation (λ (t : Term). P t.0) ts us permuted (All-from_EachMonomial P ts h))

-- what follows from a result follows where there is one
pub IfOk-implied : {X E : Type 0} (P Q : X → Type 0) (r : Result X E) → ((x : X) → P x → Q x) → IfOk r P → IfOk r Q
IfOk-implied P Q (Ok x) follows h = follows x h
IfOk-implied P Q (Err e) follows h = h
