-- The sum of terms and of products, where items are taken out, joined and added.
use Rattle.std.proofs.Common.{◌≡◌, ◌≢◌, ℕ, suc, ◌+◌, ◌%◌, ◌<◌, length, List, [], ◌∷◌, ◌++◌, All, IsPermutation, ap, ◌∙◌, arith}
use Rattle.polynomials.specs.Monomials.{Monomial}
use Rattle.polynomials.specs.Polynomials.{Term, term, Polynomial, IsPolynomial, collected, sum_of}
use Rattle.polynomials.proofs.Monomialwise.{EachMonomial, EachMonomial-append, HaveLength}
use Rattle.polynomials.proofs.Canonical.{IsPolynomial-collected}
use Rattle.polynomials.proofs.FirstTerms.{with_first_nonzero}
use Rattle.polynomials.proofs.SamePolynomials.{SameSums, same_from_sums, SameSums-refl, SameSums-sym, SameSums-trans, SameSums-from_path, SameSums-collected}
use Rattle.polynomials.proofs.SameSumsLemmas.{SameSums-permutation, SameSums-append, SameSums-cons, SameSums-to_front, SameSums-zero, SameSums-joined, sum_of_from_sums}
use Rattle.sparse_poly.proofs.Sums.{IsBelow}
use Rattle.sparse_poly.proofs.Collecting.{collected-first}

-- what holds of each term's monomial
pub EachMonomial-from_All : (P : Monomial → Type 0) (ts : List Term) → All (λ t. P t.0) ts → EachMonomial P ts
EachMonomial-from_All P [] h = tt
EachMonomial-from_All P (t ∷ ts) h = (h 0 t (omega arith), EachMonomial-from_All P ts (λ k d below. h (suc k) d (omega arith)))

module _ (p n : ℕ) (positive : 0 < p) where
  -- lists with the same sums are collected to the same polynomial
  collected_same : (ts us : List Term) → HaveLength n ts → HaveLength n us → SameSums p ts us → collected p ts ≡ collected p us
  collected_same ts us l k e =
      same_from_sums p n (collected p ts) (collected p us) (IsPolynomial-collected p n positive ts l) (IsPolynomial-collected p n positive us k)
      (SameSums-trans p (collected p ts) ts (collected p us) (SameSums-collected p ts)
      (SameSums-trans p ts us (collected p us) e (SameSums-sym p (collected p us) us (SameSums-collected p us))))

  -- and the other way round
  sums_from_collected : (ts us : List Term) → collected p ts ≡ collected p us → SameSums p ts us
  sums_from_collected ts us e =
      SameSums-trans p ts (collected p ts) us (SameSums-sym p (collected p ts) ts (SameSums-collected p ts))
      (SameSums-trans p (collected p ts) (collected p us) us (SameSums-from_path p (collected p ts) (collected p us) e) (SameSums-collected p us))

  -- an item is taken out of the second list
  pub taken_out : (terms items others : List Term) (t : Term) → HaveLength n (terms ++ items) → HaveLength n (t ∷ (terms ++ others)) → IsPermutation items (t ∷ others) → collected p (terms ++ items) ≡ collected p (t ∷ (terms ++ others))
  taken_out terms items others t l k permuted =
      collected_same (terms ++ items) (t ∷ (terms ++ others)) l k
      (SameSums-trans p (terms ++ items) (terms ++ t ∷ others) (t ∷ (terms ++ others))
      (SameSums-append p terms items terms (t ∷ others) (SameSums-refl p terms) (SameSums-sym p (t ∷ others) items (SameSums-permutation p items (t ∷ others) permuted)))
      (SameSums-to_front p t terms others))

  -- a change of the second list and of a first item is one of the whole
  pub changed_beside : (terms items others : List Term) (t u : Term) → HaveLength n terms → HaveLength n (t ∷ items) → HaveLength n (u ∷ others) → collected p (t ∷ items) ≡ collected p (u ∷ others) → collected p (t ∷ (terms ++ items)) ≡ collected p (u ∷ (terms ++ others))
  changed_beside terms items others t u l i k e =
      collected_same (t ∷ (terms ++ items)) (u ∷ (terms ++ others)) (i.0, EachMonomial-append (λ m. length m ≡ n) terms items l i.1) (k.0, EachMonomial-append (λ m. length m ≡ n) terms others l k.1)
      (SameSums-trans p (t ∷ (terms ++ items)) (terms ++ t ∷ items) (u ∷ (terms ++ others)) (SameSums-sym p (terms ++ t ∷ items) (t ∷ (terms ++ items)) (SameSums-to_front p t terms items))
      (SameSums-trans p (terms ++ t ∷ items) (terms ++ u ∷ others) (u ∷ (terms ++ others))
      (SameSums-append p terms (t ∷ items) terms (u ∷ others) (SameSums-refl p terms) (sums_from_collected (t ∷ items) (u ∷ others) e))
      (SameSums-to_front p u terms others)))

  -- an item with the monomial of the first joins it
  pub joined_first : (m : Monomial) (a b : ℕ) (items others : List Term) → HaveLength n (term m a ∷ items) → HaveLength n others → IsPermutation items (term m b ∷ others) → collected p (term m a ∷ items) ≡ collected p (term m ((a + b) % p) ∷ others)
  joined_first m a b items others l k permuted =
      collected_same (term m a ∷ items) (term m ((a + b) % p) ∷ others) l (l.0, k)
      (SameSums-trans p (term m a ∷ items) (term m a ∷ term m b ∷ others) (term m ((a + b) % p) ∷ others)
      (SameSums-cons p (term m a) items (term m b ∷ others) (SameSums-sym p (term m b ∷ others) items (SameSums-permutation p items (term m b ∷ others) permuted)))
      (SameSums-sym p (term m ((a + b) % p) ∷ others) (term m a ∷ term m b ∷ others) (SameSums-joined p m a b others)))

  -- a first item with the coefficient 0 is nothing
  pub first_vanishes : (m : Monomial) (c : ℕ) (items : List Term) → HaveLength n (term m c ∷ items) → c ≡ 0 → collected p (term m c ∷ items) ≡ collected p items
  first_vanishes m c items l none =
      ap (λ x. collected p (term m x ∷ items)) none
      ∙ collected_same (term m 0 ∷ items) items l l.1 (SameSums-zero p m items)

  -- with another coefficient it comes first, where it is above the others
  pub first_stays : (m : Monomial) (c : ℕ) (items : List Term) → HaveLength n (term m c ∷ items) → c < p → EachMonomial (IsBelow m) items → c ≢ 0 → collected p (term m c ∷ items) ≡ term m c ∷ collected p items
  first_stays m c items l small below some = collected-first p n positive m c items small l below ∙ with_first_nonzero m c (collected p items) some

  -- a list with the items of old and of q is collected to the sum of both
  pub added_items : (old new : List Term) (q : Polynomial) → HaveLength n old → HaveLength n new → IsPolynomial p n q → SameSums p new (old ++ q) → collected p new ≡ sum_of p (collected p old) q
  added_items old new q l k iq e =
      sum_of_from_sums p n positive (collected p new) (IsPolynomial-collected p n positive new k) (collected p old) q (IsPolynomial-collected p n positive old l) iq
      (SameSums-trans p (collected p new) new (collected p old ++ q) (SameSums-collected p new)
      (SameSums-trans p new (old ++ q) (collected p old ++ q) e
      (SameSums-append p old q (collected p old) q (SameSums-sym p (collected p old) old (SameSums-collected p old)) (SameSums-refl p q))))
