-- The sums of a product from their start to their end.
use Rattle.std.proofs.Common.{◌≡◌, ◌≢◌, ℕ, ◌+◌, ◌*◌, ◌%◌, ◌^◌, ◌<◌, ◌≤◌, List, [], ◌∷◌, ◌++◌, length, get_or, drop, replicate, sym, ap, ◌∙◌, append-nil, arith}
use Rattle.std.proofs.lemmas.List.{length-replicate}
use Rattle.std.proofs.lemmas.List.Elements.{All-replicate}
use Rattle.polynomials.specs.Monomials.{Monomial}
use Rattle.polynomials.specs.Polynomials.{Term, term, with_first, term_products, product_of, IsPolynomial}
use Rattle.polynomials.proofs.Canonical.{IsPolynomial-product_of}
use Rattle.polynomials.proofs.FirstTerms.{with_first_nonzero}
use Rattle.polynomials.proofs.SamePolynomials.{SameSums, SameSums-trans, SameSums-sym, SameSums-refl, SameSums-collected, same_from_sums}
use Rattle.polynomials.proofs.SameSumsLemmas.{SameSums-append}
use Rattle.sparse_poly.specs.Boxes.{box_size, monomial_of_place, boxed, AreSums, from_slots}
use Rattle.sparse_poly.proofs.Slots.{slots_fall, slots_sums}
use Rattle.sparse_poly.proofs.BoxTurns.{from_slots_turn}
use Rattle.sparse_poly.proofs.BoxMonomials.{HavePlaces, length-boxed, get_or-boxed, boxed_stands, boxed_zeros}

module _ (p n : ℕ) (sides : List ℕ) (j : ℕ) (out : List Term) (sums : List ℕ) (below : j < length sums) (made : out ≡ from_slots p (drop (j + 1) (boxed n sides 0 sums))) where
  abbrev slot : Term
  slot = term (monomial_of_place n sides j) (get_or sums j 0)

  emptied : out ++ with_first (term (monomial_of_place n sides j) (get_or sums j 0 % p)) [] ≡ from_slots p (drop j (boxed n sides 0 sums))
  emptied =
      from_slots_turn p j slot out (boxed n sides 0 sums) (omega (arith, length-boxed n sides 0 sums))
      (sym (get_or-boxed n sides 0 sums j slot 0 below ∙ ap (λ k. term (monomial_of_place n sides k) (get_or sums j 0)) (omega arith))) made

  -- a sum that isn't 0 gives a term
  pub emptied_some : (m : Monomial) (c : ℕ) → m ≡ monomial_of_place n sides j → c ≡ get_or sums j 0 % p → c ≢ 0 → out ++ term m c ∷ [] ≡ from_slots p (drop j (boxed n sides 0 sums))
  emptied_some m c same sum some =
      ap (λ (l : Monomial). out ++ term l c ∷ []) same
      ∙ ap (λ (l : List Term). out ++ l) (sym (with_first_nonzero (monomial_of_place n sides j) c [] some))
      ∙ ap (λ (x : ℕ). out ++ with_first (term (monomial_of_place n sides j) x) []) sum ∙ emptied

  -- another none
  pub emptied_none : 0 ≡ get_or sums j 0 % p → out ≡ from_slots p (drop j (boxed n sides 0 sums))
  emptied_none sum =
      sym (append-nil out) ∙ ap (λ (x : ℕ). out ++ with_first (term (monomial_of_place n sides j) x) []) sum ∙ emptied

-- at first each sum is 0
pub empty_sums : (sides : List ℕ) (size : ℕ) (long : List Term) → size ≡ box_size sides → AreSums sides (0 * (length long * 2 ^ 32)) (replicate size 0)
empty_sums sides size long is = record {
  count = length-replicate size 0 ∙ is;
  bound = All-replicate (λ (c : ℕ). c ≤ 0 * (length long * 2 ^ 32)) size 0 (omega arith);
}

-- and all products are to come
pub empty_same : (p n : ℕ) (sides : List ℕ) (size : ℕ) (short long : List Term) → SameSums p (boxed n sides 0 (replicate size 0) ++ term_products short long) (term_products short long)
empty_same p n sides size short long =
    SameSums-append p (boxed n sides 0 (replicate size 0)) (term_products short long) [] (term_products short long)
    (boxed_zeros p n sides 0 size) (SameSums-refl p (term_products short long))

-- sums that hold the products of all pairs hold the product
pub full_sums : (p n : ℕ) (sides : List ℕ) (short long : List Term) (sums : List ℕ) → 0 < p → IsPolynomial p n short → IsPolynomial p n long → length sides ≤ n → HavePlaces sides → length sums ≡ box_size sides → SameSums p (boxed n sides 0 sums) (term_products short long) → from_slots p (boxed n sides 0 sums) ≡ product_of p short long
full_sums p n sides short long sums positive left right few some count same =
    same_from_sums p n (from_slots p (boxed n sides 0 sums)) (product_of p short long)
    (slots_fall p n sides 0 (boxed n sides 0 sums) positive (boxed_stands n sides 0 sums few some (omega arith))).1
    (IsPolynomial-product_of p n positive short long left right)
    (SameSums-trans p (from_slots p (boxed n sides 0 sums)) (boxed n sides 0 sums) (product_of p short long) (slots_sums p (boxed n sides 0 sums))
    (SameSums-trans p (boxed n sides 0 sums) (term_products short long) (product_of p short long) same (SameSums-sym p (product_of p short long) (term_products short long) (SameSums-collected p (term_products short long)))))
