-- Turns of the loops over a heap of products.
use Rattle.std.proofs.Common.{◌≡◌, ◌≢◌, ℕ, ◌+◌, ◌%◌, ◌<◌, ◌≤◌, length, List, [], ◌∷◌, ◌++◌, All, IsPermutation, map, append-nil, append_assoc, Option, Some, None, IfSome, IfNone, refl, sym, subst, ap, ap₂, ◌∙◌, arith}
use Rattle.std.specs.Prelude.{Result, Ok, Err, OnOk}
use Rattle.std.specs.declared.cmp.Ordering.TheVariants.{Less}
use Rattle.std.proofs.lemmas.List.Elements.{All-tail}
use Rattle.std.proofs.lemmas.List.Sorted.{All-permutation, length_permutation}
use Rattle.polynomials.specs.Primes.{IsPrime}
use Rattle.polynomials.specs.Monomials.{Monomial, monomial_order}
use Rattle.polynomials.specs.Polynomials.{Term, term, Polynomial, IsPolynomial, collected, sum_of, product_of, opposite_term, negative_of}
use Rattle.polynomials.proofs.Monomialwise.{EachMonomial-append, HaveLength-from_IsPolynomial}
use Rattle.polynomials.proofs.Canonical.{IsPolynomial-negative_of, IsPolynomial-product_of}
use Rattle.polynomials.proofs.SamePolynomials.{collected_itself, SameSums-refl, SameSums-sym, SameSums-trans, SameSums-from_path}
use Rattle.polynomials.proofs.SameSumsLemmas.{SameSums-permutation, SameSums-append}
use Rattle.sparse_poly.specs.Falling.{IsAtMost}
use Rattle.sparse_poly.proofs.Sums.{IsBelow, all_below}
use Rattle.sparse_poly.proofs.Products.{reduced_product, product_of-term}
use Rattle.poly_quotient.specs.Rests.{Entry, products_left, added_products, AreProducts, sum_of_rest, TakesGreatest}
use Rattle.poly_quotient.proofs.Clauses.{some_at, none_at}
use Rattle.poly_quotient.proofs.Turns.{opposite_residue}
use Rattle.poly_quotient.proofs.RestSums.{EachMonomial-from_All, changed_beside, joined_first, first_vanishes, first_stays, added_items}
use Rattle.poly_quotient.proofs.RestItems.{IsRest, rest_of, rest_beside, lengths_of, rest_without}

-- at first all terms are left
pub begun : (p n : ℕ) (a terms q g : Polynomial) (es : List Entry) → terms ≡ a → es ≡ [] → IsPolynomial p n a → sum_of_rest p terms (products_left p q g es) ≡ a
begun p n a terms q g es all none i = ap₂ (λ (l : Polynomial) (m : List Entry). collected p (l ++ products_left p q g m)) all none ∙ ap (collected p) (append-nil a) ∙ collected_itself p n a i

-- of items with the coefficient c before them, those with the monomial m were added to it on the way
abbrev pub IsJoining : ℕ → ℕ → Monomial → ℕ → List Term → ℕ → List Term → Type 0
IsJoining p n m c all sum items = (sum < p) × IsRest p n [] items × All (λ u. IsAtMost m u.0) items × (collected p (term m c ∷ all) ≡ collected p (term m sum ∷ items)) × (length items ≤ length all)

module _ (p n : ℕ) (positive : 0 < p) where
  -- at first none was added
  pub joining_begins : (m : Monomial) (c : ℕ) (all : List Term) → c < p → IsRest p n [] all → All (λ u. IsAtMost m u.0) all → IsJoining p n m c all c all
  joining_begins m c all small r most = (small, r, most, refl, omega arith)

  -- one more joins
  pub joining_turn : (m : Monomial) (c : ℕ) (all : List Term) (s sum b : ℕ) (items others : List Term) → length m ≡ n → IsPermutation items (term m b ∷ others) → sum ≡ (s + b) % p → sum < p → IsJoining p n m c all s items → IsJoining p n m c all sum others
  joining_turn m c all s sum b items others long permuted is small (_, r, most, same, count) =
      let without = rest_without p n [] items others (term m b) permuted r in (
        small,
        without,
        All-tail (λ (x : Term). IsAtMost m x.0) (term m b) others (All-permutation (λ (x : Term). IsAtMost m x.0) items (term m b ∷ others) permuted most),
        same ∙ (joined_first p n positive m s b items others (long, lengths_of p n [] items r) (lengths_of p n [] others without) permuted ∙ ap (λ x. collected p (term m x ∷ others)) (sym is)),
        let shorter = length_permutation items (term m b ∷ others) permuted in omega arith,
      )

  module _ (terms later : Polynomial) (products others items : List Term) (m : Monomial) (c sum : ℕ) (takes : TakesGreatest p n terms products (term m c) later others) (rest : IsRest p n later others) (joined : collected p (term m c ∷ others) ≡ collected p (term m sum ∷ items)) (kept : IsRest p n [] items) where
    -- what was taken out and joined comes before what stays
    before_rest : sum_of_rest p terms products ≡ collected p (term m sum ∷ (later ++ items))
    before_rest = takes.sum ∙ changed_beside p n positive later others items (term m c) (term m sum) (HaveLength-from_IsPolynomial p n later rest.canonical) (takes.variables, EachMonomial-from_All (λ l. length l ≡ n) others rest.variables) (takes.variables, lengths_of p n [] items kept) joined

    -- where it cancels, nothing is lost
    pub cancels : sum ≡ 0 → sum_of_rest p terms products ≡ sum_of_rest p later items
    cancels none = before_rest ∙ first_vanishes p n positive m sum (later ++ items) (takes.variables, lengths_of p n later items (rest_beside p n [] later items rest.canonical kept)) none

    -- else it is the first term
    pub comes_first : sum ≢ 0 → sum < p → All (λ u. monomial_order u.0 m ≡ Less) items → sum_of_rest p terms products ≡ term m sum ∷ sum_of_rest p later items
    comes_first some small below =
        before_rest
        ∙ first_stays p n positive m sum (later ++ items) (takes.variables, lengths_of p n later items (rest_beside p n [] later items rest.canonical kept)) small
        (EachMonomial-append (IsBelow m) later items (all_below p n m later rest.canonical takes.below) (EachMonomial-from_All (IsBelow m) items below)) some

-- what was added is the product of the opposite term
pub products_added : (p n : ℕ) → IsPrime p → (terms q g : Polynomial) (t : Term) (before es : List Entry) (w v : List ℕ) → IsPolynomial p n terms → IsPolynomial p n (t ∷ []) → AreProducts p n q g before w → AreProducts p n (q ++ t ∷ []) g es v → IsPermutation (products_left p (q ++ t ∷ []) g es) (products_left p q g before ++ added_products p t g) → sum_of_rest p terms (products_left p (q ++ t ∷ []) g es) ≡ sum_of p (sum_of_rest p terms (products_left p q g before)) (product_of p (negative_of p (t ∷ [])) g)
products_added p n prime terms q g t before es w v i it are will moved =
    added_items p n positive (terms ++ old) (terms ++ new) (product_of p (negative_of p (t ∷ [])) g)
    (lengths_of p n terms old (rest_of p n positive terms q g before w i are))
    (lengths_of p n terms new (rest_of p n positive terms (q ++ t ∷ []) g es v i will))
    (IsPolynomial-product_of p n positive (negative_of p (t ∷ [])) g opposite are.divisor)
    (SameSums-trans p (terms ++ new) (terms ++ (old ++ more)) ((terms ++ old) ++ product_of p (negative_of p (t ∷ [])) g)
    (SameSums-append p terms new terms (old ++ more) (SameSums-refl p terms) (SameSums-sym p (old ++ more) new (SameSums-permutation p new (old ++ more) moved)))
    (SameSums-from_path p (terms ++ (old ++ more)) ((terms ++ old) ++ product_of p (negative_of p (t ∷ [])) g)
    (sym (append_assoc terms old more) ∙ ap (λ l. (terms ++ old) ++ l) (sym (product_of-term p n prime (opposite_term p t) g opposite are.divisor ∙ ap (λ x. map (reduced_product p x) g) (sym (opposite_residue p t it.1 it.2)))))))
  where
    positive : 0 < p
    positive = omega (arith, prime.many)

    old : List Term
    old = products_left p q g before

    new : List Term
    new = products_left p (q ++ t ∷ []) g es

    more : List Term
    more = added_products p t g

    opposite : IsPolynomial p n (negative_of p (t ∷ []))
    opposite = IsPolynomial-negative_of p n (t ∷ []) it

-- the same where there is memory
pub products_added_ok : {X E : Type 0} → (p n : ℕ) → IsPrime p → (terms q g : Polynomial) (t : Term) (before es : List Entry) (w v : List ℕ) (r : Result X E) → IsPolynomial p n terms → IsPolynomial p n (t ∷ []) → AreProducts p n q g before w → OnOk r (AreProducts p n (q ++ t ∷ []) g es v) → OnOk r (IsPermutation (products_left p (q ++ t ∷ []) g es) (products_left p q g before ++ added_products p t g)) → OnOk r (sum_of_rest p terms (products_left p (q ++ t ∷ []) g es) ≡ sum_of p (sum_of_rest p terms (products_left p q g before)) (product_of p (negative_of p (t ∷ [])) g))
products_added_ok p n prime terms q g t before es w v (Ok x) i it are will moved = products_added p n prime terms q g t before es w v i it are will moved
products_added_ok p n prime terms q g t before es w v (Err e) i it are will moved = tt

-- what a call says of the quotient that it was given, for that quotient
module _ (p : ℕ) (q d g : Polynomial) (same : d ≡ q) (terms later : Polynomial) (es ds : List Entry) where
  pub first_taken : (o : Option Term) (t : Term) → o ≡ Some t → IfSome o (λ t. sum_of_rest p terms (products_left p d g es) ≡ t ∷ sum_of_rest p later (products_left p d g ds)) → sum_of_rest p terms (products_left p q g es) ≡ t ∷ sum_of_rest p later (products_left p q g ds)
  first_taken o t is some = subst (λ (l : Polynomial). sum_of_rest p terms (products_left p l g es) ≡ t ∷ sum_of_rest p later (products_left p l g ds)) same (some_at (λ t. sum_of_rest p terms (products_left p d g es) ≡ t ∷ sum_of_rest p later (products_left p d g ds)) o t is some)

  pub nothing_left : (o : Option Term) → o ≡ None → IfNone o (sum_of_rest p terms (products_left p d g es) ≡ []) → sum_of_rest p terms (products_left p q g es) ≡ []
  nothing_left o is none = subst (λ (l : Polynomial). sum_of_rest p terms (products_left p l g es) ≡ []) same (none_at (sum_of_rest p terms (products_left p d g es) ≡ []) o is none)

  pub went_on : (t : Term) → sum_of_rest p later (products_left p (d ++ t ∷ []) g ds) ≡ sum_of p (sum_of_rest p terms (products_left p d g es)) (product_of p (negative_of p (t ∷ [])) g) → sum_of_rest p later (products_left p (q ++ t ∷ []) g ds) ≡ sum_of p (sum_of_rest p terms (products_left p q g es)) (product_of p (negative_of p (t ∷ [])) g)
  went_on t sum = subst (λ (l : Polynomial). sum_of_rest p later (products_left p (l ++ t ∷ []) g ds) ≡ sum_of p (sum_of_rest p terms (products_left p l g es)) (product_of p (negative_of p (t ∷ [])) g)) same sum
