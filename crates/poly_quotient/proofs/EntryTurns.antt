-- A product is taken from an entry, and a term is added to the quotient.
use Rattle.std.proofs.Common.{◌≡◌, ℕ, ◌+◌, ◌-◌, ◌*◌, ◌%◌, ◌^◌, ◌<◌, ◌≤◌, length, List, [], ◌∷◌, ◌++◌, map, drop, get_or, take, Option, Some, None, option_to_list, All, IsPermutation, append_assoc, append-nil, length-append, refl, sym, ap, ap₂, ◌∙◌, subst, arith}
use Rattle.std.proofs.lemmas.List.{drop_all, drop_at, drop-append-le, get_or_append_left, get_or_at, map-append, take_all, take_more}
use Rattle.std.proofs.lemmas.List.Elements.{All-nil, All-cons, All-head, All-tail, All-append, All-weaker}
use Rattle.std.proofs.lemmas.List.Sorted.{All-permutation, IsPermutation-refl, IsPermutation-sym, IsPermutation-trans, IsPermutation-cons, IsPermutation-map, IsPermutation-append_left, IsPermutation-append_right, IsPermutation-to_front, IsPermutation-middle}
use Rattle.polynomials.specs.Monomials.{Monomial, monomial_product}
use Rattle.polynomials.specs.Polynomials.{Term, term, Polynomial, IsPolynomial}
use Rattle.sparse_poly.specs.Pairs.{FitsEach, PairsFit}
use Rattle.sparse_poly.specs.Keys.{term_at}
use Rattle.poly_quotient.specs.Rests.{Entry, opposite_product, entry_products, products_left, added_products, IsEntry, AreProducts}
use Rattle.poly_quotient.proofs.FlatPermutations.{flat_permutation}
use Rattle.poly_quotient.proofs.EntryOrders.{one_first}
use Rattle.poly_quotient.proofs.EntryProducts.{drop_term}

-- the terms of entries
abbrev pub entry_terms : Polynomial → List Entry → List Term
entry_terms g es = map (λ e. term_at g e.2) es

-- one more term fits with each of g
pub PairsFit-push : (q g : List Term) (t : Term) → PairsFit q g → FitsEach t.0 g → PairsFit (q ++ t ∷ []) g
PairsFit-push [] g t h k = (k, tt)
PairsFit-push (s ∷ q) g t h k = (h.0, PairsFit-push q g t h.1 k)

-- entries in another order
pub entries_moved : (p n : ℕ) (q g : Polynomial) (es ds : List Entry) (w : List ℕ) → IsPermutation es ds → AreProducts p n q g es w → AreProducts p n q g ds w
entries_moved p n q g es ds w moved are = record {
  quotient = are.quotient;
  divisor = are.divisor;
  fit = are.fit;
  few = are.few;
  entries = All-permutation (IsEntry q g) es ds moved are.entries;
  places = are.places;
  each = IsPermutation-trans _ _ _ (IsPermutation-append_left (map (term_at g) w) _ _ (IsPermutation-sym _ _ (IsPermutation-map (λ (e : Entry). term_at g e.2) es ds moved))) are.each;
}

module _ (p n : ℕ) (q g : Polynomial) where
  -- stand for the same products
  pub products_moved : (es ds : List Entry) → IsPermutation es ds → IsPermutation (products_left p q g es) (products_left p q g ds)
  products_moved es ds moved = flat_permutation (entry_products p q g) es ds moved

  module _ (e : Entry) (es : List Entry) (w : List ℕ) (are : AreProducts p n q g (e ∷ es) w) where
    pub entry_is : IsEntry q g e
    entry_is = All-head (IsEntry q g) e es are.entries

    -- the first product of an entry
    module _ (s u : Term) (c d : ℕ) (left : s ≡ term_at q e.1) (right : u ≡ term_at g e.2) (negative : d ≡ (p - s.1) % p) (product : c ≡ d * u.1 % p) where
      first_is : opposite_product p (term_at g e.2) (term_at q e.1) ≡ term e.0 c
      first_is = ap₂ term (sym entry_is.2) (ap₂ (λ (x : ℕ) (y : ℕ). x * y % p) (ap (λ (x : Term). (p - x.1) % p) (sym left) ∙ sym negative) (ap (λ (x : Term). x.1) (sym right)) ∙ sym product)

      comes_first : entry_products p q g e ≡ term e.0 c ∷ map (opposite_product p (term_at g e.2)) (drop (e.1 + 1) q)
      comes_first = ap (map (opposite_product p (term_at g e.2))) (drop_term q e.1 entry_is.0) ∙ ap (λ x. x ∷ map (opposite_product p (term_at g e.2)) (drop (e.1 + 1) q)) first_is

      -- is taken, and the next one goes into the heap
      pub first_before_next : (m : Monomial) (ds : List Entry) → IsPermutation ((m, e.1 + 1, e.2) ∷ es) ds → IsPermutation (products_left p q g (e ∷ es)) (term e.0 c ∷ products_left p q g ds)
      first_before_next m ds moved = subst (λ l. IsPermutation (l ++ products_left p q g es) (term e.0 c ∷ products_left p q g ds)) (sym comes_first) (IsPermutation-cons (term e.0 c) _ _ (products_moved ((m, e.1 + 1, e.2) ∷ es) ds moved))

      -- is taken, and was the last
      pub first_is_last : length q ≤ e.1 + 1 → IsPermutation (products_left p q g (e ∷ es)) (term e.0 c ∷ products_left p q g es)
      first_is_last end = subst (λ l. IsPermutation (l ++ products_left p q g es) (term e.0 c ∷ products_left p q g es)) (sym (comes_first ∙ ap (λ l. term e.0 c ∷ map (opposite_product p (term_at g e.2)) l) (drop_all (e.1 + 1) q end))) (IsPermutation-refl _)

    -- the next entry in place of one
    pub next_entry : (s u : Term) (m : Monomial) (ds : List Entry) → e.1 + 1 < length q → s ≡ term_at q (e.1 + 1) → u ≡ term_at g e.2 → m ≡ monomial_product s.0 u.0 → IsPermutation ((m, e.1 + 1, e.2) ∷ es) ds → AreProducts p n q g ds w
    next_entry s u m ds below left right product moved = entries_moved p n q g ((m, e.1 + 1, e.2) ∷ es) ds w moved (record {
      quotient = are.quotient;
      divisor = are.divisor;
      fit = are.fit;
      few = are.few;
      entries = All-cons (IsEntry q g) (m, e.1 + 1, e.2) es (below, entry_is.1, product ∙ ap₂ (λ (x : Term) (y : Term). monomial_product x.0 y.0) left right) (All-tail (IsEntry q g) e es are.entries);
      places = are.places;
      each = are.each;
    })

    -- or its term waits
    pub term_waits : (v : List ℕ) → v ≡ w ++ e.2 ∷ [] → AreProducts p n q g es v
    term_waits v is = subst (AreProducts p n q g es) (sym is) (record {
      quotient = are.quotient;
      divisor = are.divisor;
      fit = are.fit;
      few = are.few;
      entries = All-tail (IsEntry q g) e es are.entries;
      places = All-append (λ (j : ℕ). j < length g) w (e.2 ∷ []) are.places (All-cons (λ (j : ℕ). j < length g) e.2 [] entry_is.1 (All-nil (λ (j : ℕ). j < length g)));
      each = IsPermutation-trans _ _ _ (subst (λ l. IsPermutation l (entry_terms g (e ∷ es) ++ map (term_at g) w)) (append_assoc (entry_terms g es) (map (term_at g) w) (term_at g e.2 ∷ []) ∙ ap (λ l. entry_terms g es ++ l) (sym (map-append (term_at g) w (e.2 ∷ [])))) (IsPermutation-to_front (entry_terms g es ++ map (term_at g) w) (term_at g e.2))) are.each;
    })

  -- the entry that was popped has the monomial of the one at the first place
  pub taken_at : (es others ds : List Entry) (m : Monomial) (e d : Entry) (c : ℕ) → 0 < length es → e ≡ get_or es 0 e → d ≡ get_or es 0 d → d.0 ≡ m → IsPermutation es (e ∷ others) → IsPermutation (products_left p q g (e ∷ others)) (term e.0 c ∷ products_left p q g ds) → IsPermutation (products_left p q g es) (term m c ∷ products_left p q g ds)
  taken_at es others ds m e d c some at_e at_d has moved first =
      IsPermutation-trans _ _ _ (products_moved es (e ∷ others) moved)
      (subst (λ (l : Monomial). IsPermutation (products_left p q g (e ∷ others)) (term l c ∷ products_left p q g ds)) (ap (λ (x : Entry). x.0) (one_first es e d some at_e at_d) ∙ has) first)

  -- at first each term waits
  pub all_wait : (es : List Entry) (w : List ℕ) → IsPolynomial p n q → IsPolynomial p n g → PairsFit q g → length q < 2 ^ 32 → es ≡ [] → All (λ j. j < length g) w → map (term_at g) w ≡ g → AreProducts p n q g es w
  all_wait es w i j fit few none places same = subst (λ l. AreProducts p n q g l w) (sym none) (record {
    quotient = i;
    divisor = j;
    fit = fit;
    few = few;
    entries = All-nil (IsEntry q g);
    places = places;
    each = subst (λ l. IsPermutation l g) (sym same) (IsPermutation-refl g);
  })

  module _ (t : Term) where
    abbrev longer : Polynomial
    longer = q ++ t ∷ []

    still_entry : (e : Entry) → IsEntry q g e → IsEntry longer g e
    still_entry e is = (let long = length-append q (t ∷ []) in let below = is.0 in omega arith, is.1, is.2 ∙ ap (λ (x : Term). monomial_product x.0 (term_at g e.2).0) (sym (get_or_append_left q (t ∷ []) (term [] 0) e.1 is.0)))

    -- the entries beside one more term
    pub entries_longer : (es : List Entry) (w : List ℕ) → IsPolynomial p n longer → FitsEach t.0 g → length q + 1 < 2 ^ 32 → AreProducts p n q g es w → AreProducts p n longer g es w
    entries_longer es w next fit few are = record {
      quotient = next;
      divisor = are.divisor;
      fit = PairsFit-push q g t are.fit fit;
      few = let long = length-append q (t ∷ []) in omega arith;
      entries = All-weaker (IsEntry q g) (IsEntry longer g) still_entry es are.entries;
      places = are.places;
      each = are.each;
    }

    -- an entry's products with it
    entry_longer : (e : Entry) → IsEntry q g e → entry_products p longer g e ≡ entry_products p q g e ++ opposite_product p (term_at g e.2) t ∷ []
    entry_longer e is = ap (map (opposite_product p (term_at g e.2))) (drop-append-le e.1 q (t ∷ []) (let below = is.0 in omega arith)) ∙ map-append (opposite_product p (term_at g e.2)) (drop e.1 q) (t ∷ [])

    -- and those of all
    pub products_longer : (es : List Entry) → All (IsEntry q g) es → IsPermutation (products_left p longer g es) (products_left p q g es ++ added_products p t (entry_terms g es))
    products_longer [] are = IsPermutation-refl []
    products_longer (e ∷ es) are =
        let x = opposite_product p (term_at g e.2) t in
        let s = entry_products p q g e in
        let l = products_left p q g es in
        let more = added_products p t (entry_terms g es) in
        let k = products_left p longer g es in
        let rest : IsPermutation (x ∷ k) (l ++ x ∷ more) = IsPermutation-trans _ _ _ (IsPermutation-cons x k (l ++ more) (products_longer es (All-tail (IsEntry q g) e es are))) (IsPermutation-sym _ _ (IsPermutation-middle l x more)) in
        subst (λ y. IsPermutation y ((s ++ l) ++ x ∷ more)) (sym (ap (λ y. y ++ k) (entry_longer e (All-head (IsEntry q g) e es are)) ∙ append_assoc s (x ∷ []) k))
        (subst (IsPermutation (s ++ x ∷ k)) (sym (append_assoc s l (x ∷ more))) (IsPermutation-append_right s (x ∷ k) (l ++ x ∷ more) rest))

    -- of terms that wait, those that are still to go on
    abbrev pub IsGoingOn : List Entry → List Entry → List ℕ → Type 0
    IsGoingOn before es w = AreProducts p n longer g es w × IsPermutation (products_left p longer g es ++ added_products p t (map (term_at g) w)) (products_left p q g before ++ added_products p t g)

    -- at first all of them
    pub going_on : (es : List Entry) (w : List ℕ) → IsPolynomial p n longer → FitsEach t.0 g → length q + 1 < 2 ^ 32 → AreProducts p n q g es w → IsGoingOn es es w
    going_on es w next fit few are = (
      entries_longer es w next fit few are,
      IsPermutation-trans _ _ _ (IsPermutation-append_left (added_products p t (map (term_at g) w)) _ _ (products_longer es are.entries))
          (subst (λ l. IsPermutation l (products_left p q g es ++ added_products p t g)) (ap (λ l. products_left p q g es ++ l) (map-append (λ (u : Term). opposite_product p u t) (entry_terms g es) (map (term_at g) w)) ∙ sym (append_assoc (products_left p q g es) (added_products p t (entry_terms g es)) (added_products p t (map (term_at g) w))))
          (IsPermutation-append_right (products_left p q g es) _ _ (IsPermutation-map (λ (u : Term). opposite_product p u t) _ _ are.each))),
    )

    module _ (before es : List Entry) (w v : List ℕ) (j : ℕ) (last : w ≡ v ++ j ∷ []) (on : IsGoingOn before es w) where
      -- the last that waits is one of the terms
      pub last_place : j < length g
      last_place =
          let long = ap length last ∙ length-append v (j ∷ []) in
          subst (λ (k : ℕ). k < length g) (ap (λ (l : List ℕ). get_or l (length v) j) last ∙ get_or_at v j [] j (length v) refl) (on.0.places (length v) j (omega arith))

      -- it goes on
      pub goes_on : (ds : List Entry) (i : ℕ) (u : Term) (m : Monomial) → i ≡ length q → u ≡ term_at g j → m ≡ monomial_product t.0 u.0 → IsPermutation ((m, i, j) ∷ es) ds → IsGoingOn before ds v
      goes_on ds i u m at right product moved = (
        entries_moved p n longer g ((m, i, j) ∷ es) ds v moved (record {
          quotient = on.0.quotient;
          divisor = on.0.divisor;
          fit = on.0.fit;
          few = on.0.few;
          entries = All-cons (IsEntry longer g) (m, i, j) es (let long = length-append q (t ∷ []) in omega arith, last_place, product ∙ ap₂ (λ (x : Term) (y : Term). monomial_product x.0 y.0) (sym (get_or_at q t [] (term [] 0) i (sym at))) right) on.0.entries;
          places = λ k d below. subst (λ (x : ℕ). x < length g) (ap (λ (l : List ℕ). get_or l k d) last ∙ get_or_append_left v (j ∷ []) d k below) (on.0.places k d (let long = ap length last ∙ length-append v (j ∷ []) in omega arith));
          each = IsPermutation-trans _ _ _ (IsPermutation-sym _ _ (IsPermutation-to_front (entry_terms g es ++ map (term_at g) v) (term_at g j)))
              (subst (λ l. IsPermutation l g) (ap (λ l. entry_terms g es ++ map (term_at g) l) last ∙ ap (λ l. entry_terms g es ++ l) (map-append (term_at g) v (j ∷ [])) ∙ sym (append_assoc (entry_terms g es) (map (term_at g) v) (term_at g j ∷ []))) on.0.each);
        }),
        IsPermutation-trans _ _ _ (IsPermutation-append_left (added_products p t (map (term_at g) v)) _ _ (IsPermutation-sym _ _ (flat_permutation (entry_products p longer g) ((m, i, j) ∷ es) ds moved)))
            (IsPermutation-trans _ _ _ one_more on.1),
      )
        where
          x : Term
          x = opposite_product p (term_at g j) t

          l : List Term
          l = products_left p longer g es

          alone : entry_products p longer g (m, i, j) ≡ x ∷ []
          alone = ap (map (opposite_product p (term_at g j))) (drop_at q (t ∷ []) i (sym at))

          one_more : IsPermutation ((entry_products p longer g (m, i, j) ++ l) ++ added_products p t (map (term_at g) v)) (l ++ added_products p t (map (term_at g) w))
          one_more =
              subst (λ y. IsPermutation ((y ++ l) ++ added_products p t (map (term_at g) v)) (l ++ added_products p t (map (term_at g) w))) (sym alone)
              (subst (IsPermutation (x ∷ (l ++ added_products p t (map (term_at g) v))))
              (append_assoc l (added_products p t (map (term_at g) v)) (x ∷ []) ∙ ap (λ y. l ++ y) (sym (map-append (λ (u : Term). opposite_product p u t) (map (term_at g) v) (term_at g j ∷ [])) ∙ ap (added_products p t) (sym (map-append (term_at g) v (j ∷ [])) ∙ ap (map (term_at g)) (sym last))))
              (IsPermutation-sym _ _ (IsPermutation-to_front (l ++ added_products p t (map (term_at g) v)) x)))

-- what is popped was the last
pub pop_is : (w v : List ℕ) (r : Option ℕ) (j : ℕ) → r ≡ Some j → w ≡ v ++ option_to_list r → w ≡ v ++ j ∷ []
pop_is w v r j is items = items ∙ ap (λ o. v ++ option_to_list o) is

-- where nothing waits, nothing is popped
pub none_left : (p n : ℕ) (q g : Polynomial) (t : Term) (before es : List Entry) (w v : List ℕ) (r : Option ℕ) → r ≡ None → w ≡ v ++ option_to_list r → IsGoingOn p n q g t before es w → AreProducts p n (q ++ t ∷ []) g es v
none_left p n q g t before es w v r is items on = subst (AreProducts p n (q ++ t ∷ []) g es) (items ∙ ap (λ o. v ++ option_to_list o) is ∙ append-nil v) on.0

-- and all products are added
pub none_waits : (p n : ℕ) (q g : Polynomial) (t : Term) (before es : List Entry) (w : List ℕ) → length w ≡ 0 → IsGoingOn p n q g t before es w → IsPermutation (products_left p (q ++ t ∷ []) g es) (products_left p q g before ++ added_products p t g)
none_waits p n q g t before es [] none on = subst (λ l. IsPermutation l (products_left p q g before ++ added_products p t g)) (append-nil (products_left p (q ++ t ∷ []) g es)) on.1
none_waits p n q g t before es (j ∷ w) none on = absurd (omega arith)

-- the first places are those of the first terms
pub wait_none : (g : Polynomial) (w : List ℕ) → w ≡ [] → All (λ j. j < length g) w × (map (term_at g) w ≡ [])
wait_none g w none = (subst (All (λ (j : ℕ). j < length g)) (sym none) (All-nil (λ (j : ℕ). j < length g)), ap (map (term_at g)) none)

pub wait_more : (g : Polynomial) (w v : List ℕ) (j : ℕ) → j < length g → v ≡ w ++ j ∷ [] → All (λ j. j < length g) w × (map (term_at g) w ≡ take j g) → All (λ j. j < length g) v × (map (term_at g) v ≡ take (j + 1) g)
wait_more g w v j below is before = (
  subst (All (λ (j : ℕ). j < length g)) (sym is) (All-append (λ (j : ℕ). j < length g) w (j ∷ []) before.0 (All-cons (λ (j : ℕ). j < length g) j [] below (All-nil (λ (j : ℕ). j < length g)))),
  ap (map (term_at g)) is ∙ map-append (term_at g) w (j ∷ []) ∙ ap (λ l. l ++ term_at g j ∷ []) before.1 ∙ sym (take_more g j (term [] 0) below),
)

pub wait_all : (g : Polynomial) (w : List ℕ) (j : ℕ) → length g ≤ j → map (term_at g) w ≡ take j g → map (term_at g) w ≡ g
wait_all g w j end same = same ∙ take_all j g end
