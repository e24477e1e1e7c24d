-- Pairs of terms by the places of their products: how they are made, sorted and joined.
use Rattle.std.proofs.Common.{◌≡◌, ◌≢◌, ◌<◌, ◌≤◌, ◌+◌, ℕ, Bool, false, suc, List, [], ◌∷◌, ◌++◌, length, map, get_or, drop, ap, ap₂, sym, ◌∙◌, subst, inl, inr, append_assoc, arith}
use Rattle.std.specs.Prelude.{IsPermutation, IsSortedBy}
use Rattle.std.specs.Ordering.{nat_cmp, is_lt}
use Rattle.std.specs.Cmp.{IsStrictWeakOrder}
use Rattle.std.proofs.Math.Nat.{mod-lt}
use Rattle.std.proofs.lemmas.Bool.{cases_lt}
use Rattle.std.proofs.lemmas.Bool.Decides.{nat_tests}
use Rattle.std.proofs.lemmas.Cmp.{nat_cmp_total}
use Rattle.std.proofs.lemmas.Nat.{mul-le}
use Rattle.std.proofs.lemmas.List.{get_or-map, get_or_default, length-append, length-map, map-append}
use Rattle.std.proofs.lemmas.List.Elements.{All-tail}
use Rattle.std.proofs.lemmas.List.Sorted.{ranks_by, IsStrictWeakOrder-flip, sorted_far, IsPermutation-map}
use Rattle.polynomials.specs.Monomials.{exponent_of, monomial_product}
use Rattle.polynomials.specs.Polynomials.{Term, term, collected, product_of, term_product, term_products}
use Rattle.polynomials.specs.Views.{degree_in}
use Rattle.polynomials.proofs.Canonical.{IsPolynomial-collected, IsPolynomial-product_of}
use Rattle.polynomials.proofs.SamePolynomials.{SameSums, SameSums-trans, SameSums-sym, SameSums-refl, SameSums-from_path, SameSums-collected, same_from_sums}
use Rattle.polynomials.proofs.SameSumsLemmas.{SameSums-permutation, SameSums-reduced, SameSums-cons}
use Rattle.sparse_poly.specs.declared.keys.Pair.{Pair}
use Rattle.sparse_poly.specs.Boxes.{box_size, IsInside, place_of, placed, IsBoxOf}
use Rattle.sparse_poly.specs.Falling.{AreResidues, HaveVariables, IsFalling, AreAtMost, IsAtMost}
use Rattle.sparse_poly.specs.Keys.{term_at, pair_term, reduced_pair, IsPair, ArePairs, FallByPlace}
use Rattle.sparse_poly.proofs.FittingPairs.{PairsFit-append_left, PairsFit-append_right}
use Rattle.sparse_poly.proofs.Places.{IsPolynomial-item, drop_item}
use Rattle.sparse_poly.proofs.Products.{IsPolynomial-append_left, IsPolynomial-append_right}
use Rattle.sparse_poly.proofs.BoxPlaces.{IsAt, place_of-product, same_place, lower_place}
use Rattle.sparse_poly.proofs.BoxTurns.{exponent_at_most, product_at, product_within}
use Rattle.sparse_poly.proofs.JoinTurns.{Joining}

-- the item at a place of a list
pub term_at_is : (terms : List Term) (k : ℕ) (t : Term) → k < length terms → t ≡ get_or terms k t → t ≡ term_at terms k
term_at_is terms k t below at = at ∙ get_or_default terms k t (term [] 0) below

pub term_at_item : (terms : List Term) (k : ℕ) → k < length terms → term_at terms k ≡ get_or terms k (term_at terms k)
term_at_item terms k below = get_or_default terms k (term [] 0) (term_at terms k) below

-- the empty pair
abbrev pub no_pair : Pair
no_pair = record { place = 0; left = 0; right = 0 }

-- a comes before b where its place is greater
abbrev pub comes_before : Pair → Pair → Bool
comes_before a b = is_lt (nat_cmp b.place a.place)

-- it is an order on places
pub comes_before_order : IsStrictWeakOrder comes_before
comes_before_order = IsStrictWeakOrder-flip (λ a b. is_lt (nat_cmp a.place b.place)) (ranks_by nat_cmp_total (λ (a : Pair). a.place))

-- sorted pairs fall by their places
pub falling_pairs : (pairs : List Pair) → IsSortedBy comes_before pairs → FallByPlace pairs
falling_pairs pairs sorted j k d before within =
    not_below (get_or pairs j d).place (get_or pairs k d).place
    (sorted_far comes_before comes_before_order pairs sorted j k d (omega arith) within)
  where
    not_below : (a b : ℕ) → is_lt (nat_cmp a b) ≡ false → b ≤ a
    not_below a b tested = grind (arith, nat_tests)

module _ (p n : ℕ) (sides : List ℕ) (short long : List Term) (box : IsBoxOf p n sides short long) where
  -- the monomial of each term is in the box
  pub left_inside : (i : ℕ) → i < length short → IsInside sides (term_at short i).0
  left_inside i row v =
      let first = exponent_at_most v i short (term_at short i) row (term_at_item short i row) in
      let inside = box.inside v in
      omega arith

  right_inside : (j : ℕ) → j < length long → IsInside sides (term_at long j).0
  right_inside j column v =
      let second = exponent_at_most v j long (term_at long j) column (term_at_item long j column) in
      let inside = box.inside v in
      omega arith

  pub short_inside : (v : ℕ) → degree_in v short < get_or sides v 1
  short_inside v = let inside = box.inside v in omega arith

  pub long_inside : (v : ℕ) → degree_in v long < get_or sides v 1
  long_inside v = let inside = box.inside v in omega arith

  -- the product of two terms is in the box
  product_there : (i j : ℕ) → i < length short → j < length long → IsAt n sides (place_of sides (term_at short i).0 + place_of sides (term_at long j).0) (monomial_product (term_at short i).0 (term_at long j).0)
  product_there i j row column =
      product_at n sides (term_at short i).0 (term_at long j).0
      (IsPolynomial-item p n i short (term_at short i) box.left row (term_at_item short i row)).0
      (IsPolynomial-item p n j long (term_at long j) box.right column (term_at_item long j column)).0
      inside
    where
      inside : (v : ℕ) → exponent_of v (term_at short i).0 + exponent_of v (term_at long j).0 < get_or sides v 1
      inside v =
          let first = exponent_at_most v i short (term_at short i) row (term_at_item short i row) in
          let second = exponent_at_most v j long (term_at long j) column (term_at_item long j column) in
          let both = box.inside v in
          omega arith

  -- a place for each term of the second factor
  module _ (places : List (ℕ × ℕ)) (are : places ≡ map (placed sides) long) where
    pub places_count : length places ≡ length long
    places_count = ap length are ∙ length-map long (placed sides)

    pub place_item : (j : ℕ) → j < length long → (get_or places j (0, 0)).0 ≡ place_of sides (term_at long j).0
    place_item j column =
        ap (λ (q : ℕ × ℕ). q.0)
        (ap (λ (l : List (ℕ × ℕ)). get_or l j (0, 0)) are ∙ get_or-map (placed sides) long j (term [] 0) (0, 0) column)

    -- their sum with that of a term of the first is a place of the box
    pub places_room : (i j start : ℕ) → i < length short → j < length long → start ≡ place_of sides (term_at short i).0 → start + (get_or places j (0, 0)).0 < box_size sides
    places_room i j start row column begins =
        let there = product_within n sides (place_of sides (term_at short i).0 + place_of sides (term_at long j).0) (monomial_product (term_at short i).0 (term_at long j).0) (product_there i j row column) in
        omega (arith, place_item j column)

    abbrev pair_of : ℕ → ℕ → ℕ → Pair
    pair_of start i j = record { place = start + (get_or places j (0, 0)).0; left = i; right = j }

    -- a pair of a row
    pub row_pair : (i j start : ℕ) → i < length short → j < length long → start ≡ place_of sides (term_at short i).0 → IsPair sides short long (pair_of start i j)
    row_pair i j start row column begins = record {
      left = row;
      right = column;
      place =
          ap₂ ◌+◌ begins (place_item j column)
          ∙ sym (place_of-product sides (term_at short i).0 (term_at long j).0);
    }

  -- the product of a pair is at its place
  pub pair_there : (a : Pair) → IsPair sides short long a → IsAt n sides a.place (pair_term short long a).0
  pair_there a is =
      let there = product_there a.left a.right is.left is.right in
      record { variables = there.variables; inside = there.inside; place = sym is.place }

  -- pairs of one place have one monomial
  pub one_monomial : (a b : Pair) → IsPair sides short long a → IsPair sides short long b → a.place ≡ b.place → (pair_term short long a).0 ≡ (pair_term short long b).0
  one_monomial a b first second same =
      let here = pair_there a first in
      let there = pair_there b second in
      same_place sides (pair_term short long a).0 (pair_term short long b).0 (here.variables ∙ sym there.variables) here.inside there.inside (here.place ∙ same ∙ sym there.place)

  -- and pairs of two places two
  pub other_monomial : (a b : Pair) → IsPair sides short long a → IsPair sides short long b → a.place ≢ b.place → (pair_term short long a).0 ≢ (pair_term short long b).0
  other_monomial a b first second other same = other (first.place ∙ ap (place_of sides) same ∙ sym second.place)

  -- a pair whose place isn't greater has a monomial that isn't
  at_most : (a b : Pair) → IsPair sides short long a → IsPair sides short long b → b.place ≤ a.place → IsAtMost (pair_term short long a).0 (pair_term short long b).0
  at_most a b first second least =
      let here = pair_there a first in
      let there = pair_there b second in
      let high = here.place in
      let low = there.place in
      elim (cases_lt b.place a.place) [
        | inl less ↦ inl (lower_place sides (pair_term short long b).0 (pair_term short long a).0 (there.variables ∙ sym here.variables) there.inside here.inside (omega arith))
        | inr most ↦ inr (one_monomial b a second first (omega arith))
      ]

  each_at_most : (a : Pair) → IsPair sides short long a → (pairs : List Pair) → ArePairs sides short long pairs → ((k : ℕ) (d : Pair) → k < length pairs → (get_or pairs k d).place ≤ a.place) → AreAtMost (pair_term short long a).0 (map (reduced_pair p short long) pairs)
  each_at_most a is [] are least = tt
  each_at_most a is (b ∷ pairs) are least = (
    at_most a b is (are 0 b (omega arith)) (least 0 b (omega arith)),
    each_at_most a is pairs (All-tail (IsPair sides short long) b pairs are) (λ k d within. least (suc k) d (omega arith)),
  )

  -- pairs that fall by place are terms in falling order
  falling_terms : (pairs : List Pair) → ArePairs sides short long pairs → FallByPlace pairs → IsFalling (map (reduced_pair p short long) pairs)
  falling_terms [] are falls = tt
  falling_terms (a ∷ pairs) are falls = (
    each_at_most a (are 0 a (omega arith)) pairs (All-tail (IsPair sides short long) a pairs are) (λ k d within. falls 0 (suc k) d (omega arith) (omega arith)),
    falling_terms pairs (All-tail (IsPair sides short long) a pairs are) (λ j k d before within. falls (suc j) (suc k) d (omega arith) (omega arith)),
  )

  -- their coefficients are residues
  residues_of_pairs : 0 < p → (pairs : List Pair) → AreResidues p (map (reduced_pair p short long) pairs)
  residues_of_pairs positive [] = tt
  residues_of_pairs positive (a ∷ pairs) = (mod-lt (pair_term short long a).1 positive, residues_of_pairs positive pairs)

  -- and their monomials have n exponents
  pub variables_of_pairs : (pairs : List Pair) → ArePairs sides short long pairs → HaveVariables n (map (reduced_pair p short long) pairs)
  variables_of_pairs [] are = tt
  variables_of_pairs (a ∷ pairs) are =
      let there = pair_there a (are 0 a (omega arith)) in
      (there.variables, variables_of_pairs pairs (All-tail (IsPair sides short long) a pairs are))

  -- with the first pair open
  pub joining_start : 0 < p → (out : List Term) → out ≡ [] → (a : Pair) (rest pairs : List Pair) → pairs ≡ a ∷ rest → ArePairs sides short long pairs → FallByPlace pairs → (s : ℕ) → s ≡ (reduced_pair p short long a).1 → Joining p n (collected p (map (reduced_pair p short long) pairs)) out (pair_term short long a).0 s (map (reduced_pair p short long) rest)
  joining_start positive out none a rest pairs is are falls s sum =
      subst (λ (l : List Term). Joining p n (collected p (map (reduced_pair p short long) pairs)) l (pair_term short long a).0 s (map (reduced_pair p short long) rest)) (sym none)
      (subst (λ c. Joining p n (collected p (map (reduced_pair p short long) pairs)) [] (pair_term short long a).0 c (map (reduced_pair p short long) rest)) (sym sum) (
        residues_of_pairs positive (a ∷ rest),
        variables_of_pairs (a ∷ rest) (subst (ArePairs sides short long) is are),
        falling_terms (a ∷ rest) (subst (ArePairs sides short long) is are) (subst FallByPlace is falls),
        ap (λ (l : List Pair). collected p (map (reduced_pair p short long) l)) (sym is),
      ))

  -- reducing the coefficients keeps the sums
  reduced_sums : (pairs : List Pair) → SameSums p (map (reduced_pair p short long) pairs) (map (pair_term short long) pairs)
  reduced_sums [] = SameSums-refl p []
  reduced_sums (a ∷ pairs) =
      SameSums-trans p (map (reduced_pair p short long) (a ∷ pairs)) (pair_term short long a ∷ map (reduced_pair p short long) pairs) (map (pair_term short long) (a ∷ pairs))
      (SameSums-reduced p (pair_term short long a).0 (pair_term short long a).1 (map (reduced_pair p short long) pairs))
      (SameSums-cons p (pair_term short long a) (map (reduced_pair p short long) pairs) (map (pair_term short long) pairs) (reduced_sums pairs))

  -- all pairs in another order are collected to the product
  pub collected_pairs : 0 < p → (pairs sorted : List Pair) → IsPermutation pairs sorted → ArePairs sides short long sorted → map (pair_term short long) pairs ≡ term_products short long → collected p (map (reduced_pair p short long) sorted) ≡ product_of p short long
  collected_pairs positive pairs sorted permuted are all =
      same_from_sums p n (collected p (map (reduced_pair p short long) sorted)) (product_of p short long)
      (IsPolynomial-collected p n positive (map (reduced_pair p short long) sorted) (variables_of_pairs sorted are))
      (IsPolynomial-product_of p n positive short long box.left box.right)
      (SameSums-trans p (collected p (map (reduced_pair p short long) sorted)) (map (reduced_pair p short long) sorted) (product_of p short long)
      (SameSums-collected p (map (reduced_pair p short long) sorted))
      (SameSums-trans p (map (reduced_pair p short long) sorted) (map (pair_term short long) sorted) (product_of p short long) (reduced_sums sorted)
      (SameSums-trans p (map (pair_term short long) sorted) (map (pair_term short long) pairs) (product_of p short long)
      (SameSums-permutation p (map (pair_term short long) pairs) (map (pair_term short long) sorted) (IsPermutation-map (pair_term short long) pairs sorted permuted))
      (SameSums-trans p (map (pair_term short long) pairs) (term_products short long) (product_of p short long) (SameSums-from_path p (map (pair_term short long) pairs) (term_products short long) all)
      (SameSums-sym p (product_of p short long) (term_products short long) (SameSums-collected p (term_products short long)))))))

-- a pair more of a row
pub row_turn : (short long : List Term) (t : Term) (j : ℕ) (pairs : List Pair) (a : Pair) (whole : List Term) → j < length long → pair_term short long a ≡ term_product t (term_at long j) → map (pair_term short long) pairs ++ map (term_product t) (drop j long) ≡ whole → map (pair_term short long) (pairs ++ a ∷ []) ++ map (term_product t) (drop (j + 1) long) ≡ whole
row_turn short long t j pairs a whole column is so_far =
    ap (λ (l : List Term). l ++ map (term_product t) (drop (j + 1) long)) (map-append (pair_term short long) pairs (a ∷ []))
    ∙ append_assoc (map (pair_term short long) pairs) (pair_term short long a ∷ []) (map (term_product t) (drop (j + 1) long))
    ∙ ap (λ (u : Term). map (pair_term short long) pairs ++ u ∷ map (term_product t) (drop (j + 1) long)) is
    ∙ ap (λ (l : List Term). map (pair_term short long) pairs ++ map (term_product t) l) (sym (drop_item long j (term_at long j) column (term_at_item long j column)))
    ∙ so_far

-- a row more
pub rows_of_pairs_turn : (short long : List Term) (i : ℕ) (pairs more : List Pair) (whole : List Term) → i < length short → map (pair_term short long) more ≡ map (pair_term short long) pairs ++ map (term_product (term_at short i)) long → map (pair_term short long) pairs ++ term_products (drop i short) long ≡ whole → map (pair_term short long) more ++ term_products (drop (i + 1) short) long ≡ whole
rows_of_pairs_turn short long i pairs more whole row made so_far =
    ap (λ (l : List Term). l ++ term_products (drop (i + 1) short) long) made
    ∙ append_assoc (map (pair_term short long) pairs) (map (term_product (term_at short i)) long) (term_products (drop (i + 1) short) long)
    ∙ ap (λ (l : List Term). map (pair_term short long) pairs ++ term_products l long) (sym (drop_item short i (term_at short i) row (term_at_item short i row)))
    ∙ so_far

-- the degree in a part
pub degree_in-append_left : (v : ℕ) (f g : List Term) → degree_in v f ≤ degree_in v (f ++ g)
degree_in-append_left v [] g = omega arith
degree_in-append_left v (t ∷ f) g = let later = degree_in-append_left v f g in omega arith

pub degree_in-append_right : (v : ℕ) (f g : List Term) → degree_in v g ≤ degree_in v (f ++ g)
degree_in-append_right v [] g = omega arith
degree_in-append_right v (t ∷ f) g = let later = degree_in-append_right v f g in omega arith

-- the box holds the products of each part of the first factor
pub box_of_left : (p n : ℕ) (sides : List ℕ) (f g long : List Term) → 0 < length f → IsBoxOf p n sides (f ++ g) long → IsBoxOf p n sides f long
box_of_left p n sides f g long some box = record {
  left = IsPolynomial-append_left p n f g box.left;
  right = box.right;
  left_some = some;
  right_some = box.right_some;
  fit = PairsFit-append_left f g long box.fit;
  inside = λ v. let inside = box.inside v in omega (arith, degree_in-append_left v f g);
  narrow = box.narrow;
  variables = box.variables;
  size = box.size;
  pairs = let all = box.pairs in omega (arith, mul-le (length f) (length long) (length (f ++ g)) (length long) (omega (arith, length-append f g)) (omega arith));
}

pub box_of_right : (p n : ℕ) (sides : List ℕ) (f g long : List Term) → 0 < length g → IsBoxOf p n sides (f ++ g) long → IsBoxOf p n sides g long
box_of_right p n sides f g long some box = record {
  left = IsPolynomial-append_right p n f g box.left;
  right = box.right;
  left_some = some;
  right_some = box.right_some;
  fit = PairsFit-append_right f g long box.fit;
  inside = λ v. let inside = box.inside v in omega (arith, degree_in-append_right v f g);
  narrow = box.narrow;
  variables = box.variables;
  size = box.size;
  pairs = let all = box.pairs in omega (arith, mul-le (length g) (length long) (length (f ++ g)) (length long) (omega (arith, length-append f g)) (omega arith));
}
