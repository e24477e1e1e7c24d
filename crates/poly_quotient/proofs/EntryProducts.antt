-- What the entries of a heap stand for: their monomials, and the products from a place on.
use Rattle.std.proofs.Common.{◌≡◌, ℕ, ◌+◌, ◌<◌, length, List, [], ◌∷◌, ◌++◌, map, drop, get_or, All, refl, sym, ◌∙◌, subst, inl, inr}
use Rattle.std.proofs.Math.Nat.{mod-lt}
use Rattle.std.specs.declared.cmp.Ordering.TheVariants.{Less}
use Rattle.std.proofs.lemmas.List.{drop_more, get_or_read}
use Rattle.std.proofs.lemmas.List.Elements.{All-nil, All-cons, All-head, All-tail, All-append, All-map}
use Rattle.polynomials.specs.Monomials.{Monomial, monomial_order, monomial_product}
use Rattle.polynomials.specs.MonomialOrders.{length-monomial_product}
use Rattle.polynomials.specs.Polynomials.{Term, term, Polynomial, IsPolynomial}
use Rattle.polynomials.proofs.Monomialwise.{EachMonomial, EachMonomial-append, EachMonomial-implied, HaveLength}
use Rattle.sparse_poly.specs.Falling.{IsAtMost}
use Rattle.sparse_poly.proofs.Places.{IsPolynomial-drop}
use Rattle.sparse_poly.proofs.Sums.{IsBelow, all_below}
use Rattle.sparse_poly.specs.Keys.{term_at}
use Rattle.poly_quotient.specs.Rests.{Entry, opposite_product, entry_products, products_left, IsEntry, AreProducts}
use Rattle.poly_quotient.proofs.BegunDivisions.{order_of_multiples}
use Rattle.poly_quotient.proofs.RestSums.{EachMonomial-from_All}
use Rattle.poly_quotient.proofs.EntryOrders.{at_most_trans, below_trans}

-- what is read at a place is the term there
pub read_term : (f : List Term) (k : ℕ) (t : Term) → k < length f → t ≡ get_or f k t → t ≡ term_at f k
read_term f k t below at = get_or_read f k t below at (term [] 0)

-- from a place on, the term there comes first
pub drop_term : (f : List Term) (k : ℕ) → k < length f → drop k f ≡ term_at f k ∷ drop (k + 1) f
drop_term f k below = drop_more f k (term [] 0) below

-- what holds of each monomial holds of each term's, and the other way round
pub All-from_EachMonomial : (P : Monomial → Type 0) (ts : List Term) → EachMonomial P ts → All (λ t. P t.0) ts
All-from_EachMonomial P [] h = All-nil (λ (t : Term). P t.0)
All-from_EachMonomial P (t ∷ ts) h = All-cons (λ (x : Term). P x.0) t ts h.0 (All-from_EachMonomial P ts h.1)

later_monomials : (P : Monomial → Type 0) (f g : List Term) → EachMonomial P (f ++ g) → EachMonomial P g
later_monomials P [] g h = h
later_monomials P (t ∷ f) g h = later_monomials P f g h.1

module _ (p n : ℕ) where
  -- a term at a place of a polynomial comes before those after it
  pub canonical_from : (f : Polynomial) (k : ℕ) → k < length f → IsPolynomial p n f → IsPolynomial p n (term_at f k ∷ drop (k + 1) f)
  canonical_from f k below i = subst (IsPolynomial p n) (drop_term f k below) (IsPolynomial-drop p n k f i)

  -- multiples of what is below a monomial are at most its multiple
  multiples_at_most : (m : Monomial) (u : Term) (f : Polynomial) → length m ≡ n → IsPolynomial p n f → EachMonomial (IsBelow m) f → EachMonomial (IsAtMost (monomial_product m u.0)) (map (opposite_product p u) f)
  multiples_at_most m u [] long i h = tt
  multiples_at_most m u (t ∷ f) long i h = (inl (order_of_multiples u.0 t.0 m (i.0 ∙ sym long) ∙ h.0), multiples_at_most m u f long i.4 h.1)

  multiples_long : (u : Term) (f : Polynomial) → length u.0 ≡ n → IsPolynomial p n f → HaveLength n (map (opposite_product p u) f)
  multiples_long u [] long i = tt
  multiples_long u (t ∷ f) long i = (length-monomial_product n t.0 u.0 i.0 long, multiples_long u f long i.4)

  module _ (q g : Polynomial) (i : IsPolynomial p n q) where
    -- no product of an entry is greater than its monomial
    entry_at_most : (e : Entry) → IsEntry q g e → EachMonomial (IsAtMost e.0) (entry_products p q g e)
    entry_at_most e is =
        let t = term_at q e.1 in
        let u = term_at g e.2 in
        let from = canonical_from q e.1 is.0 i in
        subst (λ m. EachMonomial (IsAtMost m) (entry_products p q g e)) (sym is.2)
        (subst (λ l. EachMonomial (IsAtMost (monomial_product t.0 u.0)) (map (opposite_product p u) l)) (sym (drop_term q e.1 is.0))
        (inr refl, multiples_at_most t.0 u (drop (e.1 + 1) q) from.0 from.4 (all_below p n t.0 (drop (e.1 + 1) q) from.4 from.3)))

    -- what holds of the entries' monomials and below them holds of all products
    pub products_each : (P : Monomial → Type 0) → ((l k : Monomial) → P l → IsAtMost l k → P k) → (es : List Entry) → All (IsEntry q g) es → All (λ e. P e.0) es → EachMonomial P (products_left p q g es)
    products_each P down [] are all = tt
    products_each P down (e ∷ es) are all =
        EachMonomial-append P (entry_products p q g e) (products_left p q g es)
        (EachMonomial-implied (IsAtMost e.0) P (λ k below. down e.0 k (All-head (λ (x : Entry). P x.0) e es all) below) (entry_products p q g e) (entry_at_most e (All-head (IsEntry q g) e es are)))
        (products_each P down es (All-tail (IsEntry q g) e es are) (All-tail (λ (x : Entry). P x.0) e es all))

    -- and what holds of all products holds of the entries' monomials
    pub entries_each : (P : Monomial → Type 0) (es : List Entry) → All (IsEntry q g) es → EachMonomial P (products_left p q g es) → All (λ e. P e.0) es
    entries_each P [] are all = All-nil (λ (x : Entry). P x.0)
    entries_each P (e ∷ es) are all =
        let is = All-head (IsEntry q g) e es are in
        let first = subst (λ l. EachMonomial P (map (opposite_product p (term_at g e.2)) l ++ products_left p q g es)) (drop_term q e.1 is.0) all in
        All-cons (λ (x : Entry). P x.0) e es (subst P (sym is.2) first.0)
        (entries_each P es (All-tail (IsEntry q g) e es are) (later_monomials P (entry_products p q g e) (products_left p q g es) all))

    -- the products have n exponents
    pub products_long : (es : List Entry) → IsPolynomial p n g → All (IsEntry q g) es → HaveLength n (products_left p q g es)
    products_long [] j are = tt
    products_long (e ∷ es) j are =
        let is = All-head (IsEntry q g) e es are in
        EachMonomial-append (λ m. length m ≡ n) (entry_products p q g e) (products_left p q g es)
        (multiples_long (term_at g e.2) (drop e.1 q) (canonical_from g e.2 is.1 j).0 (IsPolynomial-drop p n e.1 q i))
        (products_long es j (All-tail (IsEntry q g) e es are))

-- and residues as coefficients
pub products_small : (p : ℕ) → 0 < p → (q g : Polynomial) (es : List Entry) → All (λ t. t.1 < p) (products_left p q g es)
products_small p positive q g [] = All-nil (λ (t : Term). t.1 < p)
products_small p positive q g (e ∷ es) =
    All-append (λ (t : Term). t.1 < p) (entry_products p q g e) (products_left p q g es)
    (All-map (λ (t : Term). t.1 < p) (opposite_product p (term_at g e.2)) (drop e.1 q) (λ k d below. mod-lt _ positive))
    (products_small p positive q g es)

module _ (p n : ℕ) (q g : Polynomial) (es : List Entry) (w : List ℕ) (are : AreProducts p n q g es w) where
  -- where no entry is greater than m, no product is
  pub products_at_most : (m : Monomial) → All (λ e. IsAtMost m e.0) es → All (λ u. IsAtMost m u.0) (products_left p q g es)
  products_at_most m all = All-from_EachMonomial (IsAtMost m) (products_left p q g es) (products_each p n q g are.quotient (IsAtMost m) (λ l k h i. at_most_trans m l k h i) es are.entries all)

  -- where each entry is below m, each product is
  pub products_below : (m : Monomial) → All (λ e. monomial_order e.0 m ≡ Less) es → All (λ u. monomial_order u.0 m ≡ Less) (products_left p q g es)
  products_below m all = All-from_EachMonomial (IsBelow m) (products_left p q g es) (products_each p n q g are.quotient (IsBelow m) (λ l k h i. below_trans m l k h i) es are.entries all)

  -- where no product is greater than m, no entry is
  pub entries_at_most : (m : Monomial) → All (λ u. IsAtMost m u.0) (products_left p q g es) → All (λ e. IsAtMost m e.0) es
  entries_at_most m all = entries_each p n q g are.quotient (IsAtMost m) es are.entries (EachMonomial-from_All (IsAtMost m) (products_left p q g es) all)
