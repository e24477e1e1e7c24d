-- The last term of a product is the product of the last terms.
use Rattle.std.proofs.Common.{◌≡◌, ◌⊎◌, ◌≢◌, ℕ, zero, suc, ◌+◌, ◌*◌, ◌%◌, List, [], ◌∷◌, ◌++◌, map, length, get_or, refl, sym, ap, ap₂, ◌∙◌, subst, inl, inr, arith}
use Rattle.std.proofs.lemmas.List.{append_assoc, append-nil, map-append, get_or_push, length_push}
use Rattle.std.specs.Ordering.{ordering_reverse}
use Rattle.std.specs.declared.cmp.Ordering.{Ordering}
use Rattle.std.specs.declared.cmp.Ordering.TheVariants.{Less, Equal, Greater}
use Rattle.polynomials.specs.Primes.{IsPrime}
use Rattle.polynomials.specs.Monomials.{Monomial, exponent_of, monomial_order, monomial_product, MonomialDivides}
use Rattle.polynomials.specs.MonomialOrders.{monomial_order-reverse, monomial_order_trans, monomial_order-product, monomial_product_comm}
use Rattle.polynomials.specs.Polynomials.{Term, term, Polynomial, IsPolynomial, with_first, added_beside, with_term, collected, product_of, term_product, term_products}
use Rattle.polynomials.proofs.Monomialwise.{EachMonomial, EachMonomial-append, EachMonomial-append_left, EachMonomial-append_right, EachMonomial-term_products, EachMonomial-both, EachMonomial-implied, HaveLength-from_IsPolynomial}
use Rattle.polynomials.proofs.Exponents.{exponent_of-product}
use Rattle.polynomials.proofs.FirstTerms.{AreBelow-from_StartsBelow, with_first_nonzero, first_coefficients_nonzero}
use Rattle.sparse_poly.proofs.Products.{IsPolynomial-append_right}

-- each monomial is greater than m
abbrev pub AreAbove : Monomial → List Term → Type 0
AreAbove m ts = EachMonomial (λ l. monomial_order m l ≡ Less) ts

-- a term that goes before f goes before f and a last term
with_first-push : (t s : Term) (f : Polynomial) → with_first t (f ++ s ∷ []) ≡ with_first t f ++ s ∷ []
with_first-push (m, zero) s f = refl
with_first-push (m, suc c) s f = refl

added_beside-push : (p : ℕ) (t u s : Term) (f later : Polynomial) (o : Ordering) → added_beside p t u (f ++ s ∷ []) (later ++ s ∷ []) o ≡ added_beside p t u f later o ++ s ∷ []
added_beside-push p t u s f later Greater = with_first-push (term t.0 (t.1 % p)) s (u ∷ f)
added_beside-push p t u s f later Equal = with_first-push (term u.0 ((t.1 + u.1) % p)) s f
added_beside-push p t u s f later Less = refl

-- a greater term is added before the last
with_term-push : (p : ℕ) (t s : Term) (f : Polynomial) → monomial_order s.0 t.0 ≡ Less → with_term p t (f ++ s ∷ []) ≡ with_term p t f ++ s ∷ []
with_term-push p t s [] h = ap (added_beside p t s [] (with_term p t [])) (monomial_order-reverse t.0 s.0 ∙ ap ordering_reverse h) ∙ with_first-push (term t.0 (t.1 % p)) s []
with_term-push p t s (u ∷ f) h =
    ap (λ later. added_beside p t u (f ++ s ∷ []) later (monomial_order t.0 u.0)) (with_term-push p t s f h)
    ∙ added_beside-push p t u s f (with_term p t f) (monomial_order t.0 u.0)

-- a term below all of ts is collected as the last
collected-push : (p : ℕ) (ts : List Term) (s : Term) → s.1 % p ≢ 0 → AreAbove s.0 ts → collected p (ts ++ s ∷ []) ≡ collected p ts ++ term s.0 (s.1 % p) ∷ []
collected-push p [] s nonzero h = with_first_nonzero s.0 (s.1 % p) [] nonzero
collected-push p (t ∷ ts) s nonzero h = ap (with_term p t) (collected-push p ts s nonzero h.1) ∙ with_term-push p t (term s.0 (s.1 % p)) (collected p ts) h.0

-- the products by a last term come last
term_products-push : (t : Term) (f g : List Term) → term_products (f ++ t ∷ []) g ≡ term_products f g ++ map (term_product t) g
term_products-push t [] g = append-nil (map (term_product t) g)
term_products-push t (x ∷ f) g = ap (λ l. map (term_product x) g ++ l) (term_products-push t f g) ∙ sym (append_assoc (map (term_product x) g) (term_products f g) (map (term_product t) g))

-- a smaller factor by one that isn't greater makes a smaller product
product_above : (n : ℕ) (t u l m : Monomial) → length t ≡ n → length u ≡ n → length l ≡ n → length m ≡ n → monomial_order t l ≡ Less → (u ≡ m) ⊎ (monomial_order u m ≡ Less) → monomial_order (monomial_product t u) (monomial_product l m) ≡ Less
product_above n t u l m a b c d h at_least = go at_least
  where
    left : monomial_order (monomial_product t u) (monomial_product l u) ≡ Less
    left = ap₂ monomial_order (monomial_product_comm t u) (monomial_product_comm l u) ∙ (monomial_order-product u t l (a ∙ sym c) ∙ h)

    go : (u ≡ m) ⊎ (monomial_order u m ≡ Less) → monomial_order (monomial_product t u) (monomial_product l m) ≡ Less
    go (inl same) = subst (λ x. monomial_order (monomial_product t u) (monomial_product l x) ≡ Less) same left
    go (inr less) = monomial_order_trans (monomial_product t u) (monomial_product l u) (monomial_product l m) left (monomial_order-product l u m (b ∙ sym d) ∙ less)

module _ (p n : ℕ) where
  -- the terms of a polynomial before the last are greater
  above_last : (t : Term) (f : Polynomial) → IsPolynomial p n (f ++ t ∷ []) → AreAbove t.0 f
  above_last t [] i = tt
  above_last t (x ∷ f) i = (
    (EachMonomial-append_right (λ l. monomial_order l x.0 ≡ Less) f (t ∷ []) (AreBelow-from_StartsBelow p n x.0 (f ++ t ∷ []) i.4 i.3)).0,
    above_last t f i.4,
  )

  module _ (t u : Term) (f g : Polynomial) (i : IsPolynomial p n (f ++ t ∷ [])) (j : IsPolynomial p n (g ++ u ∷ [])) where
    one_t : IsPolynomial p n (t ∷ [])
    one_t = IsPolynomial-append_right p n f (t ∷ []) i

    one_u : IsPolynomial p n (u ∷ [])
    one_u = IsPolynomial-append_right p n g (u ∷ []) j

    abbrev least : Monomial
    least = monomial_product t.0 u.0

    -- the monomials of the rows but the last
    earlier_rows_above : AreAbove least (term_products f (g ++ u ∷ []))
    earlier_rows_above =
        EachMonomial-term_products
        (λ l. (monomial_order t.0 l ≡ Less) × (length l ≡ n))
        (λ m. ((u.0 ≡ m) ⊎ (monomial_order u.0 m ≡ Less)) × (length m ≡ n))
        (λ k. monomial_order least k ≡ Less)
        (λ l m a b. product_above n t.0 u.0 l m one_t.0 one_u.0 a.1 b.1 a.0 b.0)
        f (g ++ u ∷ [])
        (EachMonomial-both (λ l. monomial_order t.0 l ≡ Less) (λ m. length m ≡ n) f (above_last t f i) (EachMonomial-append_left (λ m. length m ≡ n) f (t ∷ []) (HaveLength-from_IsPolynomial p n (f ++ t ∷ []) i)))
        (EachMonomial-both (λ m. (u.0 ≡ m) ⊎ (monomial_order u.0 m ≡ Less)) (λ m. length m ≡ n) (g ++ u ∷ []) at_least (HaveLength-from_IsPolynomial p n (g ++ u ∷ []) j))
      where
        at_least : EachMonomial (λ m. (u.0 ≡ m) ⊎ (monomial_order u.0 m ≡ Less)) (g ++ u ∷ [])
        at_least = EachMonomial-append (λ m. (u.0 ≡ m) ⊎ (monomial_order u.0 m ≡ Less)) g (u ∷ []) (EachMonomial-implied (λ m. monomial_order u.0 m ≡ Less) (λ m. (u.0 ≡ m) ⊎ (monomial_order u.0 m ≡ Less)) (λ m h. inr h) g (above_last u g j)) (inl refl, tt)

    -- those of the last row but the last
    last_row_above : AreAbove least (map (term_product t) g)
    last_row_above = row g (EachMonomial-both (λ m. monomial_order u.0 m ≡ Less) (λ m. length m ≡ n) g (above_last u g j) (EachMonomial-append_left (λ m. length m ≡ n) g (u ∷ []) (HaveLength-from_IsPolynomial p n (g ++ u ∷ []) j)))
      where
        row : (k : List Term) → EachMonomial (λ m. (monomial_order u.0 m ≡ Less) × (length m ≡ n)) k → AreAbove least (map (term_product t) k)
        row [] h = tt
        row (x ∷ k) h = (monomial_order-product t.0 u.0 x.0 (one_u.0 ∙ sym h.0.1) ∙ h.0.0, row k h.1)

    -- the products of terms but that of the last ones
    abbrev earlier : List Term
    earlier = term_products f (g ++ u ∷ []) ++ map (term_product t) g

    product_ends : IsPrime p → product_of p (f ++ t ∷ []) (g ++ u ∷ []) ≡ collected p earlier ++ term least (t.1 * u.1 % p) ∷ []
    product_ends prime =
        ap (collected p) (term_products-push t f (g ++ u ∷ []) ∙ (ap (λ l. term_products f (g ++ u ∷ []) ++ l) (map-append (term_product t) g (u ∷ [])) ∙ sym (append_assoc (term_products f (g ++ u ∷ [])) (map (term_product t) g) (term_product t u ∷ []))))
        ∙ collected-push p earlier (term_product t u) (first_coefficients_nonzero p n t u [] [] one_t one_u prime) (EachMonomial-append (λ l. monomial_order least l ≡ Less) (term_products f (g ++ u ∷ [])) (map (term_product t) g) earlier_rows_above last_row_above)

-- the law of last terms, over a prime field and in any number of variables
pub last_term_of_product : (p n : ℕ) (t u : Term) (f g : Polynomial) → IsPrime p → IsPolynomial p n (f ++ t ∷ []) → IsPolynomial p n (g ++ u ∷ []) → (rest : Polynomial) × (product_of p (f ++ t ∷ []) (g ++ u ∷ []) ≡ rest ++ term (monomial_product t.0 u.0) (t.1 * u.1 % p) ∷ [])
last_term_of_product p n t u f g prime i j = (collected p (earlier p n t u f g i j), product_ends p n t u f g i j prime)

-- equal lists have one last item
last_same : (f g : List Term) (t u : Term) → f ++ t ∷ [] ≡ g ++ u ∷ [] → t ≡ u
last_same f g t u h =
    let counts = sym (length_push f t) ∙ (ap length h ∙ length_push g u) in
    let same : length g ≡ length f = omega arith in
    sym (get_or_push f t t (length f) refl) ∙ (ap (λ l. get_or l (length f) t) h ∙ get_or_push g u t (length f) same)

-- what isn't 0 has a last term
last_of : (t : Term) (f : Polynomial) → (rest : Polynomial) × ((s : Term) × (t ∷ f ≡ rest ++ s ∷ []))
last_of t [] = ([], (t, refl))
last_of t (u ∷ f) =
    let later = last_of u f in
    (t ∷ later.0, (later.1.0, ap (λ l. t ∷ l) later.1.1))

-- the last monomial of a factor divides that of the product
pub last_divides : (p n : ℕ) (t u : Term) (q f g : Polynomial) → IsPrime p → IsPolynomial p n q → IsPolynomial p n (g ++ u ∷ []) → product_of p q (g ++ u ∷ []) ≡ f ++ t ∷ [] → MonomialDivides u.0 t.0
last_divides p n t u [] f g prime iq ig product =
    let none = ap length product ∙ length_push f t in
    absurd (omega arith)
last_divides p n t u (x ∷ q) f g prime iq ig product = λ v.
    let is = sym law.1 ∙ (ap (λ k. product_of p k (g ++ u ∷ [])) (sym split.1.1) ∙ product) in
    let same = ap (λ (s : Term). exponent_of v s.0) (last_same law.0 f (term (monomial_product split.1.0.0 u.0) (split.1.0.1 * u.1 % p)) t is) in
    let adds = exponent_of-product v split.1.0.0 u.0 in
    omega arith
  where
    split : (rest : Polynomial) × ((s : Term) × (x ∷ q ≡ rest ++ s ∷ []))
    split = last_of x q

    law : (rest : Polynomial) × (product_of p (split.0 ++ split.1.0 ∷ []) (g ++ u ∷ []) ≡ rest ++ term (monomial_product split.1.0.0 u.0) (split.1.0.1 * u.1 % p) ∷ [])
    law = last_term_of_product p n split.1.0 u split.0 g prime (subst (IsPolynomial p n) split.1.1 iq) ig
