-- What holds of each monomial of a list of terms.
use Rattle.std.proofs.Common.{◌≡◌, ℕ, zero, suc, ◌+◌, ◌%◌, List, [], ◌∷◌, ◌++◌, map, length}
use Rattle.std.specs.declared.cmp.Ordering.{Ordering}
use Rattle.std.specs.declared.cmp.Ordering.TheVariants.{Less, Equal, Greater}
use Rattle.polynomials.specs.Monomials.{Monomial, monomial_order, monomial_product}
use Rattle.polynomials.specs.MonomialOrders.{length-monomial_product}
use Rattle.polynomials.specs.Polynomials.{Term, term, Polynomial, IsPolynomial, with_first, added_beside, with_term, collected, sum_of, product_of, negative_of, term_product, term_products}

-- each monomial of ts has the property
abbrev pub EachMonomial : (Monomial → Type 0) → List Term → Type 0
EachMonomial P [] = Unit {0}
EachMonomial P (t ∷ ts) = P t.0 × EachMonomial P ts

module _ (P : Monomial → Type 0) where
  -- of two lists one after the other
  pub EachMonomial-append : (f g : List Term) → EachMonomial P f → EachMonomial P g → EachMonomial P (f ++ g)
  EachMonomial-append [] g h i = i
  EachMonomial-append (t ∷ f) g h i = (h.0, EachMonomial-append f g h.1 i)

  -- in two lists one after the other, it holds of each
  pub EachMonomial-append_left : (f g : List Term) → EachMonomial P (f ++ g) → EachMonomial P f
  EachMonomial-append_left [] g h = tt
  EachMonomial-append_left (t ∷ f) g h = (h.0, EachMonomial-append_left f g h.1)

  -- and of the second
  pub EachMonomial-append_right : (f g : List Term) → EachMonomial P (f ++ g) → EachMonomial P g
  EachMonomial-append_right [] g h = h
  EachMonomial-append_right (t ∷ f) g h = EachMonomial-append_right f g h.1

  -- of a term before f
  pub EachMonomial-with_first : (t : Term) (f : Polynomial) → P t.0 → EachMonomial P f → EachMonomial P (with_first t f)
  EachMonomial-with_first (m, zero) f h i = i
  EachMonomial-with_first (m, suc c) f h i = (h, i)

  EachMonomial-added_beside : (p : ℕ) (t u : Term) (f later : Polynomial) (o : Ordering) → P t.0 → P u.0 → EachMonomial P f → EachMonomial P later → EachMonomial P (added_beside p t u f later o)
  EachMonomial-added_beside p t u f later Greater h i j k = EachMonomial-with_first (term t.0 (t.1 % p)) (u ∷ f) h (i, j)
  EachMonomial-added_beside p t u f later Equal h i j k = EachMonomial-with_first (term u.0 ((t.1 + u.1) % p)) f i j
  EachMonomial-added_beside p t u f later Less h i j k = (i, k)

  -- of f with a term added
  pub EachMonomial-with_term : (p : ℕ) (t : Term) (f : Polynomial) → P t.0 → EachMonomial P f → EachMonomial P (with_term p t f)
  EachMonomial-with_term p t [] h i = EachMonomial-with_first (term t.0 (t.1 % p)) [] h tt
  EachMonomial-with_term p t (u ∷ f) h i = EachMonomial-added_beside p t u f (with_term p t f) (monomial_order t.0 u.0) h i.0 i.1 (EachMonomial-with_term p t f h i.1)

  -- collecting terms makes no new monomial
  pub EachMonomial-collected : (p : ℕ) (ts : List Term) → EachMonomial P ts → EachMonomial P (collected p ts)
  EachMonomial-collected p [] h = tt
  EachMonomial-collected p (t ∷ ts) h = EachMonomial-with_term p t (collected p ts) h.0 (EachMonomial-collected p ts h.1)

  -- of a sum
  pub EachMonomial-sum_of : (p : ℕ) (f g : Polynomial) → EachMonomial P f → EachMonomial P g → EachMonomial P (sum_of p f g)
  EachMonomial-sum_of p f g h i = EachMonomial-collected p (f ++ g) (EachMonomial-append f g h i)

  -- of the negative
  pub EachMonomial-negative_of : (p : ℕ) (f : Polynomial) → EachMonomial P f → EachMonomial P (negative_of p f)
  EachMonomial-negative_of p [] h = tt
  EachMonomial-negative_of p (t ∷ f) h = (h.0, EachMonomial-negative_of p f h.1)

-- what follows for each monomial
pub EachMonomial-implied : (P Q : Monomial → Type 0) → ((m : Monomial) → P m → Q m) → (f : List Term) → EachMonomial P f → EachMonomial Q f
EachMonomial-implied P Q follows [] h = tt
EachMonomial-implied P Q follows (t ∷ f) h = (follows t.0 h.0, EachMonomial-implied P Q follows f h.1)

-- two properties at once
pub EachMonomial-both : (P Q : Monomial → Type 0) (f : List Term) → EachMonomial P f → EachMonomial Q f → EachMonomial (λ m. P m × Q m) f
EachMonomial-both P Q [] h i = tt
EachMonomial-both P Q (t ∷ f) h i = ((h.0, i.0), EachMonomial-both P Q f h.1 i.1)

module _ (P Q R : Monomial → Type 0) (product : (l m : Monomial) → P l → Q m → R (monomial_product l m)) where
  EachMonomial-map : (t : Term) (g : List Term) → P t.0 → EachMonomial Q g → EachMonomial R (map (term_product t) g)
  EachMonomial-map t [] h i = tt
  EachMonomial-map t (u ∷ g) h i = (product t.0 u.0 h i.0, EachMonomial-map t g h i.1)

  -- products of monomials of one kind by those of another
  pub EachMonomial-term_products : (f g : List Term) → EachMonomial P f → EachMonomial Q g → EachMonomial R (term_products f g)
  EachMonomial-term_products [] g h i = tt
  EachMonomial-term_products (t ∷ f) g h i = EachMonomial-append R (map (term_product t) g) (term_products f g) (EachMonomial-map t g h.0 i) (EachMonomial-term_products f g h.1 i)

  -- and of a product
  pub EachMonomial-product_of : (p : ℕ) (f g : Polynomial) → EachMonomial P f → EachMonomial Q g → EachMonomial R (product_of p f g)
  EachMonomial-product_of p f g h i = EachMonomial-collected R p (term_products f g) (EachMonomial-term_products f g h i)

-- n exponents a monomial
abbrev pub HaveLength : ℕ → List Term → Type 0
HaveLength n ts = EachMonomial (λ m. length m ≡ n) ts

-- a polynomial in n variables has n exponents a monomial
pub HaveLength-from_IsPolynomial : (p n : ℕ) (f : Polynomial) → IsPolynomial p n f → HaveLength n f
HaveLength-from_IsPolynomial p n [] i = tt
HaveLength-from_IsPolynomial p n (t ∷ f) i = (i.0, HaveLength-from_IsPolynomial p n f i.4)

-- and so have products of terms
pub HaveLength-term_products : (n : ℕ) (f g : List Term) → HaveLength n f → HaveLength n g → HaveLength n (term_products f g)
HaveLength-term_products n = EachMonomial-term_products (λ m. length m ≡ n) (λ m. length m ≡ n) (λ m. length m ≡ n) (length-monomial_product n)
