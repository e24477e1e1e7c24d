-- Sums of multiples of the members of a chain by constants.
use Rattle.std.proofs.Common.{◌≡◌, ℕ, ◌<◌, ◌≤◌, List, [], ◌∷◌, ◌++◌, Some, refl, sym, ap, ap₂, ◌∙◌, subst, arith}
use Rattle.std.specs.List.{AllByRecursion}
use Rattle.polynomials.specs.Primes.{IsPrime}
use Rattle.polynomials.specs.Polynomials.{Polynomial, IsPolynomial, ArePolynomials, sum_of, product_of, negative_of, constant_of, one_of}
use Rattle.polynomials.specs.Views.{degree_in, main_var, IsFreeOf}
use Rattle.polynomials.proofs.Canonical.{IsPolynomial-constant_of}
use Rattle.polynomials.proofs.ConstantLemmas.{constant_of_free}
use Rattle.polynomials.proofs.Degrees.{degree_in-negative_of}
use Rattle.polynomials.proofs.DegreesOfProducts.{degree_of_product, freeness_is_kept}
use Rattle.polynomials.proofs.PolynomialRing.{polynomial_ring, polynomials_make_a_ring}
use Rattle.polynomials.proofs.Powers.{one_is_free}
use Rattle.polynomials.proofs.Solver.{var, number, ◌:+◌, ◌:-◌, ◌:*◌, solve}
use Rattle.impose_rules.proofs.Lists.{each_implied}

-- a canonical polynomial without variables
pub record IsScalar (p n : ℕ) (c : Polynomial) : Type 0 where
  pub canonical : IsPolynomial p n c
  pub free : (v : ℕ) → IsFreeOf v c

-- f is a sum of multiples of the chain by such
abbrev pub IsSpanned : ℕ → ℕ → List Polynomial → Polynomial → Type 0
IsSpanned p n [] f = f ≡ []
IsSpanned p n (t ∷ chain) f = (c : Polynomial) × IsScalar p n c × (g : Polynomial) × IsPolynomial p n g × IsSpanned p n chain g × (f ≡ sum_of p (product_of p c t) g)

module _ (p n : ℕ) (prime : IsPrime p) where
  -- sums, products of canonical polynomials
  plus : (f g : Polynomial) → IsPolynomial p n f → IsPolynomial p n g → IsPolynomial p n (sum_of p f g)
  plus f g i j = (polynomials_make_a_ring p n prime.many).sum_of_them f g i j

  times : (f g : Polynomial) → IsPolynomial p n f → IsPolynomial p n g → IsPolynomial p n (product_of p f g)
  times f g i j = (polynomials_make_a_ring p n prime.many).product_of_them f g i j

  minus_one : (f : Polynomial) → IsPolynomial p n f → IsPolynomial p n (negative_of p f)
  minus_one f i = (polynomials_make_a_ring p n prime.many).negative_of_them f i

  -- and of scalars
  scalar_sum : (c d : Polynomial) → IsScalar p n c → IsScalar p n d → IsScalar p n (sum_of p c d)
  scalar_sum c d i j = record { canonical = plus c d i.canonical j.canonical; free = λ v. (freeness_is_kept p n v c d i.canonical j.canonical (i.free v) (j.free v)).0 }

  pub scalar_product : (c d : Polynomial) → IsScalar p n c → IsScalar p n d → IsScalar p n (product_of p c d)
  scalar_product c d i j = record { canonical = times c d i.canonical j.canonical; free = λ v. (freeness_is_kept p n v c d i.canonical j.canonical (i.free v) (j.free v)).1 }

  pub scalar_constant : (c : ℕ) → c < p → IsScalar p n (constant_of n c)
  scalar_constant c small = record { canonical = IsPolynomial-constant_of p n c small; free = λ v. constant_of_free v n c }

  pub scalar_one : IsScalar p n (one_of n)
  scalar_one = record { canonical = (polynomials_make_a_ring p n prime.many).one_of_them; free = λ v. one_is_free v n }

  scalar_zero : IsScalar p n []
  scalar_zero = record { canonical = tt; free = λ v. refl }

  -- what is spanned is canonical
  pub spanned_canonical : (chain : List Polynomial) → ArePolynomials p n chain → (f : Polynomial) → IsSpanned p n chain f → IsPolynomial p n f
  spanned_canonical [] are f null = subst (IsPolynomial p n) (sym null) tt
  spanned_canonical (t ∷ chain) are f (c, scalar, g, i, further, same) = subst (IsPolynomial p n) (sym same) (plus (product_of p c t) g (times c t scalar.canonical are.0) i)

  -- 0 is
  pub zero_spanned : (chain : List Polynomial) → IsSpanned p n chain []
  zero_spanned [] = refl
  zero_spanned (t ∷ chain) = ([], scalar_zero, [], tt, zero_spanned chain, refl)

  -- what a part spans the whole spans
  pub later_spanned : (t : Polynomial) (chain : List Polynomial) (f : Polynomial) → IsPolynomial p n f → IsSpanned p n chain f → IsSpanned p n (t ∷ chain) f
  later_spanned t chain f i is = ([], scalar_zero, f, i, is, sym ((polynomials_make_a_ring p n prime.many).zero-add f i))

  -- multiples by scalars
  pub scaled_spanned : (a : Polynomial) → IsScalar p n a → (chain : List Polynomial) → ArePolynomials p n chain → (f : Polynomial) → IsSpanned p n chain f → IsSpanned p n chain (product_of p a f)
  scaled_spanned a scalar_a [] are f null = ap (product_of p a) null ∙ ap (λ u. u.0) (solve (polynomial_ring p n prime.many) ((a, scalar_a.canonical) ∷ []) (var 0 :* number 0) (number 0) refl)
  scaled_spanned a scalar_a (t ∷ chain) are f (c, scalar, g, i, further, same) = (product_of p a c, scalar_product a c scalar_a scalar, product_of p a g, times a g scalar_a.canonical i, scaled_spanned a scalar_a chain are.1 g further, ap (product_of p a) same ∙ ap (λ u. u.0) (solve (polynomial_ring p n prime.many) ((a, scalar_a.canonical) ∷ (c, scalar.canonical) ∷ (t, are.0) ∷ (g, i) ∷ []) (var 0 :* (var 1 :* var 2 :+ var 3)) (var 0 :* var 1 :* var 2 :+ var 0 :* var 3) refl))

  -- sums
  pub sum_spanned : (chain : List Polynomial) → ArePolynomials p n chain → (f h : Polynomial) → IsSpanned p n chain f → IsSpanned p n chain h → IsSpanned p n chain (sum_of p f h)
  sum_spanned [] are f h null_f null_h = ap₂ (sum_of p) null_f null_h
  sum_spanned (t ∷ chain) are f h (c, scalar_c, g, ig, further_g, same_f) (d, scalar_d, k, ik, further_k, same_h) = (sum_of p c d, scalar_sum c d scalar_c scalar_d, sum_of p g k, plus g k ig ik, sum_spanned chain are.1 g k further_g further_k, ap₂ (sum_of p) same_f same_h ∙ ap (λ u. u.0) (solve (polynomial_ring p n prime.many) ((c, scalar_c.canonical) ∷ (d, scalar_d.canonical) ∷ (t, are.0) ∷ (g, ig) ∷ (k, ik) ∷ []) ((var 0 :* var 2 :+ var 3) :+ (var 1 :* var 2 :+ var 4)) ((var 0 :+ var 1) :* var 2 :+ (var 3 :+ var 4)) refl))

  -- the first member
  first_spanned : (t : Polynomial) (chain : List Polynomial) → IsPolynomial p n t → IsSpanned p n (t ∷ chain) t
  first_spanned t chain i = (one_of n, scalar_one, [], tt, zero_spanned chain, sym ((polynomials_make_a_ring p n prime.many).one-mul t i) ∙ ap (λ u. u.0) (solve (polynomial_ring p n prime.many) ((product_of p (one_of n) t, times (one_of n) t scalar_one.canonical i) ∷ []) (var 0) (var 0 :+ number 0) refl))

  -- each member
  pub members_spanned : (chain : List Polynomial) → ArePolynomials p n chain → AllByRecursion (λ t. IsPolynomial p n t × IsSpanned p n chain t) chain
  members_spanned [] are = tt
  members_spanned (t ∷ chain) are = ((are.0, first_spanned t chain are.0), each_implied (λ s. IsPolynomial p n s × IsSpanned p n chain s) (λ s. IsPolynomial p n s × IsSpanned p n (t ∷ chain) s) (λ s h. (h.0, later_spanned t chain s h.0 h.1)) chain (members_spanned chain are.1))

  -- with one more member
  pub more_spanned : (fs : List Polynomial) (r : Polynomial) (gs : List Polynomial) → ArePolynomials p n (fs ++ gs) → (f : Polynomial) → IsSpanned p n (fs ++ gs) f → IsSpanned p n (fs ++ r ∷ gs) f
  more_spanned [] r gs are f is = later_spanned r gs f (spanned_canonical gs are f is) is
  more_spanned (t ∷ fs) r gs are f (c, scalar, g, i, further, same) = (c, scalar, g, i, more_spanned fs r gs are.1 g further, same)

  -- and that member
  pub new_spanned : (fs : List Polynomial) (r : Polynomial) (gs : List Polynomial) → IsPolynomial p n r → IsSpanned p n (fs ++ r ∷ gs) r
  new_spanned [] r gs i = first_spanned r gs i
  new_spanned (t ∷ fs) r gs i = later_spanned t (fs ++ r ∷ gs) r i (new_spanned fs r gs i)

  -- no main variable of the chain occurs
  abbrev pub LacksMains : List Polynomial → Polynomial → Type 0
  LacksMains chain f = AllByRecursion (λ t. (u : ℕ) → main_var t ≡ Some u → IsFreeOf u f) chain

  -- each member lacks the main variables of those behind it, and has its own
  abbrev pub AreApart : List Polynomial → Type 0
  AreApart [] = Unit {0}
  AreApart (t ∷ chain) = LacksMains chain t × ((u : ℕ) × (main_var t ≡ Some u) × (1 ≤ degree_in u t)) × AreApart chain

  -- a sum or difference lacks what both lack
  lacks_rest : (chain : List Polynomial) (c t f g : Polynomial) → IsScalar p n c → IsPolynomial p n t → IsPolynomial p n f → IsPolynomial p n g → g ≡ sum_of p f (negative_of p (product_of p c t)) → LacksMains chain t → LacksMains chain f → LacksMains chain g
  lacks_rest [] c t f g scalar it fi ig same lacks_t lacks_f = tt
  lacks_rest (s ∷ chain) c t f g scalar it fi ig same lacks_t lacks_f = (
    (λ u main.
        let ct = (freeness_is_kept p n u c t scalar.canonical it (scalar.free u) (lacks_t.0 u main)).1 in
        let minus_ct = degree_in-negative_of u p (product_of p c t) ∙ ct in
        ap (degree_in u) same ∙ (freeness_is_kept p n u f (negative_of p (product_of p c t)) fi (minus_one (product_of p c t) (times c t scalar.canonical it)) (lacks_f.0 u main) minus_ct).0),
    lacks_rest chain c t f g scalar it fi ig same lacks_t.1 lacks_f.1,
  )

  -- what is spanned and lacks all main variables is 0
  pub spanned_zero : (chain : List Polynomial) → ArePolynomials p n chain → AreApart chain → (f : Polynomial) → IsSpanned p n chain f → LacksMains chain f → f ≡ []
  spanned_zero [] are apart f null lacks = null
  spanned_zero (t ∷ chain) are apart f (c, scalar, g, i, further, same) lacks = go (spanned_zero chain are.1 apart.2 g further (lacks_rest chain c t f g scalar are.0 fi i g_is apart.0 lacks.1)) c refl
    where
      fi : IsPolynomial p n f
      fi = subst (IsPolynomial p n) (sym same) (plus (product_of p c t) g (times c t scalar.canonical are.0) i)

      g_is : g ≡ sum_of p f (negative_of p (product_of p c t))
      g_is = ap (λ u. u.0) (solve (polynomial_ring p n prime.many) ((c, scalar.canonical) ∷ (t, are.0) ∷ (g, i) ∷ []) (var 2) ((var 0 :* var 1 :+ var 2) :- var 0 :* var 1) refl) ∙ ap (λ x. sum_of p x (negative_of p (product_of p c t))) (sym same)

      f_is : g ≡ [] → f ≡ product_of p c t
      f_is rest = same ∙ ap (sum_of p (product_of p c t)) rest ∙ ap (λ u. u.0) (solve (polynomial_ring p n prime.many) ((product_of p c t, times c t scalar.canonical are.0) ∷ []) (var 0 :+ number 0) (var 0) refl)

      go : g ≡ [] → (d : Polynomial) → c ≡ d → f ≡ []
      go rest [] null = f_is rest ∙ ap (λ x. product_of p x t) null
      go rest (s ∷ d) some =
          let own = apart.1 in
          let high = own.2 in
          let none = lacks.0 own.0 own.1 in
          let adds = degree_of_product p n own.0 c t prime scalar.canonical are.0 (λ null. let clash = sym some ∙ null in cc) (λ null. let zero_t = ap (degree_in own.0) null in omega (arith, zero_t, high)) in
          let same_degree = ap (degree_in own.0) (f_is rest) in
          absurd (omega (arith, adds, same_degree, none, high))
