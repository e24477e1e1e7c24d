-- The value of the tree of a printed polynomial is the polynomial.
use Rattle.std.proofs.Common.{◌≡◌, ◌≢◌, ◌∙◌, ℕ, suc, ◌+◌, ◌%◌, ◌^◌, ◌<◌, ◌≤◌, Bool, true, false, eqb, cond, List, [], ◌∷◌, ◌++◌, Some, length, replicate, set, refl, sym, subst, ap, ap₂, append_assoc, append-nil, length-append, arith}
use Rattle.std.proofs.Math.Nat.{mod-eq_of_lt}
use Rattle.std.proofs.lemmas.Bool.{eqb-true, eqb-false}
use Rattle.std.proofs.lemmas.Fmt.{decimal_is_IsNumeral}
use Rattle.std.specs.Fmt.{decimal}
use Rattle.std.specs.List.{AllByRecursion, IsDistinct}
use Rattle.std.specs.Str.{bytes_eq}
use Rattle.polynomials.specs.Monomials.{Monomial, monomial_product, exponent_of}
use Rattle.polynomials.specs.Polynomials.{term, Polynomial, IsPolynomial, with_first, sum_of, constant_of, variable_power}
use Rattle.polynomials.specs.Polynomials as poly
use Rattle.polynomials.specs.Fits.{is_exponent_list, product_within, power_within}
use Rattle.polynomials.proofs.PolynomialLaws.{zero-sum_of}
use Rattle.sparse_poly.proofs.Products.{IsPolynomial-append_left}
use Rattle.sparse_poly.proofs.Moduli.{positive_modulus}
use Rattle.system_text.specs.Limits.{text_width}
use Rattle.system_text.specs.Readings.{Setting}
use Rattle.system_text.specs.Factors.{place_of_name}
use Rattle.system_text.specs.Grammar.{Sum, TermTree, Factor, First, Added, Single, Multiplied, Bare, Raised, Numeral, Variable, of_both, of_one, variable_of, sum_value, term_value, factor_value}
use Rattle.report_text.proofs.NamePlaces.{place_among}
use Rattle.report_text.proofs.Terms.{all_zero}
use Rattle.report_text.proofs.Trees.{power_tree, power_trees, factor_trees, times_factors, product_tree, term_tree, plus_terms, poly_tree}
use Rattle.report_text.proofs.PowerValues.{with_first_positive, product_within_term, power_within_variable, small_item, small_before_zeros, next_power, first_power}

-- one more zero
more_zeros : (l : Monomial) (e : ℕ) → l ≡ replicate (length l) 0 → e ≡ 0 → l ++ e ∷ [] ≡ replicate (length (l ++ e ∷ [])) 0
more_zeros [] e zeros none = ap (λ d. d ∷ []) none
more_zeros (d ∷ l) e zeros none =
    let first : d ≡ 0 = cc in
    let others : l ≡ replicate (length l) 0 = cc in
    ap₂ ◌∷◌ first (more_zeros l e others none)

-- the variables from a place on: their names and exponents, behind those of the others
record Stand (s : Setting) (front xs : List (List ℕ)) (l m : Monomial) : Type 0 where
  names : s.names ≡ front ++ xs
  places : length front ≡ length l
  variables : s.variables ≡ length l + length m
  small : is_exponent_list (l ++ m) ≡ true
  named : (v : ℕ) → length xs ≤ v → exponent_of v m ≡ 0

-- from the next place on
next_stand : (s : Setting) (front : List (List ℕ)) (x : List ℕ) (xs : List (List ℕ)) (l : Monomial) (e : ℕ) (m : Monomial)
    → Stand s front (x ∷ xs) l (e ∷ m) → Stand s (front ++ x ∷ []) xs (l ++ e ∷ []) m
next_stand s front x xs l e m h = record {
  names = h.names ∙ sym (append_assoc front (x ∷ []) xs);
  places = (let same = h.places in omega (arith, length-append front (x ∷ []), length-append l (e ∷ [])));
  variables = (let same = h.variables in omega (arith, length-append l (e ∷ [])));
  small = ap is_exponent_list (append_assoc l (e ∷ []) m) ∙ h.small;
  named = λ v past. h.named (suc v) (omega arith);
}

-- a term whose text reads as the term
pub record IsPrintedTerm (s : Setting) (t : poly.Term) : Type 0 where
  pub variables : s.variables ≡ length t.0
  pub positive : 0 < t.1
  pub below : t.1 < s.modulus
  pub printed : t.1 < 2 ^ 64
  pub small : is_exponent_list t.0 ≡ true
  pub named : (v : ℕ) → length s.names ≤ v → exponent_of v t.0 ≡ 0

module _ (s : Setting) (many : 1 < s.modulus) where
  -- a power
  power_tree_value : (v e : ℕ) (name : List ℕ) → place_of_name 0 s.names name ≡ Some v → 0 < e → e ≤ 65535 → factor_value s (power_tree name e) ≡ Some (variable_power s.variables v e)
  power_tree_value v e name place positive bound = go (eqb e 1) refl
    where
      go : (b : Bool) → eqb e 1 ≡ b → factor_value s (cond b (Bare (Variable name)) (Raised (Variable name) (decimal e))) ≡ Some (variable_power s.variables v e)
      go true one = ap (variable_of s.variables) place ∙ ap (λ k. Some (variable_power s.variables v k)) (sym (eqb-true e 1 one))
      go false other =
          ap₂ (λ x k. of_one (λ f. power_within s.modulus s.variables text_width f k) (variable_of s.variables x)) place (decimal_is_IsNumeral e (omega arith)).1
          ∙ power_within_variable s.modulus s.variables v e many positive bound

  -- a coefficient
  coefficient_value : (c : ℕ) → 0 < c → c < s.modulus → c < 2 ^ 64 → term_value s (Single (Bare (Numeral (decimal c)))) ≡ Some (term (replicate s.variables 0) c ∷ [])
  coefficient_value c positive below printed =
      ap (λ d. Some (with_first (term (replicate s.variables 0) d) [])) (ap (λ d. d % s.modulus) (decimal_is_IsNumeral c printed).1 ∙ mod-eq_of_lt below)
      ∙ ap Some (with_first_positive (replicate s.variables 0) c positive)

  module _ (different : IsDistinct bytes_eq s.names) where
    -- the power of the variable at a place
    stand_value : (front : List (List ℕ)) (x : List ℕ) (xs : List (List ℕ)) (l : Monomial) (e : ℕ) (m : Monomial)
        → Stand s front (x ∷ xs) l (e ∷ m) → e ≢ 0 → factor_value s (power_tree x e) ≡ Some (variable_power s.variables (length l) e)
    stand_value front x xs l e m h other =
        power_tree_value (length l) e x place (omega arith) (small_item l e m h.small)
      where
        place : place_of_name 0 s.names x ≡ Some (length l)
        place =
            ap (λ names. place_of_name 0 names x) h.names
            ∙ (place_among 0 front x xs (subst (IsDistinct bytes_eq) h.names different)
            ∙ (let same = h.places in ap Some (omega arith)))

    -- a term with one more power
    power_value : (front : List (List ℕ)) (x : List ℕ) (xs : List (List ℕ)) (l : Monomial) (e : ℕ) (m : Monomial) (c : ℕ) (t : TermTree)
        → Stand s front (x ∷ xs) l (e ∷ m) → e ≢ 0 → 0 < c → c < s.modulus
        → term_value s t ≡ Some (term (l ++ 0 ∷ replicate (length m) 0) c ∷ [])
        → term_value s (Multiplied t (power_tree x e)) ≡ Some (term (l ++ e ∷ replicate (length m) 0) c ∷ [])
    power_value front x xs l e m c t h other positive below value =
        ap₂ (of_both (λ f g. product_within s.modulus text_width f g)) value (stand_value front x xs l e m h other)
        ∙ (product_within_term s.modulus (l ++ 0 ∷ replicate (length m) 0) (set (replicate s.variables 0) (length l) e) c positive below
        (ap is_exponent_list product ∙ small_before_zeros l e m (length m) h.small)
        ∙ ap (λ k. Some (term k c ∷ [])) product)
      where
        product : monomial_product (l ++ 0 ∷ replicate (length m) 0) (set (replicate s.variables 0) (length l) e) ≡ l ++ e ∷ replicate (length m) 0
        product = next_power l (length m) s.variables e (let same = h.variables in omega arith)

    -- a term times all powers from a place on
    powers_value : (front xs : List (List ℕ)) (l m : Monomial) (c : ℕ) (t : TermTree)
        → Stand s front xs l m → 0 < c → c < s.modulus
        → term_value s t ≡ Some (term (l ++ replicate (length m) 0) c ∷ [])
        → term_value s (times_factors t (power_trees xs m)) ≡ Some (term (l ++ m) c ∷ [])
    powers_value front [] l m c t h positive below value =
        value ∙ ap (λ k. Some (term (l ++ k) c ∷ [])) (sym (all_zero m (λ v. h.named v (omega arith))))
    powers_value front (x ∷ xs) l [] c t h positive below value = value
    powers_value front (x ∷ xs) l (e ∷ m) c t h positive below value = choice (eqb e 0) refl (λ u known.
        powers_value (front ++ x ∷ []) xs (l ++ e ∷ []) m c u (next_stand s front x xs l e m h) positive below
        (known ∙ ap (λ k. Some (term k c ∷ [])) (sym (append_assoc l (e ∷ []) (replicate (length m) 0))))
        ∙ ap (λ k. Some (term k c ∷ [])) (append_assoc l (e ∷ []) m))
      where
        choice : (b : Bool) → eqb e 0 ≡ b
            → ((u : TermTree) → term_value s u ≡ Some (term (l ++ e ∷ replicate (length m) 0) c ∷ []) → term_value s (times_factors u (power_trees xs m)) ≡ Some (term (l ++ e ∷ m) c ∷ []))
            → term_value s (times_factors t (cond b (power_trees xs m) (power_tree x e ∷ power_trees xs m))) ≡ Some (term (l ++ e ∷ m) c ∷ [])
        choice true none later = later t (value ∙ ap (λ d. Some (term (l ++ d ∷ replicate (length m) 0) c ∷ [])) (sym (eqb-true e 0 none)))
        choice false some later = later (Multiplied t (power_tree x e)) (power_value front x xs l e m c t h (eqb-false e 0 some) positive below value)

    -- powers alone
    powers_alone_value : (front xs : List (List ℕ)) (l m : Monomial) (f : Factor) (fs : List Factor)
        → Stand s front xs l m → l ≡ replicate (length l) 0 → power_trees xs m ≡ f ∷ fs
        → term_value s (times_factors (Single f) fs) ≡ Some (term (l ++ m) 1 ∷ [])
    powers_alone_value front [] l m f fs h zeros first = cc
    powers_alone_value front (x ∷ xs) l [] f fs h zeros first = cc
    powers_alone_value front (x ∷ xs) l (e ∷ m) f fs h zeros first = choice (eqb e 0) refl first (λ none later.
        powers_alone_value (front ++ x ∷ []) xs (l ++ e ∷ []) m f fs (next_stand s front x xs l e m h) (more_zeros l e zeros none) later
        ∙ ap (λ k. Some (term k 1 ∷ [])) (append_assoc l (e ∷ []) m))
      where
        choice : (b : Bool) → eqb e 0 ≡ b → cond b (power_trees xs m) (power_tree x e ∷ power_trees xs m) ≡ f ∷ fs
            → (e ≡ 0 → power_trees xs m ≡ f ∷ fs → term_value s (times_factors (Single f) fs) ≡ Some (term (l ++ e ∷ m) 1 ∷ []))
            → term_value s (times_factors (Single f) fs) ≡ Some (term (l ++ e ∷ m) 1 ∷ [])
        choice true none same later = later (eqb-true e 0 none) same
        choice false some same later =
            let factor_is : power_tree x e ≡ f = cc in
            let factors_are : power_trees xs m ≡ fs = cc in
            ap₂ (λ g gs. term_value s (times_factors (Single g) gs)) (sym factor_is) (sym factors_are)
            ∙ (powers_value (front ++ x ∷ []) xs (l ++ e ∷ []) m 1 (Single (power_tree x e)) (next_stand s front x xs l e m h) (omega arith) many
            (stand_value front x xs l e m h (eqb-false e 0 some)
            ∙ ap (λ k. Some (term k 1 ∷ [])) (first_power l (length m) s.variables e (let same = h.variables in omega arith) zeros ∙ sym (append_assoc l (e ∷ []) (replicate (length m) 0))))
            ∙ ap (λ k. Some (term k 1 ∷ [])) (append_assoc l (e ∷ []) m))

    module _ (t : poly.Term) (h : IsPrintedTerm s t) where
      all_stand : Stand s [] s.names [] t.0
      all_stand = record { names = refl; places = refl; variables = (let same = h.variables in omega arith); small = h.small; named = h.named }

      -- with the coefficient
      with_coefficient_value : term_value s (times_factors (Single (Bare (Numeral (decimal t.1)))) (power_trees s.names t.0)) ≡ Some (t ∷ [])
      with_coefficient_value =
          powers_value [] s.names [] t.0 t.1 (Single (Bare (Numeral (decimal t.1)))) all_stand h.positive h.below
          (coefficient_value t.1 h.positive h.below h.printed ∙ ap (λ n. Some (term (replicate n 0) t.1 ∷ [])) h.variables)

      -- with it or without
      coefficient_choice : (b : Bool) (f : Factor) (fs : List Factor) → eqb t.1 1 ≡ b → power_trees s.names t.0 ≡ f ∷ fs
          → term_value s (product_tree (cond b (f ∷ fs) (Bare (Numeral (decimal t.1)) ∷ f ∷ fs))) ≡ Some (t ∷ [])
      coefficient_choice true f fs one same = powers_alone_value [] s.names [] t.0 f fs all_stand refl same ∙ ap (λ c. Some (term t.0 c ∷ [])) (sym (eqb-true t.1 1 one))
      coefficient_choice false f fs other same = subst (λ gs. term_value s (times_factors (Single (Bare (Numeral (decimal t.1)))) gs) ≡ Some (t ∷ [])) same with_coefficient_value

      power_choice : (fs : List Factor) → power_trees s.names t.0 ≡ fs → term_value s (product_tree (factor_trees t.1 fs)) ≡ Some (t ∷ [])
      power_choice [] same = subst (λ gs. term_value s (times_factors (Single (Bare (Numeral (decimal t.1)))) gs) ≡ Some (t ∷ [])) same with_coefficient_value
      power_choice (f ∷ fs) same = coefficient_choice (eqb t.1 1) f fs refl same

      pub term_tree_value : term_value s (term_tree s.names t) ≡ Some (t ∷ [])
      term_tree_value = power_choice (power_trees s.names t.0) refl

    -- further terms are added behind
    plus_terms_value : (a : Sum) (g f : Polynomial) → IsPolynomial s.modulus s.variables (g ++ f) → AllByRecursion (IsPrintedTerm s) f → sum_value s a ≡ Some g → sum_value s (plus_terms s.names a f) ≡ Some (g ++ f)
    plus_terms_value a g [] canonical printed value = value ∙ ap Some (sym (append-nil g))
    plus_terms_value a g (t ∷ f) canonical printed value =
        plus_terms_value (Added a (term_tree s.names t)) (g ++ t ∷ []) f regrouped printed.1
        (ap₂ (of_both (λ x y. Some (sum_of s.modulus x y))) value (term_tree_value t printed.0)
        ∙ ap Some (zero-sum_of s.modulus (positive_modulus many) s.variables (g ++ t ∷ []) (IsPolynomial-append_left s.modulus s.variables (g ++ t ∷ []) f regrouped)))
        ∙ ap Some (append_assoc g (t ∷ []) f)
      where
        regrouped : IsPolynomial s.modulus s.variables ((g ++ t ∷ []) ++ f)
        regrouped = subst (IsPolynomial s.modulus s.variables) (sym (append_assoc g (t ∷ []) f)) canonical

    -- the tree of a polynomial has the polynomial's value
    pub poly_tree_value : (f : Polynomial) → IsPolynomial s.modulus s.variables f → AllByRecursion (IsPrintedTerm s) f → sum_value s (poly_tree s.names f) ≡ Some f
    poly_tree_value [] canonical printed = ap (λ d. Some (with_first (term (replicate s.variables 0) d) [])) (mod-eq_of_lt (positive_modulus many))
    poly_tree_value (t ∷ f) canonical printed = plus_terms_value (First (term_tree s.names t)) (t ∷ []) f canonical printed.1 (term_tree_value t printed.0)
