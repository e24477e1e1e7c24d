-- The main variable is the greatest that occurs.
use Rattle.std.proofs.Common.{◌≡◌, ◌↔◌, ℕ, zero, suc, ◌<◌, ◌≤◌, max, true, [], ◌∷◌, length, replicate, Option, Some, None, refl, sym, ap, ap₂, ◌∙◌, subst, inl, inr, arith}
use Rattle.std.proofs.lemmas.Bool.{cases_lt, cases_order}
use Rattle.polynomials.specs.Monomials.{Monomial, monomial_order, exponent_of, greatest_of, greatest_variable}
use Rattle.polynomials.specs.MonomialOrders.{monomial_order-refl}
use Rattle.polynomials.specs.Polynomials.{term, Polynomial, IsPolynomial, constant_of}
use Rattle.polynomials.specs.Views.{degree_in, greater_variable, main_var, is_no_variable, is_constant, IsFreeOf}
use Rattle.polynomials.specs.Laws.{MainVariableIsGreatest}

-- the variable is the greatest with a number other than 0, or there is none
abbrev pub IsGreatest : Option ℕ → (ℕ → ℕ) → Type 0
IsGreatest None e = (w : ℕ) → e w ≡ 0
IsGreatest (Some v) e = (0 < e v) × ((w : ℕ) → v < w → e w ≡ 0)

-- there is at most one
pub IsGreatest_unique : (v : ℕ) (o : Option ℕ) (e : ℕ → ℕ) → IsGreatest (Some v) e → IsGreatest o e → o ≡ Some v
IsGreatest_unique v None e h i =
    let none = i v in
    let some = h.0 in
    absurd (omega arith)
IsGreatest_unique v (Some w) e h i =
    let first = h.0 in
    let second = i.0 in
    elim (cases_order v w) [
      | inl same ↦ ap Some (sym same)
      | inr (inl less) ↦ let zero_w = h.1 w less in absurd (omega arith)
      | inr (inr more) ↦ let zero_v = i.1 v more in absurd (omega arith)
    ]

-- one more exponent before the others
greatest_step : (e : ℕ) (o : Option ℕ) (m : Monomial) → IsGreatest o (λ w. exponent_of w m) → IsGreatest (greatest_of e o) (λ w. exponent_of w (e ∷ m))
greatest_step e (Some v) m h = (h.0, above)
  where
    above : (w : ℕ) → suc v < w → exponent_of w (e ∷ m) ≡ 0
    above zero i = absurd (omega arith)
    above (suc w) i = h.1 w (omega arith)
greatest_step zero None m h = all
  where
    all : (w : ℕ) → exponent_of w (0 ∷ m) ≡ 0
    all zero = refl
    all (suc w) = h w
greatest_step (suc e) None m h = (omega arith, above)
  where
    above : (w : ℕ) → 0 < w → exponent_of w (suc e ∷ m) ≡ 0
    above zero i = absurd (omega arith)
    above (suc w) i = h w

-- the greatest variable of a monomial
pub greatest_variable_is : (m : Monomial) → IsGreatest (greatest_variable m) (λ w. exponent_of w m)
greatest_variable_is [] = λ w. refl
greatest_variable_is (e ∷ m) = greatest_step e (greatest_variable m) m (greatest_variable_is m)

-- the greater of two
greater_step : (a b : Option ℕ) (x y : ℕ → ℕ) → IsGreatest a x → IsGreatest b y → IsGreatest (greater_variable a b) (λ w. max (x w) (y w))
greater_step None None x y h i = λ w. omega (arith, h w, i w)
greater_step None (Some v) x y h i = (omega (arith, i.0), λ w less. omega (arith, h w, i.1 w less))
greater_step (Some v) None x y h i = (omega (arith, h.0), λ w less. omega (arith, h.1 w less, i w))
greater_step (Some v) (Some u) x y h i = (some, λ w less. omega (arith, h.1 w (omega arith), i.1 w (omega arith)))
  where
    some : 0 < max (x (max v u)) (y (max v u))
    some = elim (cases_lt v u) [
      | inl less ↦ subst (λ w. 0 < max (x w) (y w)) (greater_second less) (omega (arith, i.0))
      | inr least ↦ subst (λ w. 0 < max (x w) (y w)) (greater_first least) (omega (arith, h.0))
    ]
      where
        greater_second : v < u → u ≡ max v u
        greater_second less = omega arith

        greater_first : u ≤ v → v ≡ max v u
        greater_first least = omega arith

-- the main variable of a polynomial
pub main_var_is : (f : Polynomial) → IsGreatest (main_var f) (λ w. degree_in w f)
main_var_is [] = λ w. refl
main_var_is (t ∷ f) = greater_step (greatest_variable t.0) (main_var f) (λ w. exponent_of w t.0) (λ w. degree_in w f) (greatest_variable_is t.0) (main_var_is f)

-- the law of main variables
pub main_variable_is_greatest : MainVariableIsGreatest
main_variable_is_greatest v f = ((λ e. subst (λ o. IsGreatest o (λ w. degree_in w f)) e (main_var_is f)), (λ h. IsGreatest_unique v (main_var f) (λ w. degree_in w f) h (main_var_is f)))

-- the main variable occurs, and no greater one does
pub degree_in_main_var : (v : ℕ) (f : Polynomial) → main_var f ≡ Some v → 0 < degree_in v f
degree_in_main_var v f e = ((main_variable_is_greatest v f).0 e).0

-- no variable above it occurs
pub free_above_main_var : (v w : ℕ) (f : Polynomial) → main_var f ≡ Some v → v < w → IsFreeOf w f
free_above_main_var v w f e less = ((main_variable_is_greatest v f).0 e).1 w less

-- without a main variable no variable occurs
pub free_without_main_var : (f : Polynomial) → main_var f ≡ None → (w : ℕ) → IsFreeOf w f
free_without_main_var f e = subst (λ o. IsGreatest o (λ w. degree_in w f)) e (main_var_is f)

no_variable : (o : Option ℕ) → is_no_variable o ≡ true → o ≡ None
no_variable None e = refl
no_variable (Some v) e = cc

none_from_free : (o : Option ℕ) (e : ℕ → ℕ) → IsGreatest o e → ((w : ℕ) → e w ≡ 0) → o ≡ None
none_from_free None e h zeros = refl
none_from_free (Some v) e h zeros =
    let zero_v = zeros v in
    let some = h.0 in
    absurd (omega arith)

-- and a polynomial in which no variable occurs has none
pub main_var_none : (f : Polynomial) → ((w : ℕ) → IsFreeOf w f) → main_var f ≡ None
main_var_none f h = none_from_free (main_var f) (λ w. degree_in w f) (main_var_is f) h

-- constant are the polynomials in which no variable occurs
pub is_constant_iff : (f : Polynomial) → (is_constant f ≡ true) ↔ ((w : ℕ) → IsFreeOf w f)
is_constant_iff f = ((λ e. free_without_main_var f (no_variable (main_var f) e)), (λ h. ap is_no_variable (main_var_none f h)))

-- n exponents that are all 0
pub replicate_from_zeros : (n : ℕ) (m : Monomial) → length m ≡ n → ((w : ℕ) → exponent_of w m ≡ 0) → m ≡ replicate n 0
replicate_from_zeros zero [] h zeros = refl
replicate_from_zeros zero (e ∷ m) h zeros = absurd (omega arith)
replicate_from_zeros (suc n) [] h zeros = absurd (omega arith)
replicate_from_zeros (suc n) (e ∷ m) h zeros = ap₂ ◌∷◌ (zeros 0) (replicate_from_zeros n m (omega arith) (λ w. zeros (suc w)))

-- such a polynomial is a constant
pub constant_from_free : (p n : ℕ) (f : Polynomial) → 0 < p → IsPolynomial p n f → ((w : ℕ) → IsFreeOf w f) → (c : ℕ) × (c < p) × (f ≡ constant_of n c)
constant_from_free p n [] positive i h = (0, positive, refl)
constant_from_free p n ((m, zero) ∷ f) positive i h =
    let some = i.1 in
    absurd (omega arith)
constant_from_free p n ((m, suc c) ∷ []) positive i h = (suc c, i.2, ap (λ l. term l (suc c) ∷ []) (replicate_from_zeros n m i.0 (λ w. omega (arith, h w))))
constant_from_free p n ((m, suc c) ∷ u ∷ f) positive i h =
    let first = replicate_from_zeros n m i.0 (λ w. omega (arith, h w)) in
    let second = replicate_from_zeros n u.0 i.4.0 (λ w. omega (arith, h w)) in
    let tie = sym (monomial_order-refl m) ∙ ap (λ l. monomial_order l m) (first ∙ sym second) ∙ i.3 in
    cc
