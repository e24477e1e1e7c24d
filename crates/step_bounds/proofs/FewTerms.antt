-- Polynomials of low degree have few terms.
use Rattle.std.proofs.Common.{◌≡◌, ◌⊎◌, inl, inr, ℕ, zero, suc, ◌+◌, ◌<◌, ◌≤◌, [], ◌∷◌, length, sum, Option, Some, None, refl, sym, ap, ◌∙◌, arith}
use Rattle.std.specs.List.{fold}
use Rattle.std.proofs.lemmas.Bool.{cases_lt}
use Rattle.std.specs.Ordering.{nat_cmp, ordering_then}
use Rattle.std.specs.declared.cmp.Ordering.{Ordering}
use Rattle.std.specs.declared.cmp.Ordering.TheVariants.{Less, Equal, Greater}
use Rattle.std.proofs.lemmas.Bool.Decides.{nat_tests}
use Rattle.polynomials.specs.Monomials.{Monomial, exponent_of, monomial_order, greatest_of, greatest_variable}
use Rattle.polynomials.specs.MonomialOrders.{monomial_order_same}
use Rattle.polynomials.specs.Polynomials.{Polynomial, IsPolynomial}
use Rattle.polynomials.proofs.MainVariables.{IsGreatest, greatest_variable_is}
use Rattle.rank_rules.specs.Ranks.{number_of}
use Rattle.step_bounds.specs.Terms.{total_degree, HasVariablesBelow, TermsAreFew}

-- a comparison in two steps
first_or_second : (o q : Ordering) → ordering_then o q ≡ Less → (o ≡ Less) ⊎ ((o ≡ Equal) × (q ≡ Less))
first_or_second Less q e = inl refl
first_or_second Equal q e = inr (refl, e)
first_or_second Greater q e = cc

less_number : (d e : ℕ) → nat_cmp d e ≡ Less → d < e
less_number d e h = grind (arith, nat_tests)

-- one more than the greatest variable
abbrev top_of : Monomial → ℕ
top_of m = number_of (greatest_variable m)

-- by the first exponent and the others
top_least : (e : ℕ) (o : Option ℕ) → number_of (greatest_of e o) ≤ suc (number_of o)
top_least zero None = omega arith
top_least (suc e) None = omega arith
top_least e (Some v) = omega arith

top_above : (e : ℕ) (o : Option ℕ) → 0 < number_of o → number_of (greatest_of e o) ≡ suc (number_of o)
top_above e None high = absurd (omega (arith, high))
top_above e (Some v) high = refl

top_some : (e : ℕ) (o : Option ℕ) → 0 < e → 0 < number_of (greatest_of e o)
top_some zero o high = absurd (omega (arith, high))
top_some (suc e) None high = omega arith
top_some (suc e) (Some v) high = omega arith

-- the first exponent and the sum of the others
fold_parts : (a : ℕ) (m : Monomial) → fold ◌+◌ a m ≡ a + fold ◌+◌ 0 m
fold_parts a [] = omega arith
fold_parts a (e ∷ m) =
    let here = fold_parts (a + e) m in
    let there = fold_parts (0 + e) m in
    omega (arith, here, there)

pub sum_parts : (e : ℕ) (m : Monomial) → sum (e ∷ m) ≡ e + sum m
sum_parts e m = let parts = fold_parts (0 + e) m in omega (arith, parts)

-- a monomial of no degree has no variable
top_none : (m : Monomial) → sum m ≡ 0 → top_of m ≡ 0
top_none [] none = refl
top_none (zero ∷ m) none = ap (λ o. number_of (greatest_of zero o)) (no_number (greatest_variable m) (top_none m none))
  where
    no_number : (o : Option ℕ) → number_of o ≡ 0 → o ≡ None
    no_number None e = refl
    no_number (Some v) e = absurd (omega (arith, e))
top_none (suc e ∷ m) none = let parts = sum_parts (suc e) m in absurd (omega (arith, none, parts))

-- of monomials of total degree at most 1 the lesser has the lesser number
top_falls : (l m : Monomial) → length l ≡ length m → sum l ≤ 1 → sum m ≤ 1 → monomial_order l m ≡ Less → top_of l < top_of m
top_falls [] [] same low_l low_m less = cc
top_falls [] (e ∷ m) same low_l low_m less = absurd (omega arith)
top_falls (d ∷ l) [] same low_l low_m less = cc
top_falls (d ∷ l) (e ∷ m) same low_l low_m less = go (first_or_second (monomial_order l m) (nat_cmp d e) less) (λ before. top_falls l m (omega arith) (let parts = sum_parts d l in omega (arith, low_l, parts)) (let parts = sum_parts e m in omega (arith, low_m, parts)) before)
  where
    tied : (d e : ℕ) → d < e → sum (d ∷ l) ≤ 1 → sum (e ∷ m) ≤ 1 → sum l ≡ sum m → number_of (greatest_of d (greatest_variable l)) < number_of (greatest_of e (greatest_variable m))
    tied d e low a b alike =
        let parts_l = sum_parts d l in
        let parts_m = sum_parts e m in
        let none_l = top_none l (omega (arith, low, a, b, alike, parts_l, parts_m)) in
        let here = ap (λ x. number_of (greatest_of x (greatest_variable l))) (least d (omega (arith, low, a, b, alike, parts_l, parts_m))) in
        let there = top_some e (greatest_variable m) (omega (arith, low)) in
        let zero_l = unseen (greatest_variable l) none_l in
        omega (arith, here, there, zero_l)
      where
        least : (x : ℕ) → x ≡ 0 → x ≡ 0
        least x same = same

        unseen : (o : Option ℕ) → number_of o ≡ 0 → number_of (greatest_of 0 o) ≡ 0
        unseen None none = refl
        unseen (Some v) none = absurd (omega (arith, none))

    go : (monomial_order l m ≡ Less) ⊎ ((monomial_order l m ≡ Equal) × (nat_cmp d e ≡ Less)) → (monomial_order l m ≡ Less → top_of l < top_of m) → top_of (d ∷ l) < top_of (e ∷ m)
    go (inl before) rest =
        let less = rest before in
        let here = top_least d (greatest_variable l) in
        let there = top_above e (greatest_variable m) (omega (arith, less)) in
        omega (arith, less, here, there)
    go (inr (tie, later)) rest = tied d e (less_number d e later) low_l low_m (ap sum (monomial_order_same l m tie))

-- so there are no more terms than the number of the first, and one
linear_terms : (p n : ℕ) (t : Monomial × ℕ) (f : Polynomial) → IsPolynomial p n (t ∷ f) → total_degree (t ∷ f) ≤ 1 → length (t ∷ f) ≤ suc (top_of t.0)
linear_terms p n t [] i low = omega arith
linear_terms p n t (u ∷ f) i low =
    let rest = linear_terms p n u f i.4 (omega (arith, low)) in
    let falls = top_falls u.0 t.0 (i.4.0 ∙ sym i.0) (omega (arith, low)) (omega (arith, low)) i.3 in
    omega (arith, rest, falls)

-- the exponents of the first variable fall where no other occurs
first_falls : (l m : Monomial) → length l ≡ length m → ((v : ℕ) → 1 ≤ v → exponent_of v l ≡ 0) → ((v : ℕ) → 1 ≤ v → exponent_of v m ≡ 0) → monomial_order l m ≡ Less → exponent_of 0 l < exponent_of 0 m
first_falls [] [] same none_l none_m less = cc
first_falls [] (e ∷ m) same none_l none_m less = absurd (omega arith)
first_falls (d ∷ l) [] same none_l none_m less = cc
first_falls (d ∷ l) (e ∷ m) same none_l none_m less = go (first_or_second (monomial_order l m) (nat_cmp d e) less)
  where
    alike : (a b : Monomial) → length a ≡ length b → ((v : ℕ) → exponent_of v a ≡ 0) → ((v : ℕ) → exponent_of v b ≡ 0) → monomial_order a b ≡ Equal
    alike [] [] same none_a none_b = refl
    alike [] (y ∷ b) same none_a none_b = absurd (omega arith)
    alike (x ∷ a) [] same none_a none_b = absurd (omega arith)
    alike (x ∷ a) (y ∷ b) same none_a none_b = ap (λ o. ordering_then o (nat_cmp x y)) (alike a b (omega arith) (λ v. none_a (suc v)) (λ v. none_b (suc v))) ∙ tie (none_a 0) (none_b 0)
      where
        tie : x ≡ 0 → y ≡ 0 → nat_cmp x y ≡ Equal
        tie a b = grind (arith, nat_tests, a, b)

    go : (monomial_order l m ≡ Less) ⊎ ((monomial_order l m ≡ Equal) × (nat_cmp d e ≡ Less)) → d < e
    go (inl before) = let even = alike l m (omega arith) (λ v. none_l (suc v) (omega arith)) (λ v. none_m (suc v) (omega arith)) in let clash = sym before ∙ even in cc
    go (inr (tie, later)) = less_number d e later

univariate_terms : (p n : ℕ) (t : Monomial × ℕ) (f : Polynomial) → IsPolynomial p n (t ∷ f) → HasVariablesBelow 1 (t ∷ f) → length (t ∷ f) ≤ suc (exponent_of 0 t.0)
univariate_terms p n t [] i below = omega arith
univariate_terms p n t (u ∷ f) i below =
    let rest = univariate_terms p n u f i.4 (λ v past. let none = below v past in omega (arith, none)) in
    let falls = first_falls u.0 t.0 (i.4.0 ∙ sym i.0) (λ v past. let none = below v past in omega (arith, none)) (λ v past. let none = below v past in omega (arith, none)) i.3 in
    omega (arith, rest, falls)

-- the number of the first monomial is at most k
top_low : (k : ℕ) (m : Monomial) → ((v : ℕ) → k ≤ v → exponent_of v m ≡ 0) → top_of m ≤ k
top_low k m none = go (greatest_variable m) refl (greatest_variable_is m)
  where
    go : (o : Option ℕ) → greatest_variable m ≡ o → IsGreatest o (λ w. exponent_of w m) → number_of o ≤ k
    go None e is = omega arith
    go (Some v) e is = elim (cases_lt v k) [
      | inl less ↦ omega (arith, less)
      | inr past ↦ let some = is.0 in let zero_v = none v (omega (arith, past)) in absurd (omega (arith, some, zero_v))
    ]

-- the law of few terms
pub terms_are_few : TermsAreFew
terms_are_few p n [] i = record { in_one_variable = λ below. omega arith; linear = λ k below low. omega arith }
terms_are_few p n (t ∷ f) i = record {
  in_one_variable = λ below. let count = univariate_terms p n t f i below in omega (arith, count);
  linear = λ k below low.
      let count = linear_terms p n t f i low in
      let top = top_low k t.0 (λ v past. let none = below v past in omega (arith, none)) in
      omega (arith, count, top);
}
