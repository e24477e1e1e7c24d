-- A system that is made is one, of polynomials in its named variables.
use Rattle.std.proofs.Common.{◌≡◌, ◌≢◌, ℕ, zero, suc, ◌+◌, ◌<◌, ◌≤◌, ◌%◌, ◌/◌, List, [], ◌∷◌, ◌++◌, map, refl, sym, ap, ◌∙◌, subst, lit≤, arith}
use Rattle.std.specs.List.{AllByRecursion, IsDistinct, range_with_len}
use Rattle.std.proofs.lemmas.List.Elements.{All-from_recursion, All-contains}
use Rattle.std.proofs.lemmas.List.FromFn.{map-range_with_len_more}
use Rattle.mono_words.specs.declared.mono.TheConstants.{VARS}
use Rattle.polynomials.specs.Polynomials.{Polynomial, ArePolynomials, IsPolynomial, constant_of, sum_of, variable_power}
use Rattle.polynomials.specs.Views.{degree_in, IsFreeOf}
use Rattle.polynomials.proofs.ConstantLemmas.{constant_of_free}
use Rattle.polynomials.proofs.DegreesOfProducts.{product_is_free, sum_is_free}
use Rattle.polynomials.proofs.PolynomialLists.{ArePolynomials-push}
use Rattle.polynomials.proofs.VariablePowers.{variable_power_is_free}
use Rattle.system_text.specs.Laws.{IsNamedPolynomial, IsSystem}
use Rattle.system_text.specs.Systems.{AreNames}
use Rattle.system_parser.specs.Made.{made_names, made_polynomial, made_prime, made_system}

-- the shifted variable has no power of another
shifted_is_free : (n v w c : ℕ) → w ≢ v → IsFreeOf w (sum_of made_prime (variable_power n v 1) (constant_of n c))
shifted_is_free n v w c other = sum_is_free made_prime w (variable_power n v 1) (constant_of n c) (variable_power_is_free n v 1 w other) (constant_of_free w n c)

-- so there is room for the next variable
pub shifted_room : (p n v c : ℕ) (x s f : Polynomial) → p ≡ made_prime → x ≡ variable_power n v 1 → s ≡ constant_of n c → f ≡ sum_of p x s → degree_in (v + 1) f ≡ 0
shifted_room p n v c x s f prime variable shift sum =
    let is : f ≡ sum_of made_prime (variable_power n v 1) (constant_of n c) = cc in
    ap (degree_in (v + 1)) is ∙ shifted_is_free n v (v + 1) c (λ e. omega (arith, e))

-- what is made is in the first eight variables
made_is_free : (n i w : ℕ) → 8 ≤ w → IsFreeOf w (made_polynomial n i)
made_is_free n i w above =
    let low : i % 7 < 7 = omega arith in
    product_is_free made_prime w (variable_power n (i % 7 + 1) 1) (sum_of made_prime (variable_power n (i % 7) 1) (constant_of n (i / 7)))
    (variable_power_is_free n (i % 7 + 1) 1 w (λ e. omega (arith, e, low, above)))
    (shifted_is_free n (i % 7) w (i / 7) (λ e. omega (arith, e, low, above)))

-- one more polynomial is made
pub next_made : (n i : ℕ) (before after : List Polynomial) (f : Polynomial) → after ≡ before ++ f ∷ [] → f ≡ made_polynomial n i → IsPolynomial made_prime n f
    → (before ≡ map (made_polynomial n) (range_with_len 0 i)) × ArePolynomials made_prime n before
    → (after ≡ map (made_polynomial n) (range_with_len 0 (i + 1))) × ArePolynomials made_prime n after
next_made n i before after f more is of_f so_far =
    let front : before ≡ map (made_polynomial n) (range_with_len 0 i) = so_far.0 in
    let all : map (made_polynomial n) (range_with_len 0 (i + 1)) ≡ map (made_polynomial n) (range_with_len 0 i) ++ made_polynomial n i ∷ [] =
    map-range_with_len_more (made_polynomial n) 0 i i (omega arith) in
    (cc, subst (ArePolynomials made_prime n) (sym more) (ArePolynomials-push made_prime n before f so_far.1 of_f))

-- each of them is in the named variables
are_named : (n a k : ℕ) → ArePolynomials made_prime n (map (made_polynomial n) (range_with_len a k))
    → AllByRecursion (IsNamedPolynomial made_prime n made_names) (map (made_polynomial n) (range_with_len a k))
are_named n a zero are = tt
are_named n a (suc k) are = ((are.0, λ w above. made_is_free n a w above), are_named n (a + 1) k are.1)

-- the names may stand
names_are : AreNames VARS made_names
unfolding IsDistinct
names_are = record {
  some = λ e. cc;
  most = lit≤ tt;
  different = ((refl, (refl, (refl, (refl, (refl, (refl, (refl, tt))))))), ((refl, (refl, (refl, (refl, (refl, (refl, tt)))))), ((refl, (refl, (refl, (refl, (refl, tt))))), ((refl, (refl, (refl, (refl, tt)))), ((refl, (refl, (refl, tt))), ((refl, (refl, tt)), ((refl, tt), (tt, tt))))))));
  free = (refl, (refl, (refl, (refl, (refl, (refl, (refl, (refl, tt))))))));
  spelled = (refl, (refl, (refl, (refl, (refl, (refl, (refl, (refl, tt))))))));
}

-- what is made is a system
pub made_is_system : (k : ℕ) → ArePolynomials made_prime VARS (map (made_polynomial VARS) (range_with_len 0 k)) → IsSystem VARS (made_system VARS k)
made_is_system k are =
    let fs = map (made_polynomial VARS) (range_with_len 0 k) in
    let named = are_named VARS 0 k are in
    record {
      prime = (8, lit≤ tt, refl);
      lawful = names_are;
      inputs = λ f at. All-contains (IsNamedPolynomial made_prime VARS made_names) fs f (All-from_recursion (IsNamedPolynomial made_prime VARS made_names) fs named) at;
      nonzero = λ f at. absurd (let below = at.1 in omega (arith, below));
    }

-- by its parts
pub made_from_parts : (k p : ℕ) (names : List (List ℕ)) (inputs nonzero : List Polynomial) → p ≡ made_prime → names ≡ made_names
    → inputs ≡ map (made_polynomial VARS) (range_with_len 0 k) → nonzero ≡ []
    → record { prime = p; names = names; inputs = inputs; nonzero = nonzero } ≡ made_system VARS k
made_from_parts k p names inputs nonzero prime named made none =
    λ i. record { prime = prime i; names = named i; inputs = made i; nonzero = none i }
