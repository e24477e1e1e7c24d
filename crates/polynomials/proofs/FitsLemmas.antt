-- What it is to fit a width.
use Rattle.std.proofs.Common.{◌≡◌, ◌⊎◌, ◌↔◌, ℕ, zero, suc, ◌+◌, ◌*◌, ◌≤◌, max, Bool, true, false, ◌&&◌, leb, [], ◌∷◌, length, Some, None, Option, refl, sym, ap, ◌∙◌, subst, inl, inr, add_comm, mul_comm, arith}
use Rattle.std.proofs.lemmas.Bool.{and_parts, and_from, leb-true, le-leb}
use Rattle.std.proofs.lemmas.Option.{same_Some}
use Rattle.polynomials.specs.Monomials.{Monomial, exponent_of, monomial_product}
use Rattle.polynomials.specs.Polynomials.{Polynomial, product_of}
use Rattle.polynomials.specs.Views.{degree_in}
use Rattle.polynomials.specs.Fits.{greater_exponents, degrees, is_exponent_list, fits, product_within}
use Rattle.polynomials.specs.Laws.{FitsInEachVariable}
use Rattle.polynomials.proofs.Exponents.{exponent_of-product}

-- the greater exponents, one by one
pub exponent_of-greater : (v : ℕ) (l m : Monomial) → exponent_of v (greater_exponents l m) ≡ max (exponent_of v l) (exponent_of v m)
exponent_of-greater v [] m = omega arith
exponent_of-greater v (d ∷ l) [] = omega arith
exponent_of-greater zero (d ∷ l) (e ∷ m) = refl
exponent_of-greater (suc v) (d ∷ l) (e ∷ m) = exponent_of-greater v l m

-- those of a monomial and of none are its own
pub greater_exponents-nil : (m : Monomial) → greater_exponents m [] ≡ m
greater_exponents-nil [] = refl
greater_exponents-nil (d ∷ m) = refl

-- the list of degrees has the degree in each variable
pub exponent_of-degrees : (v : ℕ) (f : Polynomial) → exponent_of v (degrees f) ≡ degree_in v f
exponent_of-degrees v [] = refl
exponent_of-degrees v (t ∷ f) = exponent_of-greater v t.0 (degrees f) ∙ ap (max (exponent_of v t.0)) (exponent_of-degrees v f)

-- a list of exponents has small exponents alone
exponents_small : (m : Monomial) → is_exponent_list m ≡ true → (v : ℕ) → exponent_of v m ≤ 65535
exponents_small [] h v = omega arith
exponents_small (e ∷ m) h zero = leb-true e 65535 (and_parts (leb e 65535) (is_exponent_list m) h).0
exponents_small (e ∷ m) h (suc v) = exponents_small m (and_parts (leb e 65535) (is_exponent_list m) h).1 v

exponents_from_small : (m : Monomial) → ((v : ℕ) → exponent_of v m ≤ 65535) → is_exponent_list m ≡ true
exponents_from_small [] h = refl
exponents_from_small (e ∷ m) h = and_from (leb e 65535) (is_exponent_list m) (le-leb e 65535 (h 0)) (exponents_from_small m (λ v. h (suc v)))

-- the test for small exponents says what it is named for
pub is_exponent_list_iff : (m : Monomial) → (is_exponent_list m ≡ true) ↔ ((v : ℕ) → exponent_of v m ≤ 65535)
is_exponent_list_iff m = (exponents_small m, exponents_from_small m)

-- the exponents of the product of the lists of degrees
product_of_degrees : (v : ℕ) (f g : Polynomial) → exponent_of v (monomial_product (degrees f) (degrees g)) ≡ degree_in v f + degree_in v g
product_of_degrees v f g = exponent_of-product v (degrees f) (degrees g) ∙ ap (λ x. x + exponent_of v (degrees g)) (exponent_of-degrees v f) ∙ ap (λ x. degree_in v f + x) (exponent_of-degrees v g)

-- the test on two polynomials other than 0
both_ways : (w : ℕ) (f g : Polynomial) → ((leb (length f * length g) w && is_exponent_list (monomial_product (degrees f) (degrees g))) ≡ true) ↔ ((length f * length g ≤ w) × ((v : ℕ) → degree_in v f + degree_in v g ≤ 65535))
both_ways w f g = (there, back)
  where
    there : (leb (length f * length g) w && is_exponent_list (monomial_product (degrees f) (degrees g))) ≡ true → (length f * length g ≤ w) × ((v : ℕ) → degree_in v f + degree_in v g ≤ 65535)
    there h =
        let parts = and_parts (leb (length f * length g) w) (is_exponent_list (monomial_product (degrees f) (degrees g))) h in
        (leb-true (length f * length g) w parts.0, λ v. subst (λ x. x ≤ 65535) (product_of_degrees v f g) (exponents_small (monomial_product (degrees f) (degrees g)) parts.1 v))

    back : (length f * length g ≤ w) × ((v : ℕ) → degree_in v f + degree_in v g ≤ 65535) → (leb (length f * length g) w && is_exponent_list (monomial_product (degrees f) (degrees g))) ≡ true
    back h = and_from (leb (length f * length g) w) (is_exponent_list (monomial_product (degrees f) (degrees g))) (le-leb (length f * length g) w h.0) (exponents_from_small (monomial_product (degrees f) (degrees g)) (λ v. subst (λ x. x ≤ 65535) (sym (product_of_degrees v f g)) (h.1 v)))

-- the law of what it is to fit
pub fits_in_each_variable : FitsInEachVariable
fits_in_each_variable w [] g = ((λ h. inl refl), (λ h. refl))
fits_in_each_variable w (t ∷ f) [] = ((λ h. inr (inl refl)), (λ h. refl))
fits_in_each_variable w (t ∷ f) (u ∷ g) = ((λ h. inr (inr ((both_ways w (t ∷ f) (u ∷ g)).0 h))), back)
  where
    back : (t ∷ f ≡ []) ⊎ ((u ∷ g ≡ []) ⊎ ((length (t ∷ f) * length (u ∷ g) ≤ w) × ((v : ℕ) → degree_in v (t ∷ f) + degree_in v (u ∷ g) ≤ 65535))) → fits w (t ∷ f) (u ∷ g) ≡ true
    back (inl e) = cc
    back (inr (inl e)) = cc
    back (inr (inr h)) = (both_ways w (t ∷ f) (u ∷ g)).1 h

-- what a test lets through
pub passes_test : (b : Bool) (f g : Polynomial) → elim b as (λ _. Option Polynomial) [ true ↦ Some f | false ↦ None ] ≡ Some g → (b ≡ true) × (f ≡ g)
passes_test true f g e = (refl, same_Some f g e)
passes_test false f g e = cc

-- a product within a width is the product, and fits
pub product_within_is : (p w : ℕ) (f g h : Polynomial) → product_within p w f g ≡ Some h → (fits w f g ≡ true) × (product_of p f g ≡ h)
product_within_is p w f g h e = passes_test (fits w f g) (product_of p f g) h e

-- what two polynomials that fit have, in the other order
fits_turned : (w : ℕ) (f g : Polynomial) → (f ≡ []) ⊎ ((g ≡ []) ⊎ ((length f * length g ≤ w) × ((v : ℕ) → degree_in v f + degree_in v g ≤ 65535))) → (g ≡ []) ⊎ ((f ≡ []) ⊎ ((length g * length f ≤ w) × ((v : ℕ) → degree_in v g + degree_in v f ≤ 65535)))
fits_turned w f g (inl e) = inr (inl e)
fits_turned w f g (inr (inl e)) = inl e
fits_turned w f g (inr (inr h)) = inr (inr (subst (λ n. n ≤ w) (mul_comm (length f) (length g)) h.0, λ v. subst (λ n. n ≤ 65535) (add_comm (degree_in v f) (degree_in v g)) (h.1 v)))

-- the order of the factors doesn't matter
pub fits_comm : (w : ℕ) (f g : Polynomial) → fits w f g ≡ true → fits w g f ≡ true
fits_comm w f g e = (fits_in_each_variable w g f).1 (fits_turned w f g ((fits_in_each_variable w f g).0 e))
