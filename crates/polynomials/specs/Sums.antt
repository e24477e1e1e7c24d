-- Sums of products and powers: of anything that is added and multiplied, and of polynomials.
use Rattle.std.specs.Prelude.{ℕ, zero, suc, List, [], ◌∷◌}
use Rattle.polynomials.specs.Polynomials.{Polynomial, sum_of, product_of}

-- the sum of the products of the entries at the same places
abbrev pub sum_of_products :
    {A : Type 0} → A → (A → A → A) → (A → A → A) → List A → List A → A
sum_of_products nil plus times [] gs = nil
sum_of_products nil plus times (c ∷ cs) [] = nil
sum_of_products nil plus times (c ∷ cs) (g ∷ gs) =
    plus (times c g) (sum_of_products nil plus times cs gs)

-- a to the power e
abbrev pub power_by : {A : Type 0} → A → (A → A → A) → A → ℕ → A
power_by one times a zero = one
power_by one times a (suc zero) = a
power_by one times a (suc (suc e)) = times (power_by one times a (suc e)) a

-- the combination of generators with their cofactors: the sum of the products
abbrev pub combination : ℕ → List Polynomial → List Polynomial → Polynomial
combination p cs gs = sum_of_products [] (sum_of p) (product_of p) cs gs
