-- The definitions, tried by computation on polynomials in a and x modulo 5.
use Rattle.std.proofs.Common.{◌≡◌, ℕ, [], ◌∷◌, Some, None, refl}
use Rattle.polynomials.specs.Polynomials.{Polynomial, term}
use Rattle.division_rules.specs.Operations.{Operations, power}
use Rattle.division_rules.specs.Lists.{list_operations}
use Rattle.division_rules.specs.Quotients.{quotient_within, without_factors}
use Rattle.division_rules.specs.Rows.{Row, plain, elimination, pseudo_remainder, reduction}
use Rattle.division_rules.specs.Within.{pseudo_remainder_within, power_of_within}
use Rattle.division_rules.specs.RemainderRows.{remainder_rows, leads}
use Rattle.division_rules.specs.RemainderRowsWithin.{remainder_rows_within}

abbrev o : Operations Polynomial
o = list_operations 5 2

abbrev one : Polynomial
one = term (0 ∷ 0 ∷ []) 1 ∷ []

abbrev x : Polynomial
x = term (0 ∷ 1 ∷ []) 1 ∷ []

abbrev four_a : Polynomial
four_a = term (1 ∷ 0 ∷ []) 4 ∷ []

abbrev x_plus : ℕ → Polynomial
x_plus c = term (0 ∷ 1 ∷ []) 1 ∷ term (0 ∷ 0 ∷ []) c ∷ []

-- x^2 + 4 x and x^2 + 4 a
abbrev f : Polynomial
f = term (0 ∷ 2 ∷ []) 1 ∷ term (0 ∷ 1 ∷ []) 4 ∷ []

abbrev g : Polynomial
g = term (0 ∷ 2 ∷ []) 1 ∷ term (1 ∷ 0 ∷ []) 4 ∷ []

quotient_at_width_two : quotient_within 5 2 f x ≡ Some (x_plus 4)
quotient_at_width_two = refl

none_at_width_one : quotient_within 5 1 f x ≡ None
none_at_width_one = refl

none_with_a_remainder : quotient_within 5 9 (x_plus 1) x ≡ None
none_with_a_remainder = refl

quotient_of_zero : quotient_within 5 0 [] x ≡ Some []
quotient_of_zero = refl

factors_removed : without_factors 5 9 ((term (0 ∷ 0 ∷ []) 3 ∷ []) ∷ x ∷ []) (term (0 ∷ 2 ∷ []) 1 ∷ []) ≡ one
factors_removed = refl

zero_stays : without_factors 5 9 (x ∷ []) [] ≡ []
zero_stays = refl

-- a factor stays where its quotient doesn't fit
narrow : without_factors 5 1 (x ∷ []) f ≡ f
narrow = refl

-- the generators x and x^2 + 4 a as rows
abbrev first_row : Row Polynomial
first_row = record { first = x; cofactors = one ∷ [] ∷ [] }

abbrev second_row : Row Polynomial
second_row = record { first = g; cofactors = [] ∷ one ∷ [] }

-- 4 a = 4 x * x + 1 * (x^2 + 4 a)
abbrev last_row : Row Polynomial
last_row = record { first = four_a; cofactors = (term (0 ∷ 1 ∷ []) 4 ∷ []) ∷ one ∷ [] }

remainder_with_cofactors : pseudo_remainder o 1 second_row first_row ≡ last_row
remainder_with_cofactors = refl

elimination_with_cofactors : elimination o 1 second_row first_row ≡ last_row
elimination_with_cofactors = refl

remainder_within : pseudo_remainder_within o 2 1 second_row first_row ≡ Some last_row
remainder_within = refl

remainder_too_wide : pseudo_remainder_within o 1 1 second_row first_row ≡ None
remainder_too_wide = refl

reduced : reduction o (plain (x_plus 4) ∷ []) (plain x) ≡ plain one
reduced = refl

reduced_with_cofactors : reduction o (record { first = x_plus 4; cofactors = [] ∷ one ∷ [] } ∷ []) (record { first = x; cofactors = one ∷ [] ∷ [] }) ≡ record { first = one; cofactors = one ∷ (term (0 ∷ 0 ∷ []) 4 ∷ []) ∷ [] }
reduced_with_cofactors = refl

square : power o (x_plus 1) 2 ≡ term (0 ∷ 2 ∷ []) 1 ∷ term (0 ∷ 1 ∷ []) 2 ∷ term (0 ∷ 0 ∷ []) 1 ∷ []
square = refl

square_too_wide : power_of_within o 3 (x_plus 1) 2 ≡ None
square_too_wide = refl

-- x^2 + 4 a and x are coprime: their rows end with 4 a, and the leads are 1 and 4 a
coprime_rows : remainder_rows o 9 1 [] (record { first = g; cofactors = [] ∷ one ∷ [] }) (record { first = x; cofactors = one ∷ [] ∷ [] }) ≡ record { later = last_row ∷ []; last = None }
coprime_rows = refl

coprime_leads : leads o 1 (first_row ∷ last_row ∷ []) ≡ one ∷ four_a ∷ []
coprime_leads = refl

-- the rows of x^2 + 4 and x + 4 end with a zero row at once
common_rows : remainder_rows_within o 9 1 [] (plain (term (0 ∷ 2 ∷ []) 1 ∷ term (0 ∷ 0 ∷ []) 4 ∷ [])) (plain (x_plus 4)) ≡ Some (record { later = []; last = Some (plain []) })
common_rows = refl
