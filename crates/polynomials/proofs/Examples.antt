-- The definitions, tried by computation on polynomials in x and y modulo 5, and some in more variables.
use Rattle.std.proofs.Common.{◌≡◌, true, false, [], ◌∷◌, Some, None, refl}
use Rattle.std.specs.declared.cmp.Ordering.TheVariants.{Less, Greater}
use Rattle.polynomials.specs.Monomials.{monomial_order}
use Rattle.polynomials.specs.Polynomials.{Polynomial, term, collected, sum_of, difference_of, product_of, negative_of, constant_of, monic}
use Rattle.polynomials.specs.Primes.{inverse_of}
use Rattle.polynomials.specs.Views.{degree_in, lead_in, tail_in, main_var, initial_of, is_constant}
use Rattle.polynomials.specs.Fits.{fits, product_within, power_of, power_within}

-- x y^2 + y + 1
abbrev f : Polynomial
f = term (1 ∷ 2 ∷ []) 1 ∷ term (0 ∷ 1 ∷ []) 1 ∷ term (0 ∷ 0 ∷ []) 1 ∷ []

-- x, 4 x + 1, x + 1 and x + 4
abbrev x : Polynomial
x = term (1 ∷ 0 ∷ []) 1 ∷ []

abbrev four_x_plus_one : Polynomial
four_x_plus_one = term (1 ∷ 0 ∷ []) 4 ∷ term (0 ∷ 0 ∷ []) 1 ∷ []

abbrev x_plus_one : Polynomial
x_plus_one = term (1 ∷ 0 ∷ []) 1 ∷ term (0 ∷ 0 ∷ []) 1 ∷ []

abbrev x_plus_four : Polynomial
x_plus_four = term (1 ∷ 0 ∷ []) 1 ∷ term (0 ∷ 0 ∷ []) 4 ∷ []

abbrev one : Polynomial
one = term (0 ∷ 0 ∷ []) 1 ∷ []

abbrev square : Polynomial
square = term (2 ∷ 0 ∷ []) 1 ∷ term (1 ∷ 0 ∷ []) 2 ∷ term (0 ∷ 0 ∷ []) 1 ∷ []

-- y is greater than x^3, and x^2 y than x y
y_is_greater : monomial_order (3 ∷ 0 ∷ []) (0 ∷ 1 ∷ []) ≡ Less
y_is_greater = refl

more_x_is_greater : monomial_order (2 ∷ 1 ∷ []) (1 ∷ 1 ∷ []) ≡ Greater
more_x_is_greater = refl

lead_in_y : lead_in 1 f ≡ x
lead_in_y = refl

tail_in_y : tail_in 1 f ≡ term (0 ∷ 1 ∷ []) 1 ∷ term (0 ∷ 0 ∷ []) 1 ∷ []
tail_in_y = refl

degree_in_y : degree_in 1 f ≡ 2
degree_in_y = refl

main_variable : main_var f ≡ Some 1
main_variable = refl

initial : initial_of f ≡ x
initial = refl

no_main_variable : main_var one ≡ None
no_main_variable = refl

constant_test : is_constant one ≡ true
constant_test = refl

terms_in_any_order : collected 5 (term (1 ∷ 0 ∷ []) 3 ∷ term (0 ∷ 0 ∷ []) 1 ∷ term (1 ∷ 0 ∷ []) 2 ∷ []) ≡ one
terms_in_any_order = refl

too_wide : product_within 5 3 x_plus_one x_plus_one ≡ None
too_wide = refl

wide_enough : product_within 5 4 x_plus_one x_plus_one ≡ Some square
wide_enough = refl

exponents_too_large : fits 4 (term (65535 ∷ 0 ∷ []) 1 ∷ []) x ≡ false
exponents_too_large = refl

exponents_at_the_limit : fits 4 (term (65534 ∷ 0 ∷ []) 1 ∷ []) x ≡ true
exponents_at_the_limit = refl

zero_fits : fits 0 [] f ≡ true
zero_fits = refl

monic_form : monic 5 four_x_plus_one ≡ x_plus_four
monic_form = refl

difference : difference_of 5 x x_plus_four ≡ one
difference = refl

sum_is_zero : sum_of 5 x_plus_four four_x_plus_one ≡ []
sum_is_zero = refl

negative : negative_of 5 x_plus_four ≡ four_x_plus_one
negative = refl

constant : constant_of 2 3 ≡ term (0 ∷ 0 ∷ []) 3 ∷ []
constant = refl

zero_constant : constant_of 2 0 ≡ []
zero_constant = refl

square_as_power : power_of 5 2 x_plus_one 2 ≡ square
square_as_power = refl

power_too_wide : power_within 5 2 3 x_plus_one 2 ≡ None
power_too_wide = refl

-- modulo 2, (x + y)^2 = x^2 + y^2
square_modulo_two : power_of 2 2 (term (0 ∷ 1 ∷ []) 1 ∷ term (1 ∷ 0 ∷ []) 1 ∷ []) 2 ≡ term (0 ∷ 2 ∷ []) 1 ∷ term (2 ∷ 0 ∷ []) 1 ∷ []
square_modulo_two = refl

-- modulo 32003, (2 x + z) (16001 x y + z) = z^2 + 16001 x y z + 2 x z + 32002 x^2 y
product_in_three_variables : product_of 32003 (term (0 ∷ 0 ∷ 1 ∷ []) 1 ∷ term (1 ∷ 0 ∷ 0 ∷ []) 2 ∷ []) (term (0 ∷ 0 ∷ 1 ∷ []) 1 ∷ term (1 ∷ 1 ∷ 0 ∷ []) 16001 ∷ []) ≡ term (0 ∷ 0 ∷ 2 ∷ []) 1 ∷ term (1 ∷ 1 ∷ 1 ∷ []) 16001 ∷ term (1 ∷ 0 ∷ 1 ∷ []) 2 ∷ term (2 ∷ 1 ∷ 0 ∷ []) 32002 ∷ []
product_in_three_variables = refl

inverse_modulo_32003 : inverse_of 32003 2 ≡ 16002
inverse_modulo_32003 = refl

inverse_modulo_65537 : inverse_of 65537 65536 ≡ 65536
inverse_modulo_65537 = refl
