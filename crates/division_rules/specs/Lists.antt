-- Polynomials as lists of terms, with the operations that division asks of them.
use Rattle.std.specs.Prelude.{ℕ, [], Option, Some, None}
use Rattle.polynomials.specs.Polynomials.{Polynomial, sum_of, product_of, negative_of, one_of, variable_power, is_zero}
use Rattle.polynomials.specs.Views.{degree_in, coefficient_in, main_var}
use Rattle.polynomials.specs.Fits.{fits}
use Rattle.division_rules.specs.Operations.{Views, Operations}
use Rattle.division_rules.specs.Quotients.{quotient_within}

-- the variable, or 0 where there is none
abbrev pub variable_or_zero : Option ℕ → ℕ
variable_or_zero None = 0
variable_or_zero (Some v) = v

-- the views of polynomials in n variables modulo p
abbrev pub list_views : ℕ → ℕ → Views Polynomial
list_views p n = record {
  is_nil = is_zero;
  degree = degree_in;
  coefficient = coefficient_in;
  variable_power = variable_power n;
  main = λ f. variable_or_zero (main_var f);
  fits = fits;
  quotient = quotient_within p;
}

-- the operations on polynomials in n variables modulo p
abbrev pub list_operations : ℕ → ℕ → Operations Polynomial
list_operations p n = record {
  nil = [];
  one = one_of n;
  plus = sum_of p;
  times = product_of p;
  minus = negative_of p;
  views = list_views p n;
}
