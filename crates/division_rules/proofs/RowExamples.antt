-- The definitions on remainder rows, tried by computation on polynomials in a and x modulo 5.
use Rattle.std.proofs.Common.{◌≡◌, ℕ, List, [], ◌∷◌, Some, None, inl, inr, refl, arith}
use Rattle.polynomials.specs.Polynomials.{Polynomial, term}
use Rattle.division_rules.specs.Operations.{Operations}
use Rattle.division_rules.specs.Lists.{list_operations}
use Rattle.division_rules.specs.Rows.{Row}
use Rattle.division_rules.specs.RemainderRows.{remainder_rows}
use Rattle.division_rules.specs.Turns.{turns_left, times_row_often, DegreesFall, last_row}
use Rattle.division_rules.specs.Units.{IsCombinationOf, unit_rows, entrywise_sum}
use Rattle.division_rules.specs.Points.{product_of_all, AreInitials}
use Rattle.division_rules.specs.Cofactors.{AreCofactorSteps}

abbrev o : Operations Polynomial
o = list_operations 5 2

abbrev constant : ℕ → Polynomial
constant c = term (0 ∷ 0 ∷ []) c ∷ []

-- a, x, x + 4, x^2 + 4 and x^2 + 4 a
abbrev a : Polynomial
a = term (1 ∷ 0 ∷ []) 1 ∷ []

abbrev x : Polynomial
x = term (0 ∷ 1 ∷ []) 1 ∷ []

abbrev x_plus_four : Polynomial
x_plus_four = term (0 ∷ 1 ∷ []) 1 ∷ constant 4

abbrev square_plus_four : Polynomial
square_plus_four = term (0 ∷ 2 ∷ []) 1 ∷ constant 4

abbrev square_plus_four_a : Polynomial
square_plus_four_a = term (0 ∷ 2 ∷ []) 1 ∷ term (1 ∷ 0 ∷ []) 4 ∷ []

abbrev row : Polynomial → List Polynomial → Row Polynomial
row f cs = record { first = f; cofactors = cs }

generators : unit_rows o 0 (x ∷ square_plus_four ∷ a ∷ []) ≡ row x (constant 1 ∷ [] ∷ [] ∷ []) ∷ row square_plus_four ([] ∷ constant 1 ∷ [] ∷ []) ∷ row a ([] ∷ [] ∷ constant 1 ∷ []) ∷ []
generators = refl

sums : entrywise_sum o (x ∷ constant 2 ∷ []) (a ∷ constant 3 ∷ []) ≡ (term (0 ∷ 1 ∷ []) 1 ∷ a) ∷ [] ∷ []
sums = refl

last_of_rows : last_row (row x []) (row a [] ∷ []) ≡ row a []
last_of_rows = refl

initials : AreInitials o (row x [] ∷ row square_plus_four [] ∷ []) (constant 1 ∷ constant 1 ∷ [])
initials = (inl refl, (inr (inl refl), tt))

product : product_of_all o (x ∷ a ∷ []) ≡ term (1 ∷ 1 ∷ []) 1 ∷ []
product = refl

-- by 2 x + 3 there are two eliminations of x^2 + 4 a, by x there is one
abbrev two_x_plus_three : Polynomial
two_x_plus_three = term (0 ∷ 1 ∷ []) 2 ∷ constant 3

multiplications_left : turns_left o 1 (row x []) 2 (row square_plus_four_a []) ≡ 1
multiplications_left = refl

two_eliminations : turns_left o 1 (row two_x_plus_three []) 2 (row square_plus_four_a []) ≡ 0
two_eliminations = refl

multiplied_often : times_row_often o (constant 2) 2 (row x (constant 1 ∷ [])) ≡ row (term (0 ∷ 1 ∷ []) 4 ∷ []) (constant 4 ∷ [])
multiplied_often = refl

-- the rows of x^2 + 4 a and x, over x and x^2 + 4 a
abbrev coprime_first : Row Polynomial
coprime_first = row x (constant 1 ∷ [] ∷ [])

abbrev coprime_second : Row Polynomial
coprime_second = row square_plus_four_a ([] ∷ constant 1 ∷ [])

abbrev coprime_last : Row Polynomial
coprime_last = row (term (1 ∷ 0 ∷ []) 4 ∷ []) ((term (0 ∷ 1 ∷ []) 4 ∷ []) ∷ constant 1 ∷ [])

coprime_rows : remainder_rows o 9 1 [] coprime_second coprime_first ≡ record { later = coprime_last ∷ []; last = None }
coprime_rows = refl

coprime_degrees : DegreesFall o 1 coprime_first (coprime_last ∷ []) None
coprime_degrees = (omega arith, omega arith, refl)

coprime_combination : IsCombinationOf o (x ∷ square_plus_four_a ∷ []) coprime_last
coprime_combination = record { one_each = refl; identity = refl }

coprime_steps : AreCofactorSteps o 9 1 [] 2 None coprime_second coprime_first (coprime_last ∷ []) None
coprime_steps = (record { degrees = refl; factors = []; initials = tt; cofactor_lead = refl }, tt)

-- the rows of x^2 + 4 and x + 4, over x + 4 and x^2 + 4: the zero row is 4 (x + 1) (x + 4) + (x^2 + 4)
abbrev common_first : Row Polynomial
common_first = row x_plus_four (constant 1 ∷ [] ∷ [])

abbrev common_second : Row Polynomial
common_second = row square_plus_four ([] ∷ constant 1 ∷ [])

abbrev common_last : Row Polynomial
common_last = row [] ((term (0 ∷ 1 ∷ []) 4 ∷ constant 4) ∷ constant 1 ∷ [])

common_rows : remainder_rows o 9 1 [] common_second common_first ≡ record { later = []; last = Some common_last }
common_rows = refl

common_degrees : DegreesFall o 1 common_first [] (Some common_last)
common_degrees = (omega arith, refl)

common_steps : AreCofactorSteps o 9 1 [] 2 None common_second common_first [] (Some common_last)
common_steps = (record { degrees = refl; factors = []; initials = tt; cofactor_lead = refl }, refl)
