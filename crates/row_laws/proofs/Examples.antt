-- The definitions, tried by computation modulo 5 on polynomials in a < b < x.
use Rattle.std.proofs.Common.{◌≡◌, ℕ, ◌<◌, [], ◌∷◌, Some, Contains, refl, subst, arith}
use Rattle.std.proofs.lemmas.List.Elements.{All-nil, All-cons}
use Rattle.std.proofs.lemmas.Option.{same_Some}
use Rattle.polynomials.specs.Polynomials.{Polynomial, term, scaled}
use Rattle.polynomials.specs.Views.{degree_in}
use Rattle.zero_sets.specs.Residues.{residues}
use Rattle.division_rules.specs.Rows.{Row, plain, first_entries}
use Rattle.division_rules.proofs.Factors.{Contains-first}
use Rattle.row_laws.specs.Words.{reduction_of, StartRemainderRows}
use Rattle.row_laws.specs.Combinations.{IsRowOver}
use Rattle.row_laws.specs.Values.{IsMultipleByInitials}
use Rattle.row_laws.specs.Degrees.{IsRowFreeOf}
use Rattle.row_laws.specs.Members.{IsMember, IsPointAtMember}

abbrev one : Polynomial
one = term (0 ∷ 0 ∷ 0 ∷ []) 1 ∷ []

abbrev four : Polynomial
four = term (0 ∷ 0 ∷ 0 ∷ []) 4 ∷ []

-- a, b, b^2 and x
abbrev a : Polynomial
a = term (1 ∷ 0 ∷ 0 ∷ []) 1 ∷ []

abbrev b : Polynomial
b = term (0 ∷ 1 ∷ 0 ∷ []) 1 ∷ []

abbrev square : Polynomial
square = term (0 ∷ 2 ∷ 0 ∷ []) 1 ∷ []

abbrev x : Polynomial
x = term (0 ∷ 0 ∷ 1 ∷ []) 1 ∷ []

-- a b + 3, whose initial is a
abbrev hyperbola : Polynomial
hyperbola = term (1 ∷ 1 ∷ 0 ∷ []) 1 ∷ term (0 ∷ 0 ∷ 0 ∷ []) 3 ∷ []

-- 4 a x^2 + 3 b
abbrev parabola : Polynomial
parabola = term (1 ∷ 0 ∷ 2 ∷ []) 4 ∷ term (0 ∷ 1 ∷ 0 ∷ []) 3 ∷ []

entries : first_entries (plain a ∷ plain b ∷ []) ≡ a ∷ b ∷ []
entries = refl

-- a (a b^2 - b (a b + 3)) + 3 (a b + 3) = 4
reduced : reduction_of 5 3 (hyperbola ∷ []) square ≡ four
reduced = refl

reduced_multiple : reduction_of 5 3 (hyperbola ∷ []) (scaled 5 3 square) ≡ scaled 5 3 four
reduced_multiple = refl

-- at a = 2 and b = 1 the value 1 of b^2 is multiplied by a^2
multiplied : IsMultipleByInitials 5 3 (residues 5) (2 ∷ 1 ∷ 0 ∷ []) (hyperbola ∷ []) 1 4
multiplied = (a ∷ a ∷ [], All-cons (Contains (a ∷ [])) a (a ∷ []) first (All-cons (Contains (a ∷ [])) a [] first (All-nil (Contains (a ∷ [])))), refl)
  where
    first : Contains (a ∷ []) a
    first = Contains-first a []

-- 4 a x^2 + 3 b and a x + 4 start remainder rows in x below a b + 3
abbrev line : Polynomial
line = term (1 ∷ 0 ∷ 1 ∷ []) 1 ∷ four

start : StartRemainderRows 2 (hyperbola ∷ []) parabola line
start = record {
  triangular = (1, refl, omega arith, tt);
  below = (refl, tt);
  reduced = ((λ v is. less v is), tt);
  occurs = omega arith;
  falls = omega arith;
}
  where
    less : (v : ℕ) → Some 1 ≡ Some v → degree_in v line < degree_in v hyperbola
    less v is = subst (λ u. degree_in u line < degree_in u hyperbola) (same_Some 1 v is) (omega arith)

-- b x over b and x, with the cofactors x and 0
abbrev product_row : Row Polynomial
product_row = record { first = term (0 ∷ 1 ∷ 1 ∷ []) 1 ∷ []; cofactors = x ∷ [] ∷ [] }

over : IsRowOver 5 3 (b ∷ x ∷ []) product_row
over = record {
  canonical = ((refl, omega arith, omega arith, tt, tt), ((refl, omega arith, omega arith, tt, tt), (tt, tt)));
  combination = record { one_each = refl; identity = refl };
}

free : IsRowFreeOf 0 product_row
free = (refl, (refl, (refl, tt)))

member : IsMember 2 (hyperbola ∷ parabola ∷ []) parabola
member = record { main = refl; more = []; parts = refl }

-- at a = 1, b = 2 and x = 1 both are zero
at_member : IsPointAtMember 2 (residues 5) (1 ∷ 2 ∷ 1 ∷ []) (hyperbola ∷ parabola ∷ []) parabola
at_member = record { below = ((refl, tt), ((λ e. cc), tt)); zero = refl; lead = λ e. cc }
