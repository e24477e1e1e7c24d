-- Monomials in finitely many variables and their lexicographic order.
use Rattle.std.specs.Prelude.{ℕ, zero, suc, ◌+◌, ◌≤◌, Bool, true, false, eqb, ◌&&◌, List, [], ◌∷◌, Option, Some, None, get_or}
use Rattle.std.specs.Ordering.{nat_cmp, ordering_then}
use Rattle.std.specs.declared.cmp.Ordering.{Ordering}
use Rattle.std.specs.declared.cmp.Ordering.TheVariants.{Less, Equal, Greater}

-- a monomial: the exponents of the variables, the least variable first
abbrev pub Monomial : Type 0
Monomial = List ℕ

-- the exponent of the variable v
abbrev pub exponent_of : ℕ → Monomial → ℕ
exponent_of v m = get_or m v 0

-- the lexicographic order, in which the greatest variable decides first
abbrev pub monomial_order : Monomial → Monomial → Ordering
monomial_order [] [] = Equal
monomial_order [] (e ∷ m) = Less
monomial_order (d ∷ l) [] = Greater
monomial_order (d ∷ l) (e ∷ m) = ordering_then (monomial_order l m) (nat_cmp d e)

-- both have the same exponents
abbrev pub same_monomial : Monomial → Monomial → Bool
same_monomial [] [] = true
same_monomial [] (e ∷ m) = false
same_monomial (d ∷ l) [] = false
same_monomial (d ∷ l) (e ∷ m) = eqb d e && same_monomial l m

-- the product: exponents add
abbrev pub monomial_product : Monomial → Monomial → Monomial
monomial_product [] m = m
monomial_product (d ∷ l) [] = d ∷ l
monomial_product (d ∷ l) (e ∷ m) = (d + e) ∷ monomial_product l m

-- l divides m: no exponent of l is greater than that of m
abbrev pub MonomialDivides : Monomial → Monomial → Type 0
MonomialDivides l m = (v : ℕ) → exponent_of v l ≤ exponent_of v m

-- the greatest exponent that is allowed: 16 bits hold it
abbrev pub most_exponent : ℕ
most_exponent = 65535

-- no exponent of the product passes that
abbrev pub ExponentsFit : Monomial → Monomial → Type 0
ExponentsFit l m = (v : ℕ) → exponent_of v l + exponent_of v m ≤ most_exponent

-- the greatest variable of e ∷ m, where that of m is known and the variables of m count from 1
abbrev pub greatest_of : ℕ → Option ℕ → Option ℕ
greatest_of e (Some v) = Some (suc v)
greatest_of zero None = None
greatest_of (suc e) None = Some 0

-- the greatest variable with an exponent other than 0, if there is one
abbrev pub greatest_variable : Monomial → Option ℕ
greatest_variable [] = None
greatest_variable (e ∷ m) = greatest_of e (greatest_variable m)
