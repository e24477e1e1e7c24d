-- The steps of first cofactors, tried by computation on five sequences of remainder rows.
use Rattle.std.proofs.Common.{◌≡◌, ◌≢◌, ℕ, zero, suc, ◌%◌, ◌<◌, ◌≤◌, List, [], ◌∷◌, ◌++◌, Any, Some, None, inl, refl, subst, arith}
use Rattle.std.proofs.lemmas.Option.{same_Some}
use Rattle.polynomials.specs.Polynomials.{Polynomial, term}
use Rattle.polynomials.specs.Views.{degree_in}
use Rattle.polynomials.specs.Primes.{IsPrime}
use Rattle.zero_sets.specs.Domains.{value_at}
use Rattle.zero_sets.specs.Residues.{residues}
use Rattle.division_rules.specs.Lists.{list_operations}
use Rattle.division_rules.specs.Rows.{Row}
use Rattle.division_rules.specs.Cofactors.{first_cofactor, AreCofactorSteps}
use Rattle.row_laws.specs.Words.{reduction_of}
use Rattle.cofactor_laws.specs.RowsWithCofactors.{leads_from_c, row_of_c, row_of_t, rows_of_chain, rows_with_cofactors, EndWithZeroRow}
use Rattle.row_laws.specs.Members.{LacksMainFrom}

abbrev row : Polynomial → List Polynomial → Row Polynomial
row f cs = record { first = f; cofactors = cs }

-- modulo 5 in a < x: 2 a^2 x^2 + 3 a x and 3 a x + 2, whose first remainder is 0
abbrev single_t : Polynomial
single_t = term (2 ∷ 2 ∷ []) 2 ∷ term (1 ∷ 1 ∷ []) 3 ∷ []

abbrev single_c : Polynomial
single_c = term (1 ∷ 1 ∷ []) 3 ∷ term (0 ∷ 0 ∷ []) 2 ∷ []

abbrev single_zero : Row Polynomial
single_zero = row [] ((term (3 ∷ 1 ∷ []) 4 ∷ []) ∷ (term (2 ∷ 0 ∷ []) 4 ∷ []) ∷ [])

single_rows : rows_with_cofactors 5 2 100 1 single_t single_c [] ≡ record { later = []; last = Some single_zero }
single_rows = refl

single_steps : AreCofactorSteps (list_operations 5 2) 100 1 (rows_of_chain 5 2 []) 2 None (row_of_t 2 single_t []) (row_of_c 2 single_c []) [] (Some single_zero)
single_steps = (record { degrees = refl; factors = []; initials = tt; cofactor_lead = refl }, refl)

-- modulo 5 in a < x: 2 a^2 x^4 + a^2 x and 2 a^2 x^3; the degree falls by 2 at the second row
abbrev steep_t : Polynomial
steep_t = term (2 ∷ 4 ∷ []) 2 ∷ term (2 ∷ 1 ∷ []) 1 ∷ []

abbrev steep_c : Polynomial
steep_c = term (2 ∷ 3 ∷ []) 2 ∷ []

abbrev steep_row_two : Row Polynomial
steep_row_two = row (term (6 ∷ 1 ∷ []) 4 ∷ []) ((term (4 ∷ 1 ∷ []) 1 ∷ []) ∷ (term (4 ∷ 0 ∷ []) 4 ∷ []) ∷ [])

abbrev steep_zero : Row Polynomial
steep_zero = row [] ((term (18 ∷ 3 ∷ []) 3 ∷ term (18 ∷ 0 ∷ []) 4 ∷ []) ∷ (term (18 ∷ 2 ∷ []) 2 ∷ []) ∷ [])

steep_rows : rows_with_cofactors 5 2 100 1 steep_t steep_c [] ≡ record { later = steep_row_two ∷ []; last = Some steep_zero }
steep_rows = refl

steep_steps : AreCofactorSteps (list_operations 5 2) 100 1 (rows_of_chain 5 2 []) 4 None (row_of_t 2 steep_t []) (row_of_c 2 steep_c []) (steep_row_two ∷ []) (Some steep_zero)
steep_steps = (record { degrees = refl; factors = []; initials = tt; cofactor_lead = refl }, (record { degrees = refl; factors = []; initials = tt; cofactor_lead = refl }, refl))

-- modulo 3 in a < x: 2 a x^4 and a x^3 + 2 a x below a^2 + 1; the third row has no quotient by a^2
abbrev skipped_t : Polynomial
skipped_t = term (1 ∷ 4 ∷ []) 2 ∷ []

abbrev skipped_c : Polynomial
skipped_c = term (1 ∷ 3 ∷ []) 1 ∷ term (1 ∷ 1 ∷ []) 2 ∷ []

abbrev skipped_chain : List Polynomial
skipped_chain = (term (2 ∷ 0 ∷ []) 1 ∷ term (0 ∷ 0 ∷ []) 1 ∷ []) ∷ []

abbrev skipped_row_two : Row Polynomial
skipped_row_two = row (term (1 ∷ 2 ∷ []) 1 ∷ []) ((term (2 ∷ 1 ∷ []) 1 ∷ []) ∷ (term (2 ∷ 0 ∷ []) 1 ∷ []) ∷ (term (1 ∷ 2 ∷ []) 1 ∷ []) ∷ [])

abbrev skipped_row_three : Row Polynomial
skipped_row_three = row (term (1 ∷ 1 ∷ []) 1 ∷ []) ((term (4 ∷ 2 ∷ []) 2 ∷ term (2 ∷ 0 ∷ []) 1 ∷ []) ∷ (term (4 ∷ 1 ∷ []) 2 ∷ []) ∷ (term (3 ∷ 3 ∷ []) 2 ∷ term (1 ∷ 1 ∷ []) 1 ∷ []) ∷ [])

abbrev skipped_zero : Row Polynomial
skipped_zero = row [] ((term (6 ∷ 3 ∷ []) 1 ∷ []) ∷ (term (6 ∷ 2 ∷ []) 1 ∷ term (4 ∷ 0 ∷ []) 1 ∷ []) ∷ (term (5 ∷ 4 ∷ []) 1 ∷ []) ∷ [])

skipped_rows : rows_with_cofactors 3 2 100 1 skipped_t skipped_c skipped_chain ≡ record { later = skipped_row_two ∷ skipped_row_three ∷ []; last = Some skipped_zero }
skipped_rows = refl

skipped_steps : AreCofactorSteps (list_operations 3 2) 100 1 (rows_of_chain 3 2 skipped_chain) 4 None (row_of_t 2 skipped_t skipped_chain) (row_of_c 2 skipped_c skipped_chain) (skipped_row_two ∷ skipped_row_three ∷ []) (Some skipped_zero)
skipped_steps = (record { degrees = refl; factors = (term (0 ∷ 0 ∷ []) 1 ∷ []) ∷ []; initials = (inl refl, tt); cofactor_lead = refl }, (record { degrees = refl; factors = (term (0 ∷ 0 ∷ []) 1 ∷ []) ∷ []; initials = (inl refl, tt); cofactor_lead = refl }, (record { degrees = refl; factors = []; initials = tt; cofactor_lead = refl }, refl)))

-- modulo 5 in a < b < x: 4 a x^2 + 3 b and 4 a x + 4 below a b + 3, whose initial a multiplies the cofactor
abbrev multiplied_t : Polynomial
multiplied_t = term (1 ∷ 0 ∷ 2 ∷ []) 4 ∷ term (0 ∷ 1 ∷ 0 ∷ []) 3 ∷ []

abbrev multiplied_c : Polynomial
multiplied_c = term (1 ∷ 0 ∷ 1 ∷ []) 4 ∷ term (0 ∷ 0 ∷ 0 ∷ []) 4 ∷ []

abbrev multiplied_chain : List Polynomial
multiplied_chain = (term (1 ∷ 1 ∷ 0 ∷ []) 1 ∷ term (0 ∷ 0 ∷ 0 ∷ []) 3 ∷ []) ∷ []

abbrev multiplied_zero : Row Polynomial
multiplied_zero = row [] ((term (3 ∷ 0 ∷ 1 ∷ []) 4 ∷ term (2 ∷ 0 ∷ 0 ∷ []) 1 ∷ []) ∷ (term (3 ∷ 0 ∷ 0 ∷ []) 1 ∷ []) ∷ (term (2 ∷ 0 ∷ 0 ∷ []) 2 ∷ []) ∷ [])

multiplied_rows : rows_with_cofactors 5 3 100 2 multiplied_t multiplied_c multiplied_chain ≡ record { later = []; last = Some multiplied_zero }
multiplied_rows = refl

multiplied_steps : AreCofactorSteps (list_operations 5 3) 100 2 (rows_of_chain 5 3 multiplied_chain) 2 None (row_of_t 3 multiplied_t multiplied_chain) (row_of_c 3 multiplied_c multiplied_chain) [] (Some multiplied_zero)
multiplied_steps = (record { degrees = refl; factors = (term (1 ∷ 0 ∷ 0 ∷ []) 1 ∷ []) ∷ []; initials = (inl refl, tt); cofactor_lead = refl }, refl)

five_is_prime : IsPrime 5
five_is_prime = record { many = omega arith; no_divisor = none }
  where
    none : (d : ℕ) → 1 < d → d < 5 → 5 % d ≢ 0
    none zero more less = omega arith
    none (suc zero) more less = omega arith
    none (suc (suc zero)) more less = λ e. cc
    none (suc (suc (suc zero))) more less = λ e. cc
    none (suc (suc (suc (suc zero)))) more less = λ e. cc
    none (suc (suc (suc (suc (suc d))))) more less = absurd (omega arith)

-- a b + 3 is below x, and reduces 4 a x + 4, in which its main variable b doesn't occur
multiplied_ends : EndWithZeroRow 5 3 100 2 multiplied_t multiplied_c multiplied_chain multiplied_zero
multiplied_ends = record {
  prime = five_is_prime;
  canonical = ((refl, omega arith, omega arith, refl, (refl, omega arith, omega arith, tt, tt)), ((refl, omega arith, omega arith, refl, (refl, omega arith, omega arith, tt, tt)), ((refl, omega arith, omega arith, refl, (refl, omega arith, omega arith, tt, tt)), tt)));
  start = record {
    triangular = (1, refl, omega arith, tt);
    below = (refl, tt);
    reduced = ((λ v is. subst (λ u. degree_in u multiplied_c < degree_in u (term (1 ∷ 1 ∷ 0 ∷ []) 1 ∷ term (0 ∷ 0 ∷ 0 ∷ []) 3 ∷ [])) (same_Some 1 v is) (omega arith)), tt);
    occurs = omega arith;
    falls = omega arith;
  };
  last = refl;
}

-- and so it is at 4 a x^2 + 3 b in the triangular set of both
multiplied_lacks : LacksMainFrom 3 multiplied_c (multiplied_t ∷ [])
multiplied_lacks = ((λ u is less. absurd (no_less u (same_Some 2 u is) less)), tt)
  where
    no_less : (u : ℕ) → 2 ≡ u → 3 ≤ u → ⊥
    no_less u same less = omega (arith, same, less)

-- modulo 5 in x < y: y^3 + 4 y^2 and x y^2 + y + 4 below x^2, with a cofactor that reduces to 0
abbrev vanishing_t : Polynomial
vanishing_t = term (0 ∷ 3 ∷ []) 1 ∷ term (0 ∷ 2 ∷ []) 4 ∷ []

abbrev vanishing_c : Polynomial
vanishing_c = term (1 ∷ 2 ∷ []) 1 ∷ term (0 ∷ 1 ∷ []) 1 ∷ term (0 ∷ 0 ∷ []) 4 ∷ []

abbrev vanishing_chain : List Polynomial
vanishing_chain = (term (2 ∷ 0 ∷ []) 1 ∷ []) ∷ []

abbrev vanishing_row_two : Row Polynomial
vanishing_row_two = row (term (1 ∷ 1 ∷ []) 2 ∷ term (0 ∷ 1 ∷ []) 1 ∷ term (1 ∷ 0 ∷ []) 4 ∷ term (0 ∷ 0 ∷ []) 4 ∷ []) ((term (1 ∷ 1 ∷ []) 4 ∷ term (1 ∷ 0 ∷ []) 1 ∷ term (0 ∷ 0 ∷ []) 1 ∷ []) ∷ (term (2 ∷ 0 ∷ []) 1 ∷ []) ∷ [] ∷ [])

abbrev vanishing_zero : Row Polynomial
vanishing_zero = row [] ((term (3 ∷ 2 ∷ []) 2 ∷ term (2 ∷ 2 ∷ []) 1 ∷ term (3 ∷ 1 ∷ []) 4 ∷ term (3 ∷ 0 ∷ []) 4 ∷ []) ∷ (term (4 ∷ 1 ∷ []) 3 ∷ term (3 ∷ 1 ∷ []) 4 ∷ term (4 ∷ 0 ∷ []) 4 ∷ term (3 ∷ 0 ∷ []) 2 ∷ term (2 ∷ 0 ∷ []) 4 ∷ []) ∷ (term (1 ∷ 0 ∷ []) 4 ∷ []) ∷ [])

vanishing_rows : rows_with_cofactors 5 2 100 1 vanishing_t vanishing_c vanishing_chain ≡ record { later = vanishing_row_two ∷ []; last = Some vanishing_zero }
vanishing_rows = refl

vanishing_steps : AreCofactorSteps (list_operations 5 2) 100 1 (rows_of_chain 5 2 vanishing_chain) 3 None (row_of_t 2 vanishing_t vanishing_chain) (row_of_c 2 vanishing_c vanishing_chain) (vanishing_row_two ∷ []) (Some vanishing_zero)
vanishing_steps = (record { degrees = refl; factors = []; initials = tt; cofactor_lead = refl }, (record { degrees = refl; factors = (term (0 ∷ 0 ∷ []) 1 ∷ []) ∷ []; initials = (inl refl, tt); cofactor_lead = refl }, refl))

vanishing_reduces : reduction_of 5 2 (vanishing_chain ++ vanishing_t ∷ []) (first_cofactor (list_operations 5 2) vanishing_zero) ≡ []
vanishing_reduces = refl

-- at x = 0 and y = 1, where x^2 and y^3 + 4 y^2 are zero, the lead x is
vanishing_lead : Any (λ l. value_at (residues 5) (0 ∷ 1 ∷ []) l ≡ 0) (leads_from_c 5 2 100 1 vanishing_t vanishing_c vanishing_chain)
vanishing_lead = (0, term (1 ∷ 0 ∷ []) 1 ∷ [], omega arith, refl, refl)
