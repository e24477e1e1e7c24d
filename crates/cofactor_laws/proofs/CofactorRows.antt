-- The cofactor of c along remainder rows: its degrees and leads.
use Rattle.std.proofs.Common.{◌≡◌, ℕ, ◌+◌, List, [], ◌∷◌, Some, None, subst}
use Rattle.polynomials.specs.Polynomials.{Polynomial}
use Rattle.polynomials.specs.Views.{degree_in}
use Rattle.division_rules.specs.Lists.{list_operations}
use Rattle.division_rules.specs.Rows.{Row}
use Rattle.division_rules.specs.RemainderRows.{TurnBefore, fall, next_psi}
use Rattle.division_rules.specs.Turns.{last_row}
use Rattle.division_rules.specs.Cofactors.{first_cofactor, AreCofactorSteps}
use Rattle.cofactor_laws.specs.RowsWithCofactors.{row_of_c, row_of_t, rows_of_chain, rows_with_cofactors}
use Rattle.cofactor_laws.specs.Laws.{CofactorsGrowByFalls, LastCofactorHasDegree}
use Rattle.cofactor_laws.proofs.GeneratorLists.{list_steps}

-- the steps
pub cofactors_grow_by_falls : CofactorsGrowByFalls
cofactors_grow_by_falls p n w v t c chain prime are start = list_steps p n prime w v t c chain are start

-- the last of them has the sum of the degrees
total_of_steps : (p n w v : ℕ) (chain : List (Row Polynomial)) (total : ℕ) (m : TurnBefore (list_operations p n)) (f g : Row Polynomial) (later : List (Row Polynomial)) (z : Row Polynomial) → AreCofactorSteps (list_operations p n) w v chain total m f g later (Some z) → degree_in v (first_cofactor (list_operations p n) z) + degree_in v (last_row g later).first ≡ total
total_of_steps p n w v chain total m f g [] z steps = steps.1
total_of_steps p n w v chain total m f g (h ∷ later) z steps = total_of_steps p n w v chain total (Some (next_psi (list_operations p n) w v m f, fall (list_operations p n) v f g)) g h later z steps.1

pub last_cofactor_has_degree : LastCofactorHasDegree
last_cofactor_has_degree p n w v t c chain z ends = total_of_steps p n w v (rows_of_chain p n chain) (degree_in v t) None (row_of_t n t chain) (row_of_c n c chain) (rows_with_cofactors p n w v t c chain).later z (subst (λ last. AreCofactorSteps (list_operations p n) w v (rows_of_chain p n chain) (degree_in v t) None (row_of_t n t chain) (row_of_c n c chain) (rows_with_cofactors p n w v t c chain).later last) ends.last (list_steps p n ends.prime w v t c chain ends.canonical ends.start))
