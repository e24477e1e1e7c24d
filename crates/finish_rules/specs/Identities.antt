-- Identities of an initial: rows over the initial and the chain below its main variable.
use Rattle.std.specs.Prelude.{ℕ, List, [], length, drop, get_or, Option, Some}
use Rattle.polynomials.specs.Polynomials.{Polynomial, one_of}
use Rattle.zero_sets.specs.Certificates.{Certificate}
use Rattle.division_rules.specs.Cofactors.{first_cofactor}
use Rattle.division_rules.specs.Lists.{list_operations}
use Rattle.division_rules.specs.Rows.{Row}
use Rattle.division_rules.specs.Units.{unit_row, unit_rows, entrywise_sum}
use Rattle.division_rules.specs.Within.{and_then, times_all_within, reduction_within}
use Rattle.row_laws.specs.Compositions.{spread}

-- in n variables modulo p, with products within the width w
module _ (p n w : ℕ) where
  -- the initial h reduced by the chain below its main variable, with cofactors of h and that chain
  abbrev pub initial_row : Polynomial → List Polynomial → Option (Row Polynomial)
  initial_row h below =
      reduction_within (list_operations p n) w (unit_rows (list_operations p n) 1 below)
      (unit_row [] (one_of n) 0 (length below) h)

  -- where f is a row for c, and next one over c, t and the chain below t, the composition of both,
  -- a row over the generators of f; None where a product by next's cofactor of c doesn't fit
  abbrev pub composed_within : Row Polynomial → Row Polynomial → Option (Row Polynomial)
  composed_within f next =
      let a = first_cofactor (list_operations p n) next in
      let places = spread (length f.cofactors) next.cofactors in
      and_then (times_all_within (list_operations p n) w a f.cofactors) (λ cs. Some (record {
        first = next.first;
        cofactors = entrywise_sum (list_operations p n) cs places;
      }))

-- the row of the initial at v as a certificate
abbrev pub certificate_of : ℕ → Row Polynomial → Certificate
certificate_of v f = record {
  of = v;
  cofactor = get_or f.cofactors 0 [];
  below = drop 1 f.cofactors;
  value = f.first;
}
