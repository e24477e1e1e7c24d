-- First entries of rows of lists of terms, with cofactors and without.
use Rattle.std.proofs.Common.{◌≡◌, List, [], ◌∷◌, refl, ap, ◌∙◌}
use Rattle.polynomials.specs.Polynomials.{Polynomial}
use Rattle.division_rules.specs.Lists.{list_operations}
use Rattle.division_rules.specs.Rows.{Row, plain, plains, reduction, first_entries}
use Rattle.division_rules.proofs.FirstEntries.{firsts_alone, first-sparse_remainder, first-pseudo_remainder, first-reduction}
use Rattle.row_laws.specs.FirstEntries.{FirstEntriesStandAlone}

-- rows without cofactors are their first entries as rows
alone-first_entries : (chain : List (Row Polynomial)) → firsts_alone chain ≡ plains (first_entries chain)
alone-first_entries [] = refl
alone-first_entries (t ∷ chain) = ap (λ rows. plain t.first ∷ rows) (alone-first_entries chain)

-- the law
pub first_entries_stand_alone : FirstEntriesStandAlone
first_entries_stand_alone p n = record {
  sparse_remainder = λ v f g. ap (λ (h : Row Polynomial). h.first) (first-sparse_remainder (list_operations p n) v f g);
  pseudo_remainder = λ v f g. ap (λ (h : Row Polynomial). h.first) (first-pseudo_remainder (list_operations p n) v f g);
  reduction = λ chain f. ap (λ (h : Row Polynomial). h.first) (first-reduction (list_operations p n) chain f ∙ ap (λ rows. reduction (list_operations p n) rows (plain f.first)) (alone-first_entries chain));
}
