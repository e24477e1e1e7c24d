-- A composition within a width is the composition.
use Rattle.std.proofs.Common.{◌≡◌, ℕ, List, Some, IfSome, length, map, ap, subst}
use Rattle.polynomials.specs.Polynomials.{Polynomial, product_of}
use Rattle.division_rules.specs.Cofactors.{first_cofactor}
use Rattle.division_rules.specs.Lists.{list_operations}
use Rattle.division_rules.specs.Rows.{Row}
use Rattle.division_rules.specs.Units.{entrywise_sum}
use Rattle.division_rules.specs.Within.{times_all_within}
use Rattle.division_rules.proofs.WithinLimits.{gives-times_all}
use Rattle.row_laws.specs.Compositions.{spread, composition}
use Rattle.impose_laws.proofs.Options.{then_holds}
use Rattle.finish_rules.specs.Identities.{composed_within}
use Rattle.finish_laws.specs.Laws.{CompositionsFit}

-- the law
pub compositions_fit : CompositionsFit
compositions_fit p n w f next = then_holds (λ g. g ≡ composition p n f next) (times_all_within (list_operations p n) w a f.cofactors) (λ cs. Some (with_cofactors cs)) (λ cs fits. ap with_cofactors (subst (λ o. IfSome o (λ x. x ≡ map (product_of p a) f.cofactors)) fits (gives-times_all (list_operations p n) w a f.cofactors)))
  where
    a : Polynomial
    a = first_cofactor (list_operations p n) next

    with_cofactors : List Polynomial → Row Polynomial
    with_cofactors cs = record { first = next.first; cofactors = entrywise_sum (list_operations p n) cs (spread (length f.cofactors) next.cofactors) }

-- so it is where there is one
pub composed_is : (p n w : ℕ) (f next g : Row Polynomial) → composed_within p n w f next ≡ Some g → g ≡ composition p n f next
composed_is p n w f next g made = subst (λ o. IfSome o (λ x. x ≡ composition p n f next)) made (compositions_fit p n w f next)
