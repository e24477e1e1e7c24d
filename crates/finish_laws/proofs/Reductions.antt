-- The remainder of a polynomial by a triangular set, within a width: its reduction.
use Rattle.std.proofs.Common.{◌≡◌, ℕ, List, Some, IfSome, subst, sym, ◌∙◌, ap}
use Rattle.polynomials.specs.Polynomials.{Polynomial}
use Rattle.division_rules.specs.Lists.{list_operations}
use Rattle.division_rules.specs.Rows.{plain, plains, reduction}
use Rattle.division_rules.specs.Within.{reduction_within}
use Rattle.division_rules.proofs.WithinLimits.{gives-reduction}
use Rattle.row_laws.specs.Words.{reduction_of}
use Rattle.impose_laws.proofs.Options.{then_some}
use Rattle.finish_rules.specs.Remainders.{remainder_of}

module _ (p n w : ℕ) (chain : List Polynomial) (f r : Polynomial) (made : remainder_of p n w chain f ≡ Some r) where
  -- where it fits, it is that without a limit
  pub remainder_is : r ≡ reduction_of p n chain f
  remainder_is =
      let parts = then_some (reduction_within (list_operations p n) w (plains chain) (plain f)) (λ g. Some g.first) r made in
      let same : parts.0.first ≡ r = let d = parts.2 in cc in
      sym same ∙ ap (λ g. g.first) (subst (λ o. IfSome o (λ h. h ≡ reduction (list_operations p n) (plains chain) (plain f))) parts.1 (gives-reduction (list_operations p n) w (plains chain) (plain f)))
