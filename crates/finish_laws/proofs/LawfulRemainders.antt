-- The remainder of a lawful polynomial by a lawful triangular set is lawful.
use Rattle.std.proofs.Common.{◌≡◌, ℕ, List, Some, IfSome, sym, subst, arith}
use Rattle.polynomials.specs.Primes.{IsPrime}
use Rattle.polynomials.specs.Polynomials.{Polynomial}
use Rattle.division_rules.specs.Lists.{list_operations}
use Rattle.division_rules.specs.Rows.{plain, plains}
use Rattle.division_rules.specs.Within.{reduction_within}
use Rattle.division_rules.proofs.CanonicalRows.{IsPolynomialRow-reduction}
use Rattle.division_rules.proofs.Up.{plains_canonical}
use Rattle.row_laws.proofs.DegreeLaws.{reductions_keep_degrees}
use Rattle.finish_rules.specs.Remainders.{remainder_of}
use Rattle.finish_laws.specs.Lawful.{IsLawfulPolynomial, IsLawfulChain}
use Rattle.finish_laws.proofs.Parts.{IsSmall, canonical_lawful, free_lawful}
use Rattle.finish_laws.proofs.Reductions.{remainder_is}
use Rattle.finish_laws.proofs.Results.{then_follows}
use Rattle.finish_laws.proofs.SmallRows.{IsSmallRow, reduction_small}

-- its degrees don't rise in variables that the set doesn't have, and its products fit
pub remainder_lawful : (p n k w : ℕ) → IsPrime p → (chain : List Polynomial) → IsLawfulChain p n k chain → (f b : Polynomial) → IsLawfulPolynomial p n k f → remainder_of p n w chain f ≡ Some b → IsLawfulPolynomial p n k b
remainder_lawful p n k w prime chain lawful_chain f b of_f made = subst (IsLawfulPolynomial p n k) (sym (remainder_is p n w chain f b made)) (record {
  canonical = (IsPolynomialRow-reduction p n prime.many (plains chain) (plain f) (plains_canonical p n chain (canonical_lawful p n k chain lawful_chain.lawful)) (of_f.canonical, tt)).0;
  named = λ x past.
      let falls = reductions_keep_degrees p n x chain f prime (canonical_lawful p n k chain lawful_chain.lawful) of_f.canonical lawful_chain.triangular (free_lawful p n k x past chain lawful_chain.lawful) in
      let none = of_f.named x past in
      omega arith;
  small = subst IsSmall (remainder_is p n w chain f b made) (subst (λ o. IfSome o IsSmall) made (then_follows IsSmallRow IsSmall (reduction_within (list_operations p n) w (plains chain) (plain f)) (λ g. Some g.first) (reduction_small p n w (plains chain) (plain f) (of_f.small, tt)) (λ g small. small.0)));
})
