-- The reduced head of a queue is canonical and reduced by the chain.
use Rattle.std.proofs.Common.{◌≡◌, ℕ, Option, Some, None, IfSome, sym}
use Rattle.polynomials.specs.Primes.{IsPrime}
use Rattle.polynomials.specs.Polynomials.{Polynomial, IsPolynomial}
use Rattle.zero_sets.specs.ZeroSets.{IsTriangular}
use Rattle.zero_sets.specs.Tasks.{Task}
use Rattle.row_laws.specs.Words.{IsReducedBy}
use Rattle.impose_rules.specs.Impose.{reduced_head}
use Rattle.impose_laws.specs.TaskForms.{IsTaskOver}
use Rattle.impose_laws.proofs.Heads.{IsHead, head_is_head}
use Rattle.intersect.proofs.Triangular.{rows_reduce}

module _ (p n w : ℕ) (prime : IsPrime p) (left : Task) (over : IsTaskOver p n left) (triangular : IsTriangular left.chain) (f : Polynomial) (i : IsPolynomial p n f) where
  is_head : (r : Polynomial) → Some r ≡ reduced_head p n w left.chain left.queue left.nonzero f → IsHead p n left.chain r
  is_head r e = head_is_head p n w prime left.chain left.nonzero over.0 over.2 triangular f r left.queue i (sym e)

  -- canonical
  pub head_canonical : (o : Option Polynomial) → o ≡ reduced_head p n w left.chain left.queue left.nonzero f → IfSome o (IsPolynomial p n)
  head_canonical None e = tt
  head_canonical (Some r) e = (is_head r e).canonical

  -- reduced
  pub head_reduced : (o : Option Polynomial) → o ≡ reduced_head p n w left.chain left.queue left.nonzero f → IfSome o (λ g. IsReducedBy g left.chain)
  head_reduced None e = tt
  head_reduced (Some r) e = rows_reduce r left.chain (is_head r e).reduced
