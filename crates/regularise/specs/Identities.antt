-- Rows that are identities of an initial of a triangular set.
use Rattle.std.specs.Prelude.{ℕ, ◌≤◌, List}
use Rattle.mono_words.specs.declared.mono.TheConstants.{VARS}
use Rattle.polynomials.specs.Polynomials.{Polynomial}
use Rattle.polynomials.specs.Views.{initial_of}
use Rattle.division_rules.specs.Rows.{Row}
use Rattle.finish_laws.specs.Identities.{IsMemberOver, IsIdentity}

-- f is an identity of the initial of some member of the chain, before the turns at the variables
-- below u
pub record HasIdentity (p u : ℕ) (chain : List Polynomial) (f : Row Polynomial) : Type 0 where
  pub v : ℕ
  pub t : Polynomial
  pub up : u ≤ v
  pub member : IsMemberOver p VARS v chain t
  pub identity : IsIdentity p VARS v u chain (initial_of t) f
