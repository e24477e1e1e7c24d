-- What a finished branch of the splitting tree leaves: a triangular set with certificates.
use Rattle.std.specs.Prelude.{ℕ, List}
use Rattle.polynomials.specs.Polynomials.{Polynomial}
use Rattle.zero_sets.specs.Certificates.{Certificate}
use Rattle.zero_sets.specs.Domains.{Tables}
use Rattle.zero_sets.specs.ZeroSets.{InQuasiComponent}

-- a triangular set, and certificates of those of its initials that aren't constant
pub record Leaf : Type 0 where
  pub chain : List Polynomial
  pub certificates : List Certificate

-- the point lies in the leaf: in the quasi-component of its triangular set
abbrev pub InLeaf : Tables → List ℕ → Leaf → Type 0
InLeaf r xs leaf = InQuasiComponent r xs leaf.chain
