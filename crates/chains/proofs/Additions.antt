-- A chain with one member more, or another in a member's place.
use Rattle.std.proofs.Common.{ℕ, List, Option, Some, None}
use Rattle.polynomials.specs.Polynomials.{Polynomial, IsPolynomial, ArePolynomials}
use Rattle.polynomials.specs.Views.{main_var}
use Rattle.impose_rules.specs.Chains.{with_member}
use Rattle.impose_rules.proofs.ChainParts.{each_canonical, canonical_each, each_with_member}
use Rattle.chains.specs.Members.{with_member_at, with_polynomial}

-- a canonical polynomial at its main variable leaves a chain canonical
pub member_added : (p n : ℕ) (t : Polynomial) (chain : List Polynomial) → ArePolynomials p n chain → IsPolynomial p n t → ArePolynomials p n (with_polynomial t chain)
member_added p n t chain are i = go (main_var t)
  where
    go : (o : Option ℕ) → ArePolynomials p n (with_member_at o t chain)
    go None = are
    go (Some v) = canonical_each p n (with_member v t chain) (each_with_member (IsPolynomial p n) v t chain i (each_canonical p n chain are))
