-- Lists of terms: their number of variables, and falling order, where monomials may repeat.
use Rattle.std.specs.Prelude.{◌≡◌, ◌<◌, ◌⊎◌, ℕ, List, [], ◌∷◌}
use Rattle.std.specs.List.{AllByRecursion}
use Rattle.std.specs.declared.cmp.Ordering.TheVariants.{Less}
use Rattle.polynomials.specs.Monomials.{Monomial, monomial_order}
use Rattle.polynomials.specs.Polynomials.{Term}
use Rattle.polynomials.proofs.Monomialwise.{HaveLength}

-- each monomial has n exponents
abbrev pub HaveVariables : ℕ → List Term → Type 0
HaveVariables n ts = HaveLength n ts

-- each coefficient is a residue modulo p
abbrev pub AreResidues : ℕ → List Term → Type 0
AreResidues p = AllByRecursion (λ (t : Term). t.1 < p)

-- l is not greater than m
abbrev pub IsAtMost : Monomial → Monomial → Type 0
IsAtMost m l = (monomial_order l m ≡ Less) ⊎ (l ≡ m)

-- no monomial is greater than m
abbrev pub AreAtMost : Monomial → List Term → Type 0
AreAtMost m = AllByRecursion (λ (t : Term). IsAtMost m t.0)

-- no monomial is greater than one before it
abbrev pub IsFalling : List Term → Type 0
IsFalling [] = Unit {0}
IsFalling (t ∷ ts) = AreAtMost t.0 ts × IsFalling ts
