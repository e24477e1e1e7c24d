-- What is left of a polynomial without given factors, made monic.
use Rattle.std.specs.Prelude.{ℕ, List}
use Rattle.polynomials.specs.Polynomials.{Polynomial, monic}
use Rattle.division_rules.specs.Quotients.{without_factors}

-- f without the factors bs, as far as the quotients fit the width, and monic
abbrev pub stripped : ℕ → ℕ → List Polynomial → Polynomial → Polynomial
stripped p w bs f = monic p (without_factors p w bs f)
