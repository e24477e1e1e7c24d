-- A polynomial with a sign before it.
use Rattle.std.specs.Prelude.{ℕ, ◌-◌, ◌%◌}
use Rattle.polynomials.specs.Polynomials.{Polynomial, negative_of}
use Rattle.sparse_poly.specs.declared.merge.Sign.{Sign}
use Rattle.sparse_poly.specs.declared.merge.Sign.TheVariants.{Plus, Minus}

-- the residue c, or its negative modulo p
abbrev pub signed_residue : ℕ → Sign → ℕ → ℕ
signed_residue p Plus c = c
signed_residue p Minus c = (p - c) % p

-- f, or its negative modulo p
abbrev pub signed : ℕ → Sign → Polynomial → Polynomial
signed p Plus f = f
signed p Minus f = negative_of p f
