-- Moduli.
use Rattle.std.proofs.Common.{◌<◌, ℕ, arith}

-- a prime is positive
pub positive_modulus : {p : ℕ} → 1 < p → 0 < p
positive_modulus h = omega arith
