-- Powers of residues.
use Rattle.std.proofs.Common.{◌≡◌, ℕ, ◌+◌, ◌*◌, ◌^◌, ◌%◌, sym, ap, ap₂, ◌∙◌}
use Rattle.std.proofs.lemmas.Nat.{mul-mod, mul-mod_first, pow-add}
use Rattle.std.proofs.lemmas.Grind.{pow_more}

-- the square of a power
pub square_of_power : (p c d e h : ℕ) → h ≡ c ^ d % p → d + d ≡ e → h * h % p ≡ c ^ e % p
square_of_power p c d e h value double =
    ap₂ (λ a b. a * b % p) value value ∙ (sym (mul-mod (c ^ d) (c ^ d) p) ∙ (ap (λ x. x % p) (sym (pow-add c d d)) ∙ ap (λ x. c ^ x % p) double))

-- one factor more
pub odd_power : (p c d e h : ℕ) → h ≡ c ^ d % p → d + 1 ≡ e → h * c % p ≡ c ^ e % p
odd_power p c d e h value more =
    ap (λ a. a * c % p) value ∙ (mul-mod_first (c ^ d) c p ∙ (ap (λ x. x % p) (sym (pow_more c d)) ∙ ap (λ x. c ^ x % p) more))
