-- Powers by one product after the other.
use Rattle.std.proofs.Common.{◌≡◌, ℕ, zero, suc, ◌+◌, ◌-◌, ◌<◌, ◌≤◌, Some, None, sym, ap, ◌∙◌, arith, add-one, zero-add}
use Rattle.polynomials.specs.Polynomials.{Polynomial}
use Rattle.polynomials.specs.Fits.{product_within, product_so_far, power_within}

-- one product more
pub power_within-next : (p n w c : ℕ) (f g : Polynomial) → 0 < c → power_within p n w f c ≡ Some g → power_within p n w f (c + 1) ≡ product_within p w g f
power_within-next p n w zero f g some e = absurd (omega arith)
power_within-next p n w (suc c) f g some e = rw add-one (ap (product_so_far p w f) e)

-- where a product doesn't fit, no greater power is there
none_after : (p n w c k : ℕ) (f : Polynomial) → 0 < c → power_within p n w f c ≡ None → power_within p n w f (k + c) ≡ None
none_after p n w c zero f some e = rw (zero-add c) e
none_after p n w zero (suc k) f some e = absurd (omega arith)
none_after p n w (suc c) (suc k) f some e =
    let same : suc k + suc c ≡ suc (suc (k + c)) = omega arith in
    let before : k + suc c ≡ suc (k + c) = omega arith in
    rw same (ap (product_so_far p w f) (ap (power_within p n w f) (sym before) ∙ none_after p n w (suc c) k f some e))

pub no_greater_power : (p n w c e : ℕ) (f : Polynomial) → 0 < c → c ≤ e → power_within p n w f c ≡ None → power_within p n w f e ≡ None
no_greater_power p n w c e f some less none =
    let same : e ≡ (e - c) + c = omega arith in
    ap (power_within p n w f) same ∙ none_after p n w c (e - c) f some none
