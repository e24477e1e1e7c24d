-- The exponent of one variable in products, and monomials without it.
use Rattle.std.proofs.Common.{◌≡◌, ◌≢◌, ℕ, zero, suc, ◌+◌, ◌<◌, List, [], ◌∷◌, length, get_or, set, replicate, refl, sym, ap, ap₂, ◌∙◌, arith}
use Rattle.std.specs.Ordering.{nat_cmp, ordering_then}
use Rattle.std.proofs.lemmas.Cmp.{nat_cmp_total, tied_itself}
use Rattle.std.proofs.lemmas.List.{set-get_or, get_or-set_other, get_or-set_same, length-replicate}
use Rattle.polynomials.specs.Monomials.{Monomial, exponent_of, monomial_order, monomial_product}
use Rattle.polynomials.specs.MonomialOrders.{monomial_product_comm, replicate-monomial_product}
use Rattle.polynomials.specs.Rings.{Ring, power_in, monomial_value}
use Rattle.polynomials.proofs.RingLaws.{one-times, times_left_comm}

-- in a product exponents add
pub exponent_of-product : (v : ℕ) (l m : Monomial) → exponent_of v (monomial_product l m) ≡ exponent_of v l + exponent_of v m
exponent_of-product v [] m = omega arith
exponent_of-product v (d ∷ l) [] = omega arith
exponent_of-product zero (d ∷ l) (e ∷ m) = refl
exponent_of-product (suc v) (d ∷ l) (e ∷ m) = exponent_of-product v l m

-- without v, the exponent of v is 0
pub exponent_of-set_same : (v : ℕ) (m : Monomial) → exponent_of v (set m v 0) ≡ 0
exponent_of-set_same v [] = refl
exponent_of-set_same zero (e ∷ m) = refl
exponent_of-set_same (suc v) (e ∷ m) = exponent_of-set_same v m

-- and the others stay
pub exponent_of-set_other : (v w : ℕ) (m : Monomial) → w ≢ v → exponent_of w (set m v 0) ≡ exponent_of w m
exponent_of-set_other v w m h = get_or-set_other m v w 0 0 h

-- a monomial in which v doesn't occur is itself without v
pub set_zero_itself : (v : ℕ) (m : Monomial) → exponent_of v m ≡ 0 → set m v 0 ≡ m
set_zero_itself v m h = ap (set m v) (sym h) ∙ set-get_or m v 0

-- a product without v is the product of the factors without v
pub set-monomial_product : (v : ℕ) (l m : Monomial) → set (monomial_product l m) v 0 ≡ monomial_product (set l v 0) (set m v 0)
set-monomial_product v [] m = refl
set-monomial_product zero (d ∷ l) [] = refl
set-monomial_product (suc v) (d ∷ l) [] = refl
set-monomial_product zero (d ∷ l) (e ∷ m) = refl
set-monomial_product (suc v) (d ∷ l) (e ∷ m) = ap (λ k. (d + e) ∷ k) (set-monomial_product v l m)

-- without v, monomials with one exponent of v keep their order
pub monomial_order-set : (v : ℕ) (l m : Monomial) → exponent_of v l ≡ exponent_of v m → monomial_order (set l v 0) (set m v 0) ≡ monomial_order l m
monomial_order-set v [] [] h = refl
monomial_order-set zero [] (e ∷ m) h = refl
monomial_order-set (suc v) [] (e ∷ m) h = refl
monomial_order-set zero (d ∷ l) [] h = refl
monomial_order-set (suc v) (d ∷ l) [] h = refl
monomial_order-set zero (d ∷ l) (e ∷ m) h = ap (ordering_then (monomial_order l m)) (sym (tied_itself nat_cmp_total d) ∙ ap (nat_cmp d) h)
monomial_order-set (suc v) (d ∷ l) (e ∷ m) h = ap (λ o. ordering_then o (nat_cmp d e)) (monomial_order-set v l m h)

-- a power of v
abbrev pub power_monomial : ℕ → ℕ → ℕ → Monomial
power_monomial n v e = set (replicate n 0) v e

-- its exponent of v
pub exponent_of-power_monomial : (n v e : ℕ) → v < n → exponent_of v (power_monomial n v e) ≡ e
exponent_of-power_monomial n v e h = get_or-set_same (replicate n 0) v e 0 (omega (arith, length-replicate {A = ℕ} n 0))

-- nothing occurs in zeros
pub exponent_of-replicate : (n w : ℕ) → exponent_of w (replicate n 0) ≡ 0
exponent_of-replicate zero w = refl
exponent_of-replicate (suc n) zero = refl
exponent_of-replicate (suc n) (suc w) = exponent_of-replicate n w

-- no other variable occurs in it
pub exponent_of-power_monomial_other : (n v w e : ℕ) → w ≢ v → exponent_of w (power_monomial n v e) ≡ 0
exponent_of-power_monomial_other n v w e h = get_or-set_other (replicate n 0) v w e 0 h ∙ exponent_of-replicate n w

-- a monomial is itself without v, times its power of v
pub set-times_power : (n v e : ℕ) (m : Monomial) → length m ≡ n → v < n → exponent_of v m ≡ e → monomial_product (set m v 0) (power_monomial n v e) ≡ m
set-times_power zero v e m h below i = absurd (omega arith)
set-times_power (suc n) v e [] h below i = absurd (omega arith)
set-times_power (suc n) zero e (d ∷ m) h below i = ap₂ ◌∷◌ (omega arith) (monomial_product_comm m (replicate n 0) ∙ replicate-monomial_product n m (omega arith))
set-times_power (suc n) (suc v) e (d ∷ m) h below i = ap₂ ◌∷◌ (omega arith) (set-times_power n v e m (omega arith) (omega arith) i)

-- the value of a monomial is that of the power of v times that of the rest
pub monomial_value-set : {A : Type 0} (r : Ring A) (v : ℕ) (xs : List A) (m : Monomial) → v < length xs → monomial_value r xs m ≡ r.◌⊗◌ (power_in r (get_or xs v r.nil) (exponent_of v m)) (monomial_value r xs (set m v 0))
monomial_value-set r v [] m h = absurd (omega arith)
monomial_value-set r v (x ∷ xs) [] h = sym (one-times r r.one)
monomial_value-set r zero (x ∷ xs) (e ∷ m) h = ap (r.◌⊗◌ (power_in r x e)) (sym (one-times r (monomial_value r xs m)))
monomial_value-set r (suc v) (x ∷ xs) (e ∷ m) h = ap (r.◌⊗◌ (power_in r x e)) (monomial_value-set r v xs m (omega arith)) ∙ times_left_comm r (power_in r x e) (power_in r (get_or xs v r.nil) (exponent_of v m)) (monomial_value r xs (set m v 0))
