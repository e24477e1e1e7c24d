-- Products of terms and powers of variables, within the width of a text.
use Rattle.std.proofs.Common.{◌≡◌, ◌∙◌, ℕ, zero, suc, ◌+◌, ◌*◌, ◌%◌, ◌<◌, ◌≤◌, true, leb, [], ◌∷◌, ◌++◌, Some, length, replicate, set, refl, sym, ap, ap₂, arith}
use Rattle.std.proofs.Math.Nat.{mod-eq_of_lt}
use Rattle.std.proofs.lemmas.Bool.{and_parts, and_from, le-leb, leb-true}
use Rattle.std.proofs.lemmas.List.{length-replicate}
use Rattle.polynomials.specs.Monomials.{Monomial, monomial_product}
use Rattle.polynomials.specs.MonomialOrders.{replicate-monomial_product}
use Rattle.polynomials.specs.Polynomials.{term, with_first, variable_power}
use Rattle.polynomials.specs.Fits.{is_exponent_list, product_within, power_within, product_so_far}
use Rattle.polynomials.proofs.FitsLemmas.{greater_exponents-nil}
use Rattle.system_text.specs.Limits.{text_width}

-- a term of a positive coefficient is a polynomial
pub with_first_positive : (m : Monomial) (c : ℕ) → 0 < c → with_first (term m c) [] ≡ term m c ∷ []
with_first_positive m zero positive = absurd (omega arith)
with_first_positive m (suc c) positive = refl

-- two terms, of which the second has the coefficient 1
pub product_within_term : (p : ℕ) (l m : Monomial) (c : ℕ) → 0 < c → c < p → is_exponent_list (monomial_product l m) ≡ true
    → product_within p text_width (term l c ∷ []) (term m 1 ∷ []) ≡ Some (term (monomial_product l m) c ∷ [])
product_within_term p l m c positive below small =
    rw (greater_exponents-nil l, greater_exponents-nil m, small) (ap Some (ap (λ d. with_first (term (monomial_product l m) d) []) same ∙ with_first_positive (monomial_product l m) c positive))
  where
    same : c * 1 % p ≡ c
    same = let once : c * 1 ≡ c = omega arith in ap (λ d. d % p) once ∙ mod-eq_of_lt below

-- powers of one variable multiply by adding
power_monomials : (n v d e : ℕ) → monomial_product (set (replicate n 0) v d) (set (replicate n 0) v e) ≡ set (replicate n 0) v (d + e)
power_monomials zero v d e = refl
power_monomials (suc n) zero d e = ap (λ m. (d + e) ∷ m) (replicate-monomial_product n (replicate n 0) (length-replicate n 0))
power_monomials (suc n) (suc v) d e = ap (λ m. 0 ∷ m) (power_monomials n v d e)

small_zeros : (k : ℕ) → is_exponent_list (replicate k 0) ≡ true
small_zeros zero = refl
small_zeros (suc k) = small_zeros k

small_power : (n v e : ℕ) → e ≤ 65535 → is_exponent_list (set (replicate n 0) v e) ≡ true
small_power zero v e bound = refl
small_power (suc n) zero e bound = and_from (leb e 65535) (is_exponent_list (replicate n 0)) (le-leb e 65535 bound) (small_zeros n)
small_power (suc n) (suc v) e bound = small_power n v e bound

-- a power of a variable fits as long as its exponent has 16 bits
power_within_suc : (p n v e : ℕ) → 1 < p → suc e ≤ 65535 → power_within p n text_width (variable_power n v 1) (suc e) ≡ Some (variable_power n v (suc e))
power_within_suc p n v zero many bound = refl
power_within_suc p n v (suc e) many bound =
    ap (product_so_far p text_width (variable_power n v 1)) (power_within_suc p n v e many (omega arith))
    ∙ (product_within_term p (set (replicate n 0) v (suc e)) (set (replicate n 0) v 1) 1 (omega arith) many (ap is_exponent_list product ∙ small_power n v (suc (suc e)) bound)
    ∙ ap (λ m. Some (term m 1 ∷ [])) product)
  where
    product : monomial_product (set (replicate n 0) v (suc e)) (set (replicate n 0) v 1) ≡ set (replicate n 0) v (suc (suc e))
    product = power_monomials n v (suc e) 1 ∙ ap (set (replicate n 0) v) (omega arith)

pub power_within_variable : (p n v e : ℕ) → 1 < p → 0 < e → e ≤ 65535 → power_within p n text_width (variable_power n v 1) e ≡ Some (variable_power n v e)
power_within_variable p n v zero many positive bound = absurd (omega arith)
power_within_variable p n v (suc e) many positive bound = power_within_suc p n v e many bound

-- the next power, behind the variables that were multiplied
pub next_power : (l : Monomial) (k n e : ℕ) → n ≡ suc (length l + k) → monomial_product (l ++ 0 ∷ replicate k 0) (set (replicate n 0) (length l) e) ≡ l ++ e ∷ replicate k 0
next_power l k zero e h = absurd (omega arith)
next_power [] k (suc n) e h =
    let same : n ≡ k = omega arith in
    ap₂ ◌∷◌ (omega arith) (ap (λ j. monomial_product (replicate k 0) (replicate j 0)) same ∙ replicate-monomial_product k (replicate k 0) (length-replicate k 0))
next_power (d ∷ l) k (suc n) e h = ap₂ ◌∷◌ (omega arith) (next_power l k n e (omega arith))

-- it is the power itself where nothing was multiplied yet
pub first_power : (l : Monomial) (k n e : ℕ) → n ≡ suc (length l + k) → l ≡ replicate (length l) 0 → set (replicate n 0) (length l) e ≡ l ++ e ∷ replicate k 0
first_power l k zero e h zeros = absurd (omega arith)
first_power [] k (suc n) e h zeros =
    let same : n ≡ k = omega arith in
    ap (λ j. e ∷ replicate j 0) same
first_power (d ∷ l) k (suc n) e h zeros =
    let first : d ≡ 0 = cc in
    let others : l ≡ replicate (length l) 0 = cc in
    ap₂ ◌∷◌ (sym first) (first_power l k n e (omega arith) others)

-- in a list of small exponents each is small
pub small_item : (l : Monomial) (e : ℕ) (m : Monomial) → is_exponent_list (l ++ e ∷ m) ≡ true → e ≤ 65535
small_item [] e m small = leb-true e 65535 (and_parts (leb e 65535) (is_exponent_list m) small).0
small_item (d ∷ l) e m small = small_item l e m (and_parts (leb d 65535) (is_exponent_list (l ++ e ∷ m)) small).1

-- and they stay so with zeros behind one
pub small_before_zeros : (l : Monomial) (e : ℕ) (m : Monomial) (k : ℕ) → is_exponent_list (l ++ e ∷ m) ≡ true → is_exponent_list (l ++ e ∷ replicate k 0) ≡ true
small_before_zeros [] e m k small = and_from (leb e 65535) (is_exponent_list (replicate k 0)) (and_parts (leb e 65535) (is_exponent_list m) small).0 (small_zeros k)
small_before_zeros (d ∷ l) e m k small =
    let parts = and_parts (leb d 65535) (is_exponent_list (l ++ e ∷ m)) small in
    and_from (leb d 65535) (is_exponent_list (l ++ e ∷ replicate k 0)) parts.0 (small_before_zeros l e m k parts.1)
