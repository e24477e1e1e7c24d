-- A polynomial is its lead times a power of the variable, and its tail.
use Rattle.std.proofs.Common.{◌≡◌, ℕ, ◌<◌, Bool, true, false, cond, eqb, List, length, get_or, set, replicate, length-set, refl, sym, ap, ◌∙◌, arith}
use Rattle.std.proofs.lemmas.List.{length-replicate}
use Rattle.std.proofs.lemmas.Bool.{eqb-true}
use Rattle.polynomials.specs.Monomials.{Monomial, exponent_of, monomial_product}
use Rattle.polynomials.specs.Polynomials.{Polynomial, IsPolynomial, sum_of, product_of, variable_power}
use Rattle.polynomials.specs.Views.{degree_in, coefficient_in, without_power}
use Rattle.polynomials.specs.Rings.{Ring, power_in, weighted_sum, monomial_value, value}
use Rattle.polynomials.specs.Laws.{LeadAndTail}
use Rattle.polynomials.proofs.RingLaws.{times_comm}
use Rattle.polynomials.proofs.WeightedSums.{weighted_sum-same, weighted_sum-each, weighted_sum-times_right}
use Rattle.polynomials.proofs.SumsOfOperations.{weighted_sum-sum_of, weighted_sum-product_of, weighted_sum-monomial}
use Rattle.polynomials.proofs.Monomialwise.{EachMonomial-implied, HaveLength-from_IsPolynomial}
use Rattle.polynomials.proofs.Canonical.{IsPolynomial-sum_of, IsPolynomial-product_of}
use Rattle.polynomials.proofs.Residues.{Residue, residues, residues_characteristic}
use Rattle.polynomials.proofs.SamePolynomials.{SameSums-from_one, same_from_sums}
use Rattle.polynomials.proofs.Exponents.{power_monomial, set-times_power, monomial_value-set}
use Rattle.polynomials.proofs.Coefficients.{at_power, weighted_sum-coefficient_in, weighted_sum-by_power, IsPolynomial-coefficient_in, IsPolynomial-without_power}
use Rattle.polynomials.proofs.Degrees.{coefficient_in_free, lead_in_nonzero, degree_in-tail_in}

-- a choice of equal things
cond_same : {X : Type 0} (b : Bool) (x y z : X) → (b ≡ true → x ≡ y) → cond b x z ≡ cond b y z
cond_same true x y z h = h refl
cond_same false x y z h = refl

-- a power of a variable is a polynomial
pub IsPolynomial-variable_power : (p n v e : ℕ) → 1 < p → IsPolynomial p n (variable_power n v e)
IsPolynomial-variable_power p n v e many = (length-set (replicate n 0) v e ∙ length-replicate n 0, omega arith, many, tt, tt)

module _ (p n v : ℕ) (positive : 0 < p) (below : v < n) where
  abbrev ring : Ring (Residue p)
  ring = residues p positive

  -- a coefficient times its power has the sum of the terms at that power
  sum_at_power : (k : ℕ) (h : Monomial → Residue p) (f : Polynomial) → IsPolynomial p n f → weighted_sum ring h (product_of p (coefficient_in v k f) (variable_power n v k)) ≡ weighted_sum ring (λ m. cond (eqb (exponent_of v m) k) (h m) ring.nil) f
  sum_at_power k h f i =
      weighted_sum-product_of ring p (residues_characteristic p positive) h (coefficient_in v k f) (variable_power n v k)
      ∙ weighted_sum-same ring (λ l. weighted_sum ring (λ m. h (monomial_product l m)) (variable_power n v k)) (λ l. h (monomial_product l (power_monomial n v k))) (λ l. weighted_sum-monomial ring (λ m. h (monomial_product l m)) (power_monomial n v k)) (coefficient_in v k f)
      ∙ weighted_sum-coefficient_in ring (λ l. h (monomial_product l (power_monomial n v k))) v k f
      ∙ weighted_sum-each ring (at_power ring v k (λ l. h (monomial_product l (power_monomial n v k)))) (λ m. cond (eqb (exponent_of v m) k) (h m) ring.nil) f (EachMonomial-implied (λ m. length m ≡ n) (λ m. at_power ring v k (λ l. h (monomial_product l (power_monomial n v k))) m ≡ cond (eqb (exponent_of v m) k) (h m) ring.nil) (λ m e. cond_same (eqb (exponent_of v m) k) (h (monomial_product (set m v 0) (power_monomial n v k))) (h m) ring.nil (λ at. ap h (set-times_power n v k m e below (eqb-true (exponent_of v m) k at)))) f (HaveLength-from_IsPolynomial p n f i))

  -- a polynomial is the coefficient of a power times that power, and the other powers
  pub by_power : 1 < p → (k : ℕ) (f : Polynomial) → IsPolynomial p n f → sum_of p (product_of p (coefficient_in v k f) (variable_power n v k)) (without_power v k f) ≡ f
  by_power many k f i = same_from_sums p n (sum_of p (product_of p (coefficient_in v k f) (variable_power n v k)) (without_power v k f)) f (IsPolynomial-sum_of p n positive (product_of p (coefficient_in v k f) (variable_power n v k)) (without_power v k f) (IsPolynomial-product_of p n positive (coefficient_in v k f) (variable_power n v k) (IsPolynomial-coefficient_in v k p n f i) (IsPolynomial-variable_power p n v k many)) (IsPolynomial-without_power v k p n f i)) i (SameSums-from_one p positive _ _ (λ h.
      weighted_sum-sum_of ring p (residues_characteristic p positive) h (product_of p (coefficient_in v k f) (variable_power n v k)) (without_power v k f)
      ∙ ap (λ w. ring.◌⊕◌ w (weighted_sum ring h (without_power v k f))) (sum_at_power k h f i)
      ∙ sym (weighted_sum-by_power ring h v k f)))

-- the law of lead and tail
pub lead_and_tail : LeadAndTail
lead_and_tail p n v f many i = record {
  lead = IsPolynomial-coefficient_in v (degree_in v f) p n f i;
  tail = IsPolynomial-without_power v (degree_in v f) p n f i;
  free = coefficient_in_free v (degree_in v f) f;
  nonzero = lead_in_nonzero v f;
  falls = degree_in-tail_in v f;
  whole = λ below. by_power p n v (omega arith) below many (degree_in v f) f i;
}

module _ {A : Type 0} (r : Ring A) where
  open r use {◌⊕◌, ◌⊗◌, nil, one, neg}

  -- the value is that of a coefficient times the power of the coordinate, and that of the other powers
  pub value-by_power : (xs : List A) (v k : ℕ) (f : Polynomial) → v < length xs → value r xs f ≡ (value r xs (coefficient_in v k f) ⊗ power_in r (get_or xs v nil) k) ⊕ value r xs (without_power v k f)
  value-by_power xs v k f below = weighted_sum-by_power r (monomial_value r xs) v k f ∙ ap (λ w. w ⊕ value r xs (without_power v k f)) at_k
    where
      choice : (b : Bool) (x : A) (m : Monomial) → (b ≡ true → exponent_of v m ≡ k) → cond b (monomial_value r xs m) nil ≡ cond b (monomial_value r xs (set m v 0) ⊗ power_in r (get_or xs v nil) k) nil
      choice b x m h = cond_same b (monomial_value r xs m) (monomial_value r xs (set m v 0) ⊗ power_in r (get_or xs v nil) k) nil (λ e. monomial_value-set r v xs m below ∙ ap (λ d. power_in r (get_or xs v nil) d ⊗ monomial_value r xs (set m v 0)) (h e) ∙ times_comm r (power_in r (get_or xs v nil) k) (monomial_value r xs (set m v 0)))

      at_k : weighted_sum r (λ m. cond (eqb (exponent_of v m) k) (monomial_value r xs m) nil) f ≡ value r xs (coefficient_in v k f) ⊗ power_in r (get_or xs v nil) k
      at_k =
          weighted_sum-same r (λ m. cond (eqb (exponent_of v m) k) (monomial_value r xs m) nil) (at_power r v k (λ m. monomial_value r xs m ⊗ power_in r (get_or xs v nil) k)) (λ m. choice (eqb (exponent_of v m) k) nil m (eqb-true (exponent_of v m) k)) f
          ∙ sym (weighted_sum-coefficient_in r (λ m. monomial_value r xs m ⊗ power_in r (get_or xs v nil) k) v k f)
          ∙ weighted_sum-times_right r (power_in r (get_or xs v nil) k) (monomial_value r xs) (coefficient_in v k f)
