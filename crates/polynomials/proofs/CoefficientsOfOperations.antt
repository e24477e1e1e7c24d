-- The coefficients of sums, negatives and products in one variable.
use Rattle.std.proofs.Common.{◌≡◌, ℕ, ◌+◌, ◌<◌, ◌≤◌, Bool, true, false, cond, eqb, ◌&&◌, List, [], ◌∷◌, ◌++◌, length, set, refl, sym, ap, ap₂, ◌∙◌, arith}
use Rattle.std.proofs.lemmas.Bool.Decides.{nat_tests}
use Rattle.polynomials.specs.Monomials.{Monomial, exponent_of, monomial_product}
use Rattle.polynomials.specs.Polynomials.{Term, term, Polynomial, IsPolynomial, collected, sum_of, product_of}
use Rattle.polynomials.specs.Views.{coefficient_in}
use Rattle.polynomials.specs.Rings.{Ring, weighted_sum}
use Rattle.polynomials.proofs.WeightedSums.{weighted_sum-each}
use Rattle.polynomials.proofs.SumsOfOperations.{weighted_sum-product_of}
use Rattle.polynomials.proofs.Monomialwise.{EachMonomial, EachMonomial-append, EachMonomial-implied, HaveLength-from_IsPolynomial}
use Rattle.polynomials.proofs.Canonical.{IsPolynomial-product_of}
use Rattle.polynomials.proofs.Residues.{Residue, residues, residues_characteristic}
use Rattle.polynomials.proofs.SamePolynomials.{SameSums-from_one, same_from_sums}
use Rattle.polynomials.proofs.Exponents.{exponent_of-product, set-monomial_product}
use Rattle.polynomials.proofs.Coefficients.{at_power, weighted_sum-coefficient_in, weighted_sum-cond, IsPolynomial-coefficient_in, coefficient_in-collected}

append-cond : {X : Type 0} (b : Bool) (x : X) (f g : List X) → cond b (x ∷ f) f ++ g ≡ cond b (x ∷ (f ++ g)) (f ++ g)
append-cond true x f g = refl
append-cond false x f g = refl

module _ (v k : ℕ) where
  -- of lists one after the other
  pub coefficient_in-append : (f g : List Term) → coefficient_in v k (f ++ g) ≡ coefficient_in v k f ++ coefficient_in v k g
  coefficient_in-append [] g = refl
  coefficient_in-append (t ∷ f) g = ap (λ z. cond (eqb (exponent_of v t.0) k) (term (set t.0 v 0) t.1 ∷ z) z) (coefficient_in-append f g) ∙ sym (append-cond (eqb (exponent_of v t.0) k) (term (set t.0 v 0) t.1) (coefficient_in v k f) (coefficient_in v k g))

  module _ (p n : ℕ) (positive : 0 < p) where
    -- of the sum
    pub coefficient_in-sum_of : (f g : Polynomial) → IsPolynomial p n f → IsPolynomial p n g → coefficient_in v k (sum_of p f g) ≡ sum_of p (coefficient_in v k f) (coefficient_in v k g)
    coefficient_in-sum_of f g i j = coefficient_in-collected v k p n positive (f ++ g) (EachMonomial-append (λ m. length m ≡ n) f g (HaveLength-from_IsPolynomial p n f i) (HaveLength-from_IsPolynomial p n g j)) ∙ ap (collected p) (coefficient_in-append f g)

cond_and : {X : Type 0} (a b : Bool) (x y : X) → cond (a && b) x y ≡ cond a (cond b x y) y
cond_and true b x y = refl
cond_and false b x y = refl

-- where v's exponents add to k only as d and e
abbrev pub AddOnlyAs : ℕ → ℕ → ℕ → (ℕ → Type 0) → (ℕ → Type 0) → Type 0
AddOnlyAs d e k P Q = (x y : ℕ) → P x → Q y → eqb (x + y) k ≡ (eqb x d && eqb y e)

module _ (v d e k : ℕ) (P Q : ℕ → Type 0) (adds : AddOnlyAs d e k P Q) where
  -- the weight of a product at the power k
  at_power-product : {A : Type 0} (r : Ring A) (h : Monomial → A) (l m : Monomial) → P (exponent_of v l) → Q (exponent_of v m) → at_power r v k h (monomial_product l m) ≡ cond (eqb (exponent_of v l) d) (at_power r v e (λ b. h (monomial_product (set l v 0) b)) m) r.nil
  at_power-product r h l m a b =
      ap₂ (λ t z. cond t (h z) r.nil) (ap (λ x. eqb x k) (exponent_of-product v l m) ∙ adds (exponent_of v l) (exponent_of v m) a b) (set-monomial_product v l m)
      ∙ cond_and (eqb (exponent_of v l) d) (eqb (exponent_of v m) e) (h (monomial_product (set l v 0) (set m v 0))) r.nil

  module _ (p n : ℕ) (positive : 0 < p) where
    abbrev ring : Ring (Residue p)
    ring = residues p positive

    -- its sum over g, for one monomial of f
    row_at_power : (h : Monomial → Residue p) (l : Monomial) (g : Polynomial) → P (exponent_of v l) → EachMonomial (λ m. Q (exponent_of v m)) g → weighted_sum ring (λ m. at_power ring v k h (monomial_product l m)) g ≡ at_power ring v d (λ a. weighted_sum ring (λ b. h (monomial_product a b)) (coefficient_in v e g)) l
    row_at_power h l g a each =
        weighted_sum-each ring (λ m. at_power ring v k h (monomial_product l m)) (λ m. cond (eqb (exponent_of v l) d) (at_power ring v e (λ b. h (monomial_product (set l v 0) b)) m) ring.nil) g (EachMonomial-implied (λ m. Q (exponent_of v m)) (λ m. at_power ring v k h (monomial_product l m) ≡ cond (eqb (exponent_of v l) d) (at_power ring v e (λ b. h (monomial_product (set l v 0) b)) m) ring.nil) (λ m b. at_power-product ring h l m a b) g each)
        ∙ weighted_sum-cond ring (eqb (exponent_of v l) d) (at_power ring v e (λ b. h (monomial_product (set l v 0) b))) g
        ∙ ap (λ s. cond (eqb (exponent_of v l) d) s ring.nil) (sym (weighted_sum-coefficient_in ring (λ b. h (monomial_product (set l v 0) b)) v e g))

    -- the coefficient of a product is the product of the coefficients
    pub coefficient_in-product_by : (f g : Polynomial) → IsPolynomial p n f → IsPolynomial p n g → EachMonomial (λ m. P (exponent_of v m)) f → EachMonomial (λ m. Q (exponent_of v m)) g → coefficient_in v k (product_of p f g) ≡ product_of p (coefficient_in v d f) (coefficient_in v e g)
    coefficient_in-product_by f g i j a b = same_from_sums p n (coefficient_in v k (product_of p f g)) (product_of p (coefficient_in v d f) (coefficient_in v e g)) (IsPolynomial-coefficient_in v k p n (product_of p f g) (IsPolynomial-product_of p n positive f g i j)) (IsPolynomial-product_of p n positive (coefficient_in v d f) (coefficient_in v e g) (IsPolynomial-coefficient_in v d p n f i) (IsPolynomial-coefficient_in v e p n g j)) (SameSums-from_one p positive _ _ (λ h.
        weighted_sum-coefficient_in ring h v k (product_of p f g)
        ∙ weighted_sum-product_of ring p (residues_characteristic p positive) (at_power ring v k h) f g
        ∙ weighted_sum-each ring (λ l. weighted_sum ring (λ m. at_power ring v k h (monomial_product l m)) g) (at_power ring v d (λ a. weighted_sum ring (λ b. h (monomial_product a b)) (coefficient_in v e g))) f (EachMonomial-implied (λ m. P (exponent_of v m)) (λ l. weighted_sum ring (λ m. at_power ring v k h (monomial_product l m)) g ≡ at_power ring v d (λ a. weighted_sum ring (λ b. h (monomial_product a b)) (coefficient_in v e g)) l) (λ l c. row_at_power h l g c b) f a)
        ∙ sym (weighted_sum-coefficient_in ring (λ a. weighted_sum ring (λ b. h (monomial_product a b)) (coefficient_in v e g)) v d f)
        ∙ sym (weighted_sum-product_of ring p (residues_characteristic p positive) h (coefficient_in v d f) (coefficient_in v e g))))

-- numbers within bounds add to the sum of the bounds only at the bounds
pub adds_at_bounds : (d e : ℕ) → AddOnlyAs d e (d + e) (λ x. x ≤ d) (λ y. y ≤ e)
adds_at_bounds d e x y h i = grind (arith, nat_tests)

-- with 0, a number adds to e only as e
pub adds_with_zero : (e : ℕ) → AddOnlyAs 0 e e (λ x. x ≡ 0) (λ y. Unit {0})
adds_with_zero e x y h i = grind (arith, nat_tests)
