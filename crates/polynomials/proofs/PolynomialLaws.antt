-- The laws of a commutative ring, for canonical polynomials.
use Rattle.std.proofs.Common.{◌≡◌, ℕ, ◌<◌, List, [], length, replicate, sym, ap, ap₂, ◌∙◌}
use Rattle.polynomials.specs.Monomials.{Monomial, monomial_product}
use Rattle.polynomials.specs.MonomialOrders.{monomial_product_comm, monomial_product_assoc, replicate-monomial_product}
use Rattle.polynomials.specs.Polynomials.{Term, Polynomial, IsPolynomial, sum_of, product_of, negative_of, one_of}
use Rattle.polynomials.specs.Rings.{Ring, weighted_sum}
use Rattle.polynomials.proofs.RingLaws.{plus_comm, plus_assoc, neg-plus}
use Rattle.polynomials.proofs.WeightedSums.{weighted_sum-same, weighted_sum-each, weighted_sum-sum, weighted_sum-exchange}
use Rattle.polynomials.proofs.SumsOfOperations.{weighted_sum-sum_of, weighted_sum-product_of, weighted_sum-negative_of, weighted_sum-monomial}
use Rattle.polynomials.proofs.Residues.{Residue, residues, residues_characteristic}
use Rattle.polynomials.proofs.Monomialwise.{EachMonomial-implied, HaveLength-from_IsPolynomial}
use Rattle.polynomials.proofs.Canonical.{IsPolynomial-sum_of, IsPolynomial-product_of, IsPolynomial-negative_of, IsPolynomial-one_of}
use Rattle.polynomials.proofs.SamePolynomials.{SameSums-from_one, same_from_sums, collected_itself}

module _ (p : ℕ) (positive : 0 < p) where
  abbrev ring : Ring (Residue p)
  ring = residues p positive

  open ring use {◌⊕◌, ◌⊗◌, nil, one, neg}

  -- the weighted sum of a list of terms
  abbrev sum_at : (Monomial → Residue p) → List Term → Residue p
  sum_at h f = weighted_sum ring h f

  -- of a sum, in any weight
  sum_at-sum_of : (h : Monomial → Residue p) (f g : Polynomial) → sum_at h (sum_of p f g) ≡ sum_at h f ⊕ sum_at h g
  sum_at-sum_of = weighted_sum-sum_of ring p (residues_characteristic p positive)

  -- of a product, in any weight
  sum_at-product_of : (h : Monomial → Residue p) (f g : Polynomial) → sum_at h (product_of p f g) ≡ sum_at (λ l. sum_at (λ m. h (monomial_product l m)) g) f
  sum_at-product_of = weighted_sum-product_of ring p (residues_characteristic p positive)

  sum_of_comm_at : (h : Monomial → Residue p) (f g : Polynomial) → sum_at h (sum_of p f g) ≡ sum_at h (sum_of p g f)
  sum_of_comm_at h f g = sum_at-sum_of h f g ∙ plus_comm ring (sum_at h f) (sum_at h g) ∙ sym (sum_at-sum_of h g f)

  sum_of_assoc_at : (h : Monomial → Residue p) (f g k : Polynomial) → sum_at h (sum_of p (sum_of p f g) k) ≡ sum_at h (sum_of p f (sum_of p g k))
  sum_of_assoc_at h f g k = sum_at-sum_of h (sum_of p f g) k ∙ ap (λ w. w ⊕ sum_at h k) (sum_at-sum_of h f g) ∙ plus_assoc ring (sum_at h f) (sum_at h g) (sum_at h k) ∙ ap (λ w. sum_at h f ⊕ w) (sym (sum_at-sum_of h g k)) ∙ sym (sum_at-sum_of h f (sum_of p g k))

  product_of_comm_at : (h : Monomial → Residue p) (f g : Polynomial) → sum_at h (product_of p f g) ≡ sum_at h (product_of p g f)
  product_of_comm_at h f g =
      sum_at-product_of h f g
      ∙ weighted_sum-exchange ring (λ l m. h (monomial_product l m)) f g
      ∙ weighted_sum-same ring (λ m. sum_at (λ l. h (monomial_product l m)) f) (λ m. sum_at (λ l. h (monomial_product m l)) f) (λ m. weighted_sum-same ring (λ l. h (monomial_product l m)) (λ l. h (monomial_product m l)) (λ l. ap h (monomial_product_comm l m)) f) g
      ∙ sym (sum_at-product_of h g f)

  product_of_assoc_at : (h : Monomial → Residue p) (f g k : Polynomial) → sum_at h (product_of p (product_of p f g) k) ≡ sum_at h (product_of p f (product_of p g k))
  product_of_assoc_at h f g k =
      sum_at-product_of h (product_of p f g) k
      ∙ sum_at-product_of (λ l. sum_at (λ m. h (monomial_product l m)) k) f g
      ∙ weighted_sum-same ring (λ a. sum_at (λ b. sum_at (λ m. h (monomial_product (monomial_product a b) m)) k) g) (λ a. sum_at (λ m. h (monomial_product a m)) (product_of p g k)) (λ a.
      weighted_sum-same ring (λ b. sum_at (λ m. h (monomial_product (monomial_product a b) m)) k) (λ b. sum_at (λ m. h (monomial_product a (monomial_product b m))) k) (λ b.
      weighted_sum-same ring (λ m. h (monomial_product (monomial_product a b) m)) (λ m. h (monomial_product a (monomial_product b m))) (λ m. ap h (monomial_product_assoc a b m)) k) g
      ∙ sym (sum_at-product_of (λ m. h (monomial_product a m)) g k)) f
      ∙ sym (sum_at-product_of h f (product_of p g k))

  product_of-sum_of_at : (h : Monomial → Residue p) (f g k : Polynomial) → sum_at h (product_of p f (sum_of p g k)) ≡ sum_at h (sum_of p (product_of p f g) (product_of p f k))
  product_of-sum_of_at h f g k =
      sum_at-product_of h f (sum_of p g k)
      ∙ weighted_sum-same ring (λ l. sum_at (λ m. h (monomial_product l m)) (sum_of p g k)) (λ l. sum_at (λ m. h (monomial_product l m)) g ⊕ sum_at (λ m. h (monomial_product l m)) k) (λ l. sum_at-sum_of (λ m. h (monomial_product l m)) g k) f
      ∙ weighted_sum-sum ring (λ l. sum_at (λ m. h (monomial_product l m)) g) (λ l. sum_at (λ m. h (monomial_product l m)) k) f
      ∙ ap₂ ◌⊕◌ (sym (sum_at-product_of h f g)) (sym (sum_at-product_of h f k))
      ∙ sym (sum_at-sum_of h (product_of p f g) (product_of p f k))

  module _ (n : ℕ) where
    one_of-product_of_at : (h : Monomial → Residue p) (f : Polynomial) → IsPolynomial p n f → sum_at h (product_of p (one_of n) f) ≡ sum_at h f
    one_of-product_of_at h f i =
        sum_at-product_of h (one_of n) f
        ∙ weighted_sum-monomial ring (λ l. sum_at (λ m. h (monomial_product l m)) f) (replicate n 0)
        ∙ weighted_sum-each ring (λ m. h (monomial_product (replicate n 0) m)) h f (EachMonomial-implied (λ m. length m ≡ n) (λ m. h (monomial_product (replicate n 0) m) ≡ h m) (λ m e. ap h (replicate-monomial_product n m e)) f (HaveLength-from_IsPolynomial p n f i))

    -- the ring laws
    pub sum_of_comm : (f g : Polynomial) → IsPolynomial p n f → IsPolynomial p n g → sum_of p f g ≡ sum_of p g f
    sum_of_comm f g i j = same_from_sums p n (sum_of p f g) (sum_of p g f) (IsPolynomial-sum_of p n positive f g i j) (IsPolynomial-sum_of p n positive g f j i) (SameSums-from_one p positive _ _ (λ h. sum_of_comm_at h f g))

    -- brackets move in sums
    pub sum_of_assoc : (f g k : Polynomial) → IsPolynomial p n f → IsPolynomial p n g → IsPolynomial p n k → sum_of p (sum_of p f g) k ≡ sum_of p f (sum_of p g k)
    sum_of_assoc f g k i j l = same_from_sums p n (sum_of p (sum_of p f g) k) (sum_of p f (sum_of p g k)) (IsPolynomial-sum_of p n positive (sum_of p f g) k (IsPolynomial-sum_of p n positive f g i j) l) (IsPolynomial-sum_of p n positive f (sum_of p g k) i (IsPolynomial-sum_of p n positive g k j l)) (SameSums-from_one p positive _ _ (λ h. sum_of_assoc_at h f g k))

    -- 0 is neutral
    pub zero-sum_of : (f : Polynomial) → IsPolynomial p n f → sum_of p [] f ≡ f
    zero-sum_of f i = collected_itself p n f i

    -- on both sides
    pub sum_of-zero : (f : Polynomial) → IsPolynomial p n f → sum_of p f [] ≡ f
    sum_of-zero f i = sum_of_comm f [] i tt ∙ zero-sum_of f i

    -- the negative
    pub negative_of-sum_of : (f : Polynomial) → IsPolynomial p n f → sum_of p (negative_of p f) f ≡ []
    negative_of-sum_of f i = same_from_sums p n (sum_of p (negative_of p f) f) [] (IsPolynomial-sum_of p n positive (negative_of p f) f (IsPolynomial-negative_of p n f i) i) tt (SameSums-from_one p positive _ _ (λ h. sum_at-sum_of h (negative_of p f) f ∙ ap (λ w. w ⊕ sum_at h f) (weighted_sum-negative_of ring p (residues_characteristic p positive) h n f i) ∙ neg-plus ring (sum_at h f)))

    -- factors change places
    pub product_of_comm : (f g : Polynomial) → IsPolynomial p n f → IsPolynomial p n g → product_of p f g ≡ product_of p g f
    product_of_comm f g i j = same_from_sums p n (product_of p f g) (product_of p g f) (IsPolynomial-product_of p n positive f g i j) (IsPolynomial-product_of p n positive g f j i) (SameSums-from_one p positive _ _ (λ h. product_of_comm_at h f g))

    -- brackets move in products
    pub product_of_assoc : (f g k : Polynomial) → IsPolynomial p n f → IsPolynomial p n g → IsPolynomial p n k → product_of p (product_of p f g) k ≡ product_of p f (product_of p g k)
    product_of_assoc f g k i j l = same_from_sums p n (product_of p (product_of p f g) k) (product_of p f (product_of p g k)) (IsPolynomial-product_of p n positive (product_of p f g) k (IsPolynomial-product_of p n positive f g i j) l) (IsPolynomial-product_of p n positive f (product_of p g k) i (IsPolynomial-product_of p n positive g k j l)) (SameSums-from_one p positive _ _ (λ h. product_of_assoc_at h f g k))

    -- 1 is neutral
    pub one_of-product_of : 1 < p → (f : Polynomial) → IsPolynomial p n f → product_of p (one_of n) f ≡ f
    one_of-product_of many f i = same_from_sums p n (product_of p (one_of n) f) f (IsPolynomial-product_of p n positive (one_of n) f (IsPolynomial-one_of p n many) i) i (SameSums-from_one p positive _ _ (λ h. one_of-product_of_at h f i))

    -- products distribute over sums
    pub product_of-sum_of : (f g k : Polynomial) → IsPolynomial p n f → IsPolynomial p n g → IsPolynomial p n k → product_of p f (sum_of p g k) ≡ sum_of p (product_of p f g) (product_of p f k)
    product_of-sum_of f g k i j l = same_from_sums p n (product_of p f (sum_of p g k)) (sum_of p (product_of p f g) (product_of p f k)) (IsPolynomial-product_of p n positive f (sum_of p g k) i (IsPolynomial-sum_of p n positive g k j l)) (IsPolynomial-sum_of p n positive (product_of p f g) (product_of p f k) (IsPolynomial-product_of p n positive f g i j) (IsPolynomial-product_of p n positive f k i l)) (SameSums-from_one p positive _ _ (λ h. product_of-sum_of_at h f g k))
