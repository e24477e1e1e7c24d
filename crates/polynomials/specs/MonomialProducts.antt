-- Laws of the product of monomials.
use Rattle.std.proofs.Common.{◌≡◌, ℕ, zero, suc, [], ◌∷◌, length, replicate, refl, ap, ap₂, ◌∙◌, arith}
use Rattle.polynomials.specs.Monomials.{Monomial, monomial_product}

-- the factors may change places
pub monomial_product_comm : (l m : Monomial) → monomial_product l m ≡ monomial_product m l
monomial_product_comm [] [] = refl
monomial_product_comm [] (e ∷ m) = refl
monomial_product_comm (d ∷ l) [] = refl
monomial_product_comm (d ∷ l) (e ∷ m) = ap₂ ◌∷◌ (omega arith) (monomial_product_comm l m)

-- brackets may move
pub monomial_product_assoc :
    (k l m : Monomial)
    → monomial_product (monomial_product k l) m ≡ monomial_product k (monomial_product l m)
monomial_product_assoc [] l m = refl
monomial_product_assoc (c ∷ k) [] m = refl
monomial_product_assoc (c ∷ k) (d ∷ l) [] = refl
monomial_product_assoc (c ∷ k) (d ∷ l) (e ∷ m) =
    ap₂ ◌∷◌ (omega arith) (monomial_product_assoc k l m)

-- the product of monomials of one length has that length
pub length-monomial_product :
    (n : ℕ) (l m : Monomial) → length l ≡ n → length m ≡ n → length (monomial_product l m) ≡ n
length-monomial_product n [] m h i = i
length-monomial_product n (d ∷ l) [] h i = h
length-monomial_product n (d ∷ l) (e ∷ m) h i =
    ap suc (length-monomial_product (length l) l m refl (omega arith)) ∙ h

-- the monomial 1 is neutral
pub replicate-monomial_product :
    (n : ℕ) (m : Monomial) → length m ≡ n → monomial_product (replicate n 0) m ≡ m
replicate-monomial_product zero m h = refl
replicate-monomial_product (suc n) [] h = absurd (omega arith)
replicate-monomial_product (suc n) (e ∷ m) h =
    ap₂ ◌∷◌ (omega arith) (replicate-monomial_product n m (omega arith))
