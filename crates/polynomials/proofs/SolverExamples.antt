-- The solver on identities in a few variables.
use Rattle.std.proofs.Common.{◌≡◌, ℕ, ◌<◌, [], ◌∷◌, refl, ap}
use Rattle.polynomials.specs.Polynomials.{Polynomial, IsPolynomial, product_of, difference_of}
use Rattle.polynomials.specs.Rings.{Ring}
use Rattle.polynomials.proofs.PolynomialRing.{polynomial_ring}
use Rattle.polynomials.proofs.Solver.{var, number, minus, ◌:+◌, ◌:-◌, ◌:*◌, solve}

module _ {A : Type 0} (r : Ring A) where
  open r use {◌⊕◌, ◌⊗◌, nil, one, neg}

  -- the sum times the difference is the difference of the squares
  difference_of_squares : (x y : A) → (x ⊕ y) ⊗ (x ⊕ neg y) ≡ (x ⊗ x) ⊕ neg (y ⊗ y)
  difference_of_squares x y = solve r (x ∷ y ∷ []) ((var 0 :+ var 1) :* (var 0 :- var 1)) (var 0 :* var 0 :- var 1 :* var 1) refl

  -- the product of two sums of two squares is one
  sums_of_squares : (a b c d : A) → ((a ⊗ a) ⊕ (b ⊗ b)) ⊗ ((c ⊗ c) ⊕ (d ⊗ d)) ≡ (((a ⊗ c) ⊕ neg (b ⊗ d)) ⊗ ((a ⊗ c) ⊕ neg (b ⊗ d))) ⊕ (((a ⊗ d) ⊕ (b ⊗ c)) ⊗ ((a ⊗ d) ⊕ (b ⊗ c)))
  sums_of_squares a b c d =
      let left = var 0 :* var 2 :- var 1 :* var 3 in
      let right = var 0 :* var 3 :+ var 1 :* var 2 in
      solve r (a ∷ b ∷ c ∷ d ∷ []) ((var 0 :* var 0 :+ var 1 :* var 1) :* (var 2 :* var 2 :+ var 3 :* var 3)) (left :* left :+ right :* right) refl

  -- a number taken from itself
  number_cancels : (x : A) → x ⊕ (neg x ⊕ nil) ≡ nil
  number_cancels x = solve r (x ∷ []) (var 0 :+ (minus (var 0) :+ number 0)) (number 0) refl

-- an identity of rings at the ring of polynomials: one elimination step keeps a combination
elimination_step : (p n : ℕ) → 1 < p → (l m c d g : Polynomial) → IsPolynomial p n l → IsPolynomial p n m → IsPolynomial p n c → IsPolynomial p n d → IsPolynomial p n g → product_of p (difference_of p (product_of p l c) (product_of p m d)) g ≡ difference_of p (product_of p l (product_of p c g)) (product_of p m (product_of p d g))
elimination_step p n many l m c d g il im ic id ig =
    let xs = (l, il) ∷ (m, im) ∷ (c, ic) ∷ (d, id) ∷ (g, ig) ∷ [] in
    ap (λ u. u.0) (solve (polynomial_ring p n many) xs ((var 0 :* var 2 :- var 1 :* var 3) :* var 4) (var 0 :* (var 2 :* var 4) :- var 1 :* (var 3 :* var 4)) refl)
