-- The first term of a list, and the tests of equality item by item.
use Rattle.std.proofs.Common.{◌≡◌, ◌<◌, ℕ, Bool, true, false, ◌&&◌, [], ◌∷◌, length, get_or, refl, ap, ◌∙◌, arith}
use Rattle.std.specs.Prelude.{nat_eq}
use lib.Pointwise.{pointwise}
use Rattle.polynomials.specs.Primes.{inverse_of}
use Rattle.polynomials.specs.Monomials.{same_monomial}
use Rattle.polynomials.specs.Polynomials.{Term, Polynomial, scaled, monic, same_polynomial}

-- the multiple by the inverse of the first coefficient is monic
pub scaled-first : (p : ℕ) (f : Polynomial) (t : Term) → 0 < length f → t ≡ get_or f 0 t → scaled p (inverse_of p t.1) f ≡ monic p f
scaled-first p [] t some at = absurd (omega arith)
scaled-first p (u ∷ f) t some at = ap (λ (x : Term). scaled p (inverse_of p x.1) (u ∷ f)) at

-- a conjunction by its last two parts
and_assoc : (a b c : Bool) → ((a && b) && c) ≡ (a && (b && c))
and_assoc true b c = refl
and_assoc false b c = refl

-- equal item by item is equal
pub pointwise-same_polynomial : (f g : Polynomial) → pointwise {A = Term} {B = Term} (λ x y. same_monomial x.0 y.0 && nat_eq x.1 y.1) f g ≡ same_polynomial f g
pointwise-same_polynomial [] [] = refl
pointwise-same_polynomial [] (u ∷ g) = refl
pointwise-same_polynomial (t ∷ f) [] = refl
pointwise-same_polynomial (t ∷ f) (u ∷ g) =
    and_assoc (same_monomial t.0 u.0) (nat_eq t.1 u.1) (pointwise {A = Term} {B = Term} (λ x y. same_monomial x.0 y.0 && nat_eq x.1 y.1) f g)
    ∙ ap (λ b. same_monomial t.0 u.0 && (nat_eq t.1 u.1 && b)) (pointwise-same_polynomial f g)
