-- The polynomials in n variables modulo p are a commutative ring.
use Rattle.std.specs.Prelude.{◌≡◌, ℕ, ◌<◌, []}
use Rattle.polynomials.specs.Polynomials.{Polynomial, IsPolynomial, sum_of, product_of, negative_of, one_of}

-- the polynomials in n variables modulo p: closed under the operations, and a commutative ring
pub record MakeARing (p n : ℕ) : Type 0 where
  pub one_of_them : IsPolynomial p n (one_of n)
  pub sum_of_them :
      (f g : Polynomial) → IsPolynomial p n f → IsPolynomial p n g → IsPolynomial p n (sum_of p f g)
  pub negative_of_them : (f : Polynomial) → IsPolynomial p n f → IsPolynomial p n (negative_of p f)
  pub product_of_them :
      (f g : Polynomial)
      → IsPolynomial p n f
      → IsPolynomial p n g
      → IsPolynomial p n (product_of p f g)
  pub add_comm :
      (f g : Polynomial) → IsPolynomial p n f → IsPolynomial p n g → sum_of p f g ≡ sum_of p g f
  pub add_assoc :
      (f g h : Polynomial)
      → IsPolynomial p n f
      → IsPolynomial p n g
      → IsPolynomial p n h
      → sum_of p (sum_of p f g) h ≡ sum_of p f (sum_of p g h)
  pub zero-add : (f : Polynomial) → IsPolynomial p n f → sum_of p [] f ≡ f
  pub negative-add : (f : Polynomial) → IsPolynomial p n f → sum_of p (negative_of p f) f ≡ []
  pub mul_comm :
      (f g : Polynomial)
      → IsPolynomial p n f
      → IsPolynomial p n g
      → product_of p f g ≡ product_of p g f
  pub mul_assoc :
      (f g h : Polynomial)
      → IsPolynomial p n f
      → IsPolynomial p n g
      → IsPolynomial p n h
      → product_of p (product_of p f g) h ≡ product_of p f (product_of p g h)
  pub one-mul : (f : Polynomial) → IsPolynomial p n f → product_of p (one_of n) f ≡ f
  pub mul-add :
      (f g h : Polynomial)
      → IsPolynomial p n f
      → IsPolynomial p n g
      → IsPolynomial p n h
      → product_of p f (sum_of p g h) ≡ sum_of p (product_of p f g) (product_of p f h)

-- for every modulus of at least 2 and every number of variables
abbrev pub PolynomialsMakeARing : Type 0
PolynomialsMakeARing = (p n : ℕ) → 1 < p → MakeARing p n
