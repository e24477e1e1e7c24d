-- Polynomials without factors: what was divided away is a product of members of the list.
use Rattle.std.proofs.Common.{◌≡◌, ◌≢◌, ℕ, zero, suc, ◌<◌, ◌≤◌, Bool, true, false, List, [], ◌∷◌, Option, Some, None, Contains, refl, subst, le_trans, arith}
use Rattle.polynomials.specs.Primes.{IsPrime}
use Rattle.polynomials.specs.Polynomials.{Polynomial, IsPolynomial, ArePolynomials}
use Rattle.polynomials.specs.Views.{degree_in, is_constant}
use Rattle.polynomials.proofs.Canonical.{IsPolynomial-product_of, IsPolynomial-one_of}
use Rattle.division_rules.specs.Quotients.{quotient_within, without_factor, factor_bound, without_factors}
use Rattle.division_rules.specs.Lists.{list_operations}
use Rattle.division_rules.specs.Points.{product_of_all}
use Rattle.division_rules.proofs.QuotientFacts.{quotient_within_canonical, quotient_within_nonzero, quotient_within_degree_smaller}

-- the first of a list is a member
pub Contains-first : {X : Type 0} (x : X) (xs : List X) → Contains (x ∷ xs) x
Contains-first x xs = (0, omega arith, refl)

-- members of the rest are members
pub Contains-later : {X : Type 0} (y : X) (xs : List X) (x : X) → Contains xs x → Contains (y ∷ xs) x
Contains-later y xs x h =
    let below = h.1 in
    (suc h.0, omega arith, h.2)

-- a member of a list of canonical polynomials is one
pub IsPolynomial-member : (p n : ℕ) (bs : List Polynomial) (b : Polynomial) → ArePolynomials p n bs → Contains bs b → IsPolynomial p n b
IsPolynomial-member p n [] b are (k, below, here) = absurd (omega arith)
IsPolynomial-member p n (c ∷ bs) b are (zero, below, here) = subst (IsPolynomial p n) here are.0
IsPolynomial-member p n (c ∷ bs) b are (suc k, below, here) = IsPolynomial-member p n bs b are.1 (k, omega arith, here)

-- a product of canonical polynomials is canonical
pub IsPolynomial-product_of_all : (p n : ℕ) → 1 < p → (fs : List Polynomial) → ArePolynomials p n fs → IsPolynomial p n (product_of_all (list_operations p n) fs)
IsPolynomial-product_of_all p n many [] are = IsPolynomial-one_of p n many
IsPolynomial-product_of_all p n many (f ∷ fs) are = IsPolynomial-product_of p n (omega arith) f (product_of_all (list_operations p n) fs) are.0 (IsPolynomial-product_of_all p n many fs are.1)

module _ (p n w : ℕ) (prime : IsPrime p) where
  -- what holds between each polynomial and itself, and from a quotient on, holds between f and f divided by b
  module _ (b : Polynomial) (ib : IsPolynomial p n b) (R : Polynomial → Polynomial → Type 0) (itself : (f : Polynomial) → IsPolynomial p n f → R f f) (step : (f q g : Polynomial) → IsPolynomial p n f → quotient_within p w f b ≡ Some q → R q g → R f g) where
    -- by induction over the divisions
    pub without_factor_relates : (k : ℕ) (f : Polynomial) → IsPolynomial p n f → R f (without_factor p w b k f)
    without_factor_relates zero f i = itself f i
    without_factor_relates (suc k) f i = go (quotient_within p w f b) refl (λ q j. without_factor_relates k q j)
      where
        go : (o : Option Polynomial) → quotient_within p w f b ≡ o → ((q : Polynomial) → IsPolynomial p n q → R q (without_factor p w b k q)) → R f (elim o as (λ _. Polynomial) [ None ↦ f | Some q ↦ without_factor p w b k q ])
        go None e later = itself f i
        go (Some q) e later = step f q (without_factor p w b k q) i e (later q (quotient_within_canonical p n w f b q prime i ib e))

  -- and so for a list, with a step for each member that isn't constant
  module _ (bs : List Polynomial) (R : Polynomial → Polynomial → Type 0) (itself : (f : Polynomial) → IsPolynomial p n f → R f f) (step : (b f q g : Polynomial) → Contains bs b → is_constant b ≡ false → IsPolynomial p n b → IsPolynomial p n f → quotient_within p w f b ≡ Some q → R q g → R f g) where
    relates_some : (ms : List Polynomial) → ArePolynomials p n ms → ((b : Polynomial) → Contains ms b → Contains bs b) → (f : Polynomial) → IsPolynomial p n f → R f (without_factors p w ms f)
    relates_some [] are members f i = itself f i
    relates_some (b ∷ ms) are members f i = go (is_constant b) refl (λ g j. relates_some ms are.1 (λ c h. members c (Contains-later b ms c h)) g j)
      where
        k : ℕ
        k = factor_bound f

        divided : Polynomial
        divided = without_factor p w b k f

        canonical : IsPolynomial p n divided
        canonical = without_factor_relates b are.0 (λ x y. IsPolynomial p n y) (λ x j. j) (λ x q y j e h. h) k f i

        go : (constant : Bool) → is_constant b ≡ constant → ((g : Polynomial) → IsPolynomial p n g → R g (without_factors p w ms g)) → R f (elim constant as (λ _. Polynomial) [ true ↦ without_factors p w ms f | false ↦ without_factors p w ms divided ])
        go true e later = later f i
        go false e later = without_factor_relates b are.0 (λ x y. R y (without_factors p w ms divided) → R x (without_factors p w ms divided)) (λ x j h. h) (λ x q y j quotient h from. step b x q (without_factors p w ms divided) (members b (Contains-first b ms)) e are.0 j quotient (h from)) k f i (later divided canonical)

    -- for the whole list
    pub without_factors_relates : ArePolynomials p n bs → (f : Polynomial) → IsPolynomial p n f → R f (without_factors p w bs f)
    without_factors_relates are f i = relates_some bs are (λ b h. h) f i

  -- the result is canonical
  pub IsPolynomial-without_factor : (b f : Polynomial) (k : ℕ) → IsPolynomial p n b → IsPolynomial p n f → IsPolynomial p n (without_factor p w b k f)
  IsPolynomial-without_factor b f k ib i = without_factor_relates b ib (λ x y. IsPolynomial p n y) (λ x j. j) (λ x q y j e h. h) k f i

  -- so is that of a list
  pub IsPolynomial-without_factors : (bs : List Polynomial) (f : Polynomial) → ArePolynomials p n bs → IsPolynomial p n f → IsPolynomial p n (without_factors p w bs f)
  IsPolynomial-without_factors bs f are i = without_factors_relates bs (λ x y. IsPolynomial p n y) (λ x j. j) (λ b x q y m c ib j e h. h) are f i

  -- and not 0 where f isn't
  pub without_factor_nonzero : (b f : Polynomial) (k : ℕ) → IsPolynomial p n b → IsPolynomial p n f → f ≢ [] → without_factor p w b k f ≢ []
  without_factor_nonzero b f k ib i = without_factor_relates b ib (λ x y. x ≢ [] → y ≢ []) (λ x j h. h) (λ x q y j e h some. h (quotient_within_nonzero p n w x b q prime j ib e some)) k f i

  -- nor is it without a list of factors
  pub without_factors_nonzero : (bs : List Polynomial) (f : Polynomial) → ArePolynomials p n bs → IsPolynomial p n f → f ≢ [] → without_factors p w bs f ≢ []
  without_factors_nonzero bs f are i = without_factors_relates bs (λ x y. x ≢ [] → y ≢ []) (λ x j h. h) (λ b x q y m c ib j e h some. h (quotient_within_nonzero p n w x b q prime j ib e some)) are f i

  -- nor does one without a list of factors
  pub degree_in-without_factors : (bs : List Polynomial) (f : Polynomial) (v : ℕ) → ArePolynomials p n bs → IsPolynomial p n f → degree_in v (without_factors p w bs f) ≤ degree_in v f
  degree_in-without_factors bs f v are i = without_factors_relates bs (λ x y. degree_in v y ≤ degree_in v x) (λ x j. omega arith) (λ b x q y m c ib j e h. le_trans h (quotient_within_degree_smaller p n w x b q prime j ib e v)) are f i
