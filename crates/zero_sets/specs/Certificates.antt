-- Certificates that the initials of a triangular set are regular.
use Rattle.std.specs.Prelude.{◌≡◌, ◌≢◌, ℕ, true, false, List, [], ◌∷◌, length, map, Option, Some, None}
use Rattle.std.specs.List.{AllByRecursion, filter_map}
use Rattle.polynomials.specs.Polynomials.{Polynomial, IsPolynomial, ArePolynomials, sum_of, product_of}
use Rattle.polynomials.specs.Sums.{combination}
use Rattle.polynomials.specs.Views.{main_var, initial_of, is_constant, IsFreeOf}
use Rattle.zero_sets.specs.ZeroSets.{member_in, members_below}

-- a main variable, a cofactor of its initial, one for each polynomial below it, and what they make
pub record Certificate : Type 0 where
  pub of : ℕ
  pub cofactor : Polynomial
  pub below : List Polynomial
  pub value : Polynomial

-- the variable, where there is one, doesn't occur in f
abbrev pub LacksVariable : Option ℕ → Polynomial → Type 0
LacksVariable None f = Unit {0}
LacksVariable (Some v) f = IsFreeOf v f

-- no main variable of the chain occurs in f
abbrev pub IsFreeOfMain : Polynomial → List Polynomial → Type 0
IsFreeOfMain f chain = AllByRecursion (λ t. LacksVariable (main_var t) f) chain

-- the polynomials of a certificate are canonical, in n variables modulo p
abbrev pub IsCertificateOver : ℕ → ℕ → Certificate → Type 0
IsCertificateOver p n c =
    IsPolynomial p n c.cofactor × ArePolynomials p n c.below × IsPolynomial p n c.value

-- t is the polynomial of the chain with the certificate's main variable, its initial h isn't
-- constant, and cofactor * h + the sum of below times the polynomials below t is value, which isn't
-- 0 and has no main variable of the chain
pub record CertifiesInitial (p n : ℕ) (chain : List Polynomial) (c : Certificate) (t : Polynomial)
    : Type 0 where
  pub member : member_in c.of chain ≡ Some t
  pub initial : is_constant (initial_of t) ≡ false
  pub canonical : IsCertificateOver p n c
  pub count : length c.below ≡ length (members_below c.of chain)
  pub identity : sum_of p (product_of p c.cofactor (initial_of t))
      (combination p c.below (members_below c.of chain)) ≡ c.value
  pub nonzero : c.value ≢ []
  pub free : IsFreeOfMain c.value chain

-- the certificate shows that an initial of the chain is regular
abbrev pub Certifies : ℕ → ℕ → List Polynomial → Certificate → Type 0
Certifies p n chain c = (t : Polynomial) × CertifiesInitial p n chain c t

-- the main variable of a polynomial, where its initial isn't constant and so has to be certified
abbrev pub variable_to_certify : Polynomial → Option ℕ
variable_to_certify t = elim (is_constant (initial_of t)) [ true ↦ None | false ↦ main_var t ]

-- the main variables whose initials have to be certified, the least first
abbrev pub variables_to_certify : List Polynomial → List ℕ
variables_to_certify chain = filter_map variable_to_certify chain

-- one certificate for each initial that isn't constant, and no other
pub record AreCertificates (p n : ℕ) (chain : List Polynomial) (cs : List Certificate)
    : Type 0 where
  pub variables : map (λ c. c.of) cs ≡ variables_to_certify chain
  pub certify : AllByRecursion (Certifies p n chain) cs
