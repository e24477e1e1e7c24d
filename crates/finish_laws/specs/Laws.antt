-- The laws of certificates, and of what an initial without one gives way to.
use Rattle.std.specs.Prelude.{◌≡◌, ◌↔◌, ℕ, true, false, List, IfSome}
use Rattle.polynomials.specs.Primes.{IsPrime}
use Rattle.polynomials.specs.Polynomials.{Polynomial, ArePolynomials}
use Rattle.polynomials.specs.Views.{initial_of, is_constant}
use Rattle.zero_sets.specs.Domains.{Tables, IsPointOver, value_at}
use Rattle.zero_sets.specs.ZeroSets.{IsTriangular, InQuasiComponent, AreNonZero}
use Rattle.zero_sets.specs.Certificates.{Certificate, IsCertificateOver, CertifiesInitial, Certifies, AreCertificates}
use Rattle.division_rules.specs.Rows.{Row}
use Rattle.split_paths.specs.declared.splitter.Step.{Step}
use Rattle.split_paths.specs.Lawful.{IsLawfulStep}
use Rattle.row_laws.specs.Compositions.{composition}
use Rattle.tree_laws.specs.Points.{IsKeptBy, IfEmitted}
use Rattle.finish_rules.specs.Identities.{composed_within}
use Rattle.finish_rules.specs.Initials.{regularised, certified}
use Rattle.finish_rules.specs.Checks.{checked}
use Rattle.finish_laws.specs.Identities.{IsMemberOver}
use Rattle.finish_laws.specs.Lawful.{IsLawfulPolynomial, IsLawfulChain, IsLawfulCertificate, AreLawfulCertificates}

-- where the products fit, the composition within a width is that without one
abbrev pub CompositionsFit : Type 0
CompositionsFit =
    (p n w : ℕ) (f next : Row Polynomial)
    → IfSome (composed_within p n w f next) (λ g. g ≡ composition p n f next)

-- where the products of a certificate fit, the test says whether it certifies an initial
abbrev pub ChecksDecide : Type 0
ChecksDecide =
    (p n w : ℕ) (chain : List Polynomial) (c : Certificate)
    → IsCertificateOver p n c
    → IfSome (checked p n w chain c) (λ b. (b ≡ true) ↔ Certifies p n chain c)

-- a step in which each point is kept where one of several polynomials is zero, whatever is emitted
abbrev pub KeepsZeros : {L : Type 0} → Tables → List ℕ → Step Polynomial L → Type 0
KeepsZeros {L} r xs made = IsKeptBy (λ f. value_at r xs f ≡ r.nil) (λ (leaf : L). Unit {0}) made

-- a point of the quasi-component where none of ns is zero
pub record IsPointOff
    (p : ℕ) (r : Tables) (xs : List ℕ) (chain ns : List Polynomial) : Type 0 where
  pub over : IsPointOver p r xs
  pub inside : InQuasiComponent r xs chain
  pub nonzero : AreNonZero r xs ns

-- at such a point one of the polynomials vanishes that the initial gives way to
abbrev pub RegularisingLosesNoZero : Type 0
RegularisingLosesNoZero =
    (p n w v : ℕ) (r : Tables) (xs : List ℕ) (chain ns : List Polynomial) (t : Polynomial)
    → IsMemberOver p n v chain t
    → IsPointOff p r xs chain ns
    → KeepsZeros r xs (regularised p n w chain ns v (initial_of t))

-- what comes of an initial that isn't constant is a certificate of it
abbrev pub RegularisingCertifies : Type 0
RegularisingCertifies =
    (p n w v : ℕ) (chain ns : List Polynomial) (t : Polynomial)
    → IsMemberOver p n v chain t
    → is_constant (initial_of t) ≡ false
    → IfEmitted (λ c. CertifiesInitial p n chain c t) (regularised p n w chain ns v (initial_of t))

-- in a lawful chain it is lawful, and so is what the initial gives way to
abbrev pub RegularisingKeepsLaw : Type 0
RegularisingKeepsLaw =
    (p n k w v : ℕ) (chain ns : List Polynomial) (t : Polynomial)
    → IsMemberOver p n v chain t
    → IsLawfulChain p n k chain
    → IsLawfulStep (IsLawfulPolynomial p n k) (IsLawfulCertificate p n k)
    (regularised p n w chain ns v (initial_of t))

-- the initials of a whole chain lose no zero
abbrev pub CertifiedLosesNoZero : Type 0
CertifiedLosesNoZero =
    (p n w : ℕ) (r : Tables) (xs : List ℕ) (chain ns : List Polynomial)
    → IsPrime p
    → ArePolynomials p n chain
    → IsTriangular chain
    → IsPointOff p r xs chain ns
    → KeepsZeros r xs (certified p n w chain ns chain)

-- what comes of them is one certificate for each that isn't constant, and no other
abbrev pub CertifiedCertifies : Type 0
CertifiedCertifies =
    (p n w : ℕ) (chain ns : List Polynomial)
    → IsPrime p
    → ArePolynomials p n chain
    → IsTriangular chain
    → IfEmitted (AreCertificates p n chain) (certified p n w chain ns chain)

-- and all of it is lawful
abbrev pub CertifiedKeepsLaw : Type 0
CertifiedKeepsLaw =
    (p n k w : ℕ) (chain ns : List Polynomial)
    → IsPrime p
    → IsLawfulChain p n k chain
    → IsLawfulStep (IsLawfulPolynomial p n k) (AreLawfulCertificates p n k)
    (certified p n w chain ns chain)
