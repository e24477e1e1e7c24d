-- Polynomials that are known nonzero are not zero at a point, nor are those with further ones added.
use Rattle.std.proofs.Common.{◌≡◌, ◌≢◌, inl, inr, ℕ, zero, suc, ◌<◌, true, List, [], ◌∷◌, ◌++◌, sym, subst, arith}
use Rattle.std.proofs.lemmas.Bool.{or_cases}
use Rattle.polynomials.specs.Primes.{IsPrime}
use Rattle.polynomials.specs.Polynomials.{Polynomial, IsPolynomial, ArePolynomials, monic, constant_of, same_polynomial}
use Rattle.polynomials.specs.Views.{is_constant}
use Rattle.polynomials.specs.Equalities.{same_polynomial_decides}
use Rattle.polynomials.proofs.MainVariables.{is_constant_iff, constant_from_free}
use Rattle.zero_sets.specs.Domains.{Tables, IsFiniteDomain, IsPoint, value_at}
use Rattle.zero_sets.specs.ZeroSets.{AreNonZero}
use Rattle.zero_sets.specs.Tasks.{is_member, is_known_nonzero, with_nonzero}
use Rattle.zero_sets.proofs.ValueLaws.{value_at-monic, value_at-constant_of}
use Rattle.zero_sets.proofs.PointFacts.{AreNonZero-append}
use Rattle.division_rules.proofs.Steps.{choose}
use Rattle.impose_rules.specs.Leads.{with_all_nonzero}

-- a member of polynomials that are not zero is not zero
member_nonzero : (r : Tables) (xs : List ℕ) (f : Polynomial) (ns : List Polynomial) → is_member f ns ≡ true → AreNonZero r xs ns → value_at r xs f ≢ r.nil
member_nonzero r xs f [] e h = cc
member_nonzero r xs f (g ∷ ns) e h = elim (or_cases (same_polynomial f g) (is_member f ns) e) [
  | inl same ↦ subst (λ x. value_at r xs x ≢ r.nil) (sym ((same_polynomial_decides f g).0 same)) h.0
  | inr later ↦ member_nonzero r xs f ns later h.1
]

module _ (p n : ℕ) (prime : IsPrime p) where
  module _ (r : Tables) (domain : IsFiniteDomain p r) (xs : List ℕ) (point : IsPoint r xs) where
    -- a constant other than 0 is not zero
    pub constant_nonzero : (f : Polynomial) → IsPolynomial p n f → is_constant f ≡ true → f ≢ [] → value_at r xs f ≢ r.nil
    constant_nonzero f i constant some =
        let parts = constant_from_free p n f (omega (arith, prime.many)) i ((is_constant_iff f).0 constant) in
        subst (λ x. value_at r xs x ≢ r.nil) (sym parts.2) (value_at-constant_of p r domain.ring xs point n parts.0 prime (positive parts.0 parts.2) parts.1)
      where
        positive : (c : ℕ) → f ≡ constant_of n c → 0 < c
        positive zero e = absurd (some e)
        positive (suc c) e = omega arith

    -- what is known nonzero is not zero
    pub known_nonzero : (ns : List Polynomial) (h : Polynomial) → IsPolynomial p n h → h ≢ [] → is_known_nonzero p ns h ≡ true → AreNonZero r xs ns → value_at r xs h ≢ r.nil
    known_nonzero ns h i some known nonzero = elim (or_cases (is_constant h) (is_member (monic p h) ns) known) [
      | inl constant ↦ constant_nonzero h i constant some
      | inr member ↦ λ z. member_nonzero r xs (monic p h) ns member nonzero ((value_at-monic p r domain.ring xs point n h prime i).1 z)
    ]

    -- one more that is not zero
    pub with_nonzero_points : (ns : List Polynomial) (h : Polynomial) → IsPolynomial p n h → AreNonZero r xs ns → value_at r xs h ≢ r.nil → AreNonZero r xs (with_nonzero p ns h)
    with_nonzero_points ns h i nonzero some = choose (AreNonZero r xs) (is_known_nonzero p ns h) ns (ns ++ monic p h ∷ []) (λ e. nonzero) (λ e. (AreNonZero-append r xs ns (monic p h ∷ [])).1 (nonzero, (λ z. some ((value_at-monic p r domain.ring xs point n h prime i).0 z), tt)))

    -- and several
    pub with_all_points : (ns hs : List Polynomial) → ArePolynomials p n hs → AreNonZero r xs ns → AreNonZero r xs hs → AreNonZero r xs (with_all_nonzero p ns hs)
    with_all_points ns [] are nonzero some = nonzero
    with_all_points ns (h ∷ hs) are nonzero some = with_all_points (with_nonzero p ns h) hs are.1 (with_nonzero_points ns h are.0 nonzero some.0) some.1
