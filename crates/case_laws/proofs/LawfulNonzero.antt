-- Monic forms of lawful polynomials, and lists that they are added to.
use Rattle.std.proofs.Common.{◌≡◌, ℕ, List, [], ◌∷◌, ◌++◌, ◌∙◌, arith}
use Rattle.polynomials.specs.Primes.{IsPrime}
use Rattle.polynomials.specs.Polynomials.{Polynomial, monic, one_of}
use Rattle.polynomials.specs.Views.{degree_in}
use Rattle.polynomials.proofs.Canonical.{IsPolynomial-one_of}
use Rattle.polynomials.proofs.ConstantLemmas.{constant_of_free}
use Rattle.polynomials.proofs.MonicLemmas.{IsPolynomial-monic}
use Rattle.zero_sets.specs.Tasks.{is_known_nonzero, with_nonzero}
use Rattle.division_rules.proofs.Steps.{choose}
use Rattle.impose_rules.specs.Leads.{with_all_nonzero}
use Rattle.impose_rules.proofs.Lists.{each_appended}
use Rattle.impose_laws.proofs.MonicForms.{degree_in-monic}
use Rattle.case_laws.specs.Lawful.{IsLawfulPolynomial, AreLawfulPolynomials}
use Rattle.finish_laws.proofs.Small.{monic_small}

-- no variable occurs in 1
pub one_free : (n v : ℕ) → degree_in v (one_of n) ≡ 0
one_free n v = constant_of_free v n 1

module _ (p n k : ℕ) (prime : IsPrime p) where
  -- 1 is lawful
  pub one_lawful : IsLawfulPolynomial p n k (one_of n)
  one_lawful = record {
    canonical = IsPolynomial-one_of p n prime.many;
    named = λ v past. one_free n v;
    small = λ v. let none = one_free n v in omega arith;
  }

  -- and so are monic forms
  pub monic_lawful : (h : Polynomial) → IsLawfulPolynomial p n k h → IsLawfulPolynomial p n k (monic p h)
  monic_lawful h lawful = record {
    canonical = IsPolynomial-monic p n h prime lawful.canonical;
    named = λ v past. degree_in-monic p n prime v h lawful.canonical ∙ lawful.named v past;
    small = monic_small p h lawful.small;
  }

  -- one more that doesn't vanish
  pub with_nonzero_lawful : (ns : List Polynomial) (h : Polynomial) → AreLawfulPolynomials p n k ns → IsLawfulPolynomial p n k h → AreLawfulPolynomials p n k (with_nonzero p ns h)
  with_nonzero_lawful ns h are lawful = choose (AreLawfulPolynomials p n k) (is_known_nonzero p ns h) ns (ns ++ monic p h ∷ []) (λ e. are) (λ e. each_appended (IsLawfulPolynomial p n k) ns (monic p h ∷ []) are (monic_lawful h lawful, tt))

  -- and several
  pub with_all_nonzero_lawful : (ns hs : List Polynomial) → AreLawfulPolynomials p n k ns → AreLawfulPolynomials p n k hs → AreLawfulPolynomials p n k (with_all_nonzero p ns hs)
  with_all_nonzero_lawful ns [] are lawful = are
  with_all_nonzero_lawful ns (h ∷ hs) are lawful = with_all_nonzero_lawful (with_nonzero p ns h) hs (with_nonzero_lawful ns h are lawful.0) lawful.1
