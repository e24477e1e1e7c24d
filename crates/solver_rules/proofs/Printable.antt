-- A lawful leaf can be printed: only named variables occur, and certificates are for its chain.
use Rattle.std.proofs.Common.{◌≡◌, ℕ, ◌<◌, ◌≤◌, List, [], ◌∷◌, Some, All, inl, inr, sym, subst, arith}
use Rattle.std.specs.List.{AllByRecursion}
use Rattle.std.proofs.lemmas.Bool.{cases_lt}
use Rattle.std.proofs.lemmas.List.Elements.{All-from_recursion}
use Rattle.polynomials.specs.Polynomials.{Polynomial}
use Rattle.polynomials.specs.Views.{main_var}
use Rattle.polynomials.proofs.MainVariables.{degree_in_main_var}
use Rattle.zero_sets.specs.Certificates.{Certificate, Certifies}
use Rattle.zero_sets.specs.ZeroSets.{member_in}
use Rattle.impose_rules.proofs.ChainParts.{member_of_chain}
use Rattle.impose_rules.proofs.Lists.{each_implied}
use Rattle.finish_rules.specs.Leaves.{Leaf}
use Rattle.finish_laws.specs.Lawful.{IsLawfulPolynomial, AreLawfulPolynomials, IsLawfulCertificate}
use Rattle.case_laws.specs.Lawful.{IsLawfulLeaf}
use Rattle.report_text.specs.Polynomials.{IsInLeast}
use Rattle.report_text.specs.Certified.{IsNamedCertificate}
use Rattle.solver_reports.specs.Growth.{IsPrintableLeaf}

module _ (p n k : ℕ) where
  -- only the k least variables occur in lawful polynomials
  least : (fs : List Polynomial) → AreLawfulPolynomials p n k fs → All (IsInLeast k) fs
  least fs lawful = All-from_recursion (IsInLeast k) fs (each_implied (IsLawfulPolynomial p n k) (IsInLeast k) (λ f of_f. of_f.named) fs lawful)

  -- a main variable of a lawful chain is one of them
  main_least : (chain : List Polynomial) → AreLawfulPolynomials p n k chain → (v : ℕ) (t : Polynomial) → member_in v chain ≡ Some t → v < k
  main_least chain lawful v t found =
      let is = member_of_chain (IsLawfulPolynomial p n k) v chain t found lawful in
      elim (cases_lt v k) [
        | inl less ↦ less
        | inr past ↦ let none = is.0.named v past in let some = degree_in_main_var v t is.1 in absurd (omega (arith, none, some))
      ]

  -- a lawful certificate of the chain
  named : (chain : List Polynomial) → AreLawfulPolynomials p n k chain → (c : Certificate) → Certifies p n chain c → IsLawfulCertificate p n k c → IsNamedCertificate k chain c
  named chain lawful c (t, certifies) of_c = record {
    of = main_least chain lawful c.of t certifies.member;
    cofactor = of_c.0.named;
    below = least c.below of_c.1.1;
    value = of_c.1.0.named;
    count = certifies.count;
  }

  all_named : (chain : List Polynomial) → AreLawfulPolynomials p n k chain → (cs : List Certificate) → AllByRecursion (Certifies p n chain) cs → AllByRecursion (IsLawfulCertificate p n k) cs → AllByRecursion (IsNamedCertificate k chain) cs
  all_named chain lawful [] certify of_cs = tt
  all_named chain lawful (c ∷ cs) certify of_cs = (named chain lawful c certify.0 of_cs.0, all_named chain lawful cs certify.1 of_cs.1)

  pub lawful_printable : (leaf : Leaf) → IsLawfulLeaf p n k leaf → IsPrintableLeaf k leaf
  lawful_printable leaf lawful = record {
    chain = least leaf.chain lawful.chain.lawful;
    certificates = All-from_recursion (IsNamedCertificate k leaf.chain) leaf.certificates (all_named leaf.chain lawful.chain.lawful leaf.certificates lawful.certify.certify lawful.certificates);
  }
