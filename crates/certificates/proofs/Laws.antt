-- Compositions are identities, and the test decides whether a certificate is one.
use Rattle.std.proofs.Common.{◌≡◌, ◌↔◌, ℕ, Bool, true, List, ◌∷◌, ◌++◌, Option, Some, None, IfSome, sym, subst}
use Rattle.mono_words.specs.declared.mono.TheConstants.{VARS}
use Rattle.polynomials.specs.Primes.{IsPrime}
use Rattle.polynomials.specs.Polynomials.{Polynomial}
use Rattle.zero_sets.specs.Certificates.{Certificate, IsCertificateOver, Certifies}
use Rattle.division_rules.specs.Rows.{Row}
use Rattle.row_laws.specs.Combinations.{IsRowOver}
use Rattle.row_laws.specs.Compositions.{composition}
use Rattle.row_laws.proofs.Compositions.{compositions_are_rows}
use Rattle.finish_rules.specs.Checks.{checked}
use Rattle.finish_rules.specs.Identities.{composed_within}
use Rattle.finish_laws.proofs.CheckedCertificates.{checks_decide}
use Rattle.finish_laws.proofs.Compositions.{compositions_fit}
use Rattle.certificates.specs.Compositions.{IsComposedWhere}

-- what is composed within a width is a row over the generators
pub composed_where : (p w : ℕ) → IsPrime p → (sofar next : Row Polynomial) (r : Option (Row Polynomial)) → r ≡ composed_within p VARS w sofar next → IfSome r (IsComposedWhere p sofar next)
composed_where p w prime sofar next r is = go r (subst (λ o. IfSome o (λ g. g ≡ composition p VARS sofar next)) (sym is) (compositions_fit p VARS w sofar next))
  where
    go : (o : Option (Row Polynomial)) → IfSome o (λ g. g ≡ composition p VARS sofar next) → IfSome o (IsComposedWhere p sofar next)
    go None fits = tt
    go (Some g) fits = λ h t before more are over over_next. subst (IsRowOver p VARS (h ∷ before ++ t ∷ more)) (sym fits) (compositions_are_rows p VARS h t before more sofar next prime are over over_next)

-- what the test says
pub checked_decides : (p w : ℕ) (chain : List Polynomial) (c : Certificate) (r : Option Bool) → IsCertificateOver p VARS c → r ≡ checked p VARS w chain c → IfSome r (λ b. (b ≡ true) ↔ Certifies p VARS chain c)
checked_decides p w chain c r over is = subst (λ o. IfSome o (λ b. (b ≡ true) ↔ Certifies p VARS chain c)) (sym is) (checks_decide p VARS w chain c over)
