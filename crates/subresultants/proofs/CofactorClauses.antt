-- What the laws of the zero row's cofactor say of an outcome.
use Rattle.std.proofs.Common.{◌≡◌, ℕ, suc, true, List, [], ◌∷◌, length, Option, Some, None, refl, sym, subst}
use Rattle.mono_words.specs.declared.mono.TheConstants.{VARS}
use Rattle.polynomials.specs.Primes.{IsPrime}
use Rattle.polynomials.specs.Polynomials.{Polynomial, IsPolynomial, ArePolynomials}
use Rattle.polynomials.specs.Views.{degree_in}
use Rattle.division_rules.specs.Cofactors.{AreCofactorSteps}
use Rattle.division_rules.specs.RemainderRows.{LaterRows}
use Rattle.division_rules.specs.RemainderRowsWithin.{remainder_rows_within}
use Rattle.division_rules.specs.Rows.{Row}
use Rattle.division_rules.proofs.WithinLimits.{gives-remainder_rows}
use Rattle.pseudo_division.specs.FieldOperations.{operations}
use Rattle.row_laws.specs.Words.{StartRemainderRows}
use Rattle.cofactor_laws.specs.RowsWithCofactors.{rows_with_cofactors, EndWithZeroRow}
use Rattle.cofactor_laws.proofs.CofactorRows.{cofactors_grow_by_falls}
use Rattle.cofactor_laws.proofs.ReducedCofactors.{cofactor_lead_is_zero_by_leads, reduced_cofactor_shows_lead}
use Rattle.subresultants.specs.Cofactors.{IfCommon, HasCofactorSteps, VanishesByLeads, ShowsLeadWhereReduced}
use Rattle.subresultants.specs.Generators.{generator_row, generator_rows}
use Rattle.subresultants.specs.Outcomes.{with_leads, ended, outcome_after, remainders_of}
use Rattle.subresultants.specs.AllRows.{RemainderRows}
use Rattle.subresultants.proofs.Nonzero.{gives_is}

module _ (p w v : ℕ) (prime : IsPrime p) (t c : Polynomial) (chain : List Polynomial) (it : IsPolynomial p VARS t) (ic : IsPolynomial p VARS c) (are : ArePolynomials p VARS chain) (start : StartRemainderRows v chain t c) where
  abbrev first : Row Polynomial
  first = generator_row true 1 (length chain) t

  abbrev second : Row Polynomial
  second = generator_row true 0 (suc (length chain)) c

  abbrev within : Option (LaterRows Polynomial)
  within = remainder_rows_within (operations p) w v (generator_rows p true 2 chain) first second

  -- the rows without a limit on products
  abbrev rows : LaterRows Polynomial
  rows = rows_with_cofactors p VARS w v t c chain

  is_unlimited : (found : LaterRows Polynomial) → within ≡ Some found → rows ≡ found
  is_unlimited found e = sym (gives_is within found rows (gives-remainder_rows (operations p) w v (generator_rows p true 2 chain) first second) e)

  -- what holds where the rows end with a zero row holds of a common outcome
  by_zero_row : (P : RemainderRows → Row Polynomial → Type 0) → ((z : Row Polynomial) → EndWithZeroRow p VARS w v t c chain z → P (with_leads p v (first ∷ second ∷ rows.later)) z) → IfCommon P (remainders_of p w v true t c chain)
  by_zero_row P each = go within refl
    where
      by_last : (last : Option (Row Polynomial)) → rows.last ≡ last → IfCommon P (ended (with_leads p v (first ∷ second ∷ rows.later)) last)
      by_last None e = tt
      by_last (Some z) e = each z (record { prime = prime; canonical = (ic, (it, are)); start = start; last = e })

      go : (x : Option (LaterRows Polynomial)) → within ≡ x → IfCommon P (outcome_after p v (first ∷ second ∷ []) x)
      go None e = tt
      go (Some found) e = subst (λ (x : LaterRows Polynomial). IfCommon P (ended (with_leads p v (first ∷ second ∷ x.later)) x.last)) (is_unlimited found e) (by_last rows.last refl)

  -- the degree and the lead grow from row to row
  pub cofactor_steps : IfCommon (HasCofactorSteps p w v chain) (remainders_of p w v true t c chain)
  cofactor_steps = by_zero_row (HasCofactorSteps p w v chain) (λ z ends. subst (λ last. AreCofactorSteps (operations p) w v (generator_rows p true 2 chain) (degree_in v t) None first second rows.later last) ends.last (cofactors_grow_by_falls p VARS w v t c chain prime (ic, (it, are)) start))

  -- the lead is zero by those of the rows
  pub cofactor_lead : IfCommon (VanishesByLeads p v t chain) (remainders_of p w v true t c chain)
  cofactor_lead = by_zero_row (VanishesByLeads p v t chain) (λ z ends d xs. cofactor_lead_is_zero_by_leads p VARS w v d xs t c chain z ends)

  -- a cofactor that reduces to 0 shows a lead that is zero
  pub reduced_cofactor : IfCommon (ShowsLeadWhereReduced p v t c chain) (remainders_of p w v true t c chain)
  reduced_cofactor = by_zero_row (ShowsLeadWhereReduced p v t c chain) (λ z ends d xs more. reduced_cofactor_shows_lead p VARS w v d xs t c chain more z ends)
