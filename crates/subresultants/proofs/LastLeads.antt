-- The last lead of coprime rows.
use Rattle.std.proofs.Common.{◌≡◌, ◌-◌, ℕ, suc, List, [], ◌∷◌, length, Some, None, refl, sym, ap, ◌∙◌, arith}
use Rattle.std.specs.List.{slice_get}
use Rattle.mono_words.specs.declared.mono.TheConstants.{VARS}
use Rattle.polynomials.specs.Primes.{IsPrime}
use Rattle.polynomials.specs.Polynomials.{Polynomial, IsPolynomial}
use Rattle.polynomials.specs.Views.{degree_in}
use Rattle.division_rules.specs.Operations.{lead}
use Rattle.division_rules.specs.Rows.{Row}
use Rattle.division_rules.specs.PolynomialRows.{ArePolynomialRows}
use Rattle.division_rules.specs.RemainderRows.{leads}
use Rattle.division_rules.specs.Turns.{DegreesFall}
use Rattle.division_rules.proofs.Outcome.{lead-degree_zero}
use Rattle.division_rules.proofs.PolynomialSetting.{polynomial_setting}
use Rattle.pseudo_division.specs.FieldOperations.{operations}
use Rattle.subresultants.specs.Shape.{EndsWithItsLead}

-- as many leads as rows
pub length-leads : (p v : ℕ) (rows : List (Row Polynomial)) → length (leads (operations p) v rows) ≡ length rows
length-leads p v [] = refl
length-leads p v (f ∷ rows) = ap suc (length-leads p v rows)

module _ (p v : ℕ) (prime : IsPrime p) where
  -- what has the degree 0 is its own lead
  lead_itself : (f : Polynomial) → IsPolynomial p VARS f → degree_in v f ≡ 0 → lead (operations p) v f ≡ f
  lead_itself f i e = ap (λ x. x.0) (lead-degree_zero (polynomial_setting p VARS prime) v (f, i) e)

  -- so the last lead is the last first entry
  last_lead : (g : Row Polynomial) (later : List (Row Polynomial)) → ArePolynomialRows p VARS (g ∷ later) → DegreesFall (operations p) v g later None → (f : Row Polynomial) → slice_get (g ∷ later) (length later) ≡ Some f → slice_get (leads (operations p) v (g ∷ later)) (length later) ≡ Some f.first
  last_lead g [] are fall f at =
      let same : g ≡ f = cc in
      ap (λ (x : Polynomial). Some x) (lead_itself g.first are.0.0 fall ∙ ap (λ (x : Row Polynomial). x.first) same)
  last_lead g (h ∷ later) are fall f at = last_lead h later are.1 fall.2 f at

  -- with the first row in front
  pub ends_with_lead : (t c : Row Polynomial) (later : List (Row Polynomial)) → ArePolynomialRows p VARS (c ∷ later) → DegreesFall (operations p) v c later None → EndsWithItsLead (record { rows = t ∷ c ∷ later; leads = leads (operations p) v (c ∷ later) })
  ends_with_lead t c later are fall f at = ap (λ k. slice_get (leads (operations p) v (c ∷ later)) k) count ∙ last_lead c later are fall f (sym (ap (λ k. slice_get (t ∷ c ∷ later) k) rows_count) ∙ at)
    where
      count : length (leads (operations p) v (c ∷ later)) - 1 ≡ length later
      count = omega (arith, length-leads p v later)

      rows_count : length (t ∷ c ∷ later) - 1 ≡ suc (length later)
      rows_count = omega arith
