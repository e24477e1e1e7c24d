-- What holds of all remainder rows holds of what is kept of them.
use Rattle.std.proofs.Common.{◌≡◌, ◌≢◌, ℕ, List, [], ◌∷◌, ◌++◌, Option, Some, None, refl}
use Rattle.mono_words.specs.declared.mono.TheConstants.{VARS}
use Rattle.polynomials.specs.Polynomials.{Polynomial, ArePolynomials}
use Rattle.polynomials.specs.Views.{degree_in}
use Rattle.polynomials.proofs.Coefficients.{IsPolynomial-coefficient_in}
use Rattle.division_rules.specs.Chains.{EachRow}
use Rattle.division_rules.specs.PolynomialRows.{IsPolynomialRow}
use Rattle.division_rules.specs.RemainderRows.{LaterRows, leads}
use Rattle.division_rules.specs.Rows.{Row}
use Rattle.division_rules.specs.Turns.{last_row}
use Rattle.pseudo_division.specs.FieldOperations.{operations}
use Rattle.subresultants.specs.Ends.{last_of, end_of, ends_of, EachEnd, IfEnds, HasLeads}
use Rattle.subresultants.specs.Outcomes.{with_leads, ended, outcome_after}
use Rattle.subresultants.specs.Shape.{EachRemainderRow, IfRows, HasNonzeroLeads}

-- the last of rows with one more
last_row-more : (g : Row Polynomial) (rows : List (Row Polynomial)) (h : Row Polynomial) → last_row g (rows ++ h ∷ []) ≡ h
last_row-more g [] h = refl
last_row-more g (f ∷ rows) h = last_row-more f rows h

pub last_of-more : (rows : List (Row Polynomial)) (h : Row Polynomial) → last_of (rows ++ h ∷ []) ≡ h
last_of-more [] h = refl
last_of-more (f ∷ rows) h = last_row-more f rows h

-- what holds of each row holds of the last
last_holds : (P : Row Polynomial → Type 0) (g : Row Polynomial) (rows : List (Row Polynomial)) → EachRow P (g ∷ rows) → P (last_row g rows)
last_holds P g [] each = each.0
last_holds P g (f ∷ rows) each = last_holds P f rows each.1

-- a list with an item isn't empty
some_item : {X : Type 0} (x : X) (xs : List X) → (x ∷ xs) ≢ []
some_item x xs e = cc

-- leads of canonical rows are canonical
leads_canonical : (p v : ℕ) (rows : List (Row Polynomial)) → EachRow (IsPolynomialRow p VARS) rows → ArePolynomials p VARS (leads (operations p) v rows)
leads_canonical p v [] h = tt
leads_canonical p v (f ∷ rows) h = (IsPolynomial-coefficient_in v (degree_in v f.first) p VARS f.first h.0.0, leads_canonical p v rows h.1)

module _ (p v : ℕ) (t c : Row Polynomial) where
  -- of rows after two
  each_ended : (P : Row Polynomial → Type 0) (later : List (Row Polynomial)) (last : Option (Row Polynomial)) → EachRemainderRow P (ended (with_leads p v (t ∷ c ∷ later)) last) → EachEnd P (ends_of (ended (with_leads p v (t ∷ c ∷ later)) last))
  each_ended P later None each = last_holds P t (c ∷ later) each
  each_ended P later (Some z) each = (last_holds P t (c ∷ later) each.0, each.1)

  pub each_kept : (P : Row Polynomial → Type 0) (o : Option (LaterRows Polynomial)) → EachRemainderRow P (outcome_after p v (t ∷ c ∷ []) o) → EachEnd P (ends_of (outcome_after p v (t ∷ c ∷ []) o))
  each_kept P None each = tt
  each_kept P (Some rows) each = each_ended P rows.later rows.last each

  -- of their leads
  has_leads : (later : List (Row Polynomial)) → EachRow (IsPolynomialRow p VARS) (t ∷ c ∷ later) → HasNonzeroLeads (with_leads p v (t ∷ c ∷ later)) → HasLeads p (end_of (with_leads p v (t ∷ c ∷ later)))
  has_leads later each h = record {
    some = some_item _ (leads (operations p) v later);
    over = leads_canonical p v (c ∷ later) each.1;
    nonzero = h.nonzero;
  }

  leads_ended : (later : List (Row Polynomial)) (last : Option (Row Polynomial)) → EachRemainderRow (IsPolynomialRow p VARS) (ended (with_leads p v (t ∷ c ∷ later)) last) → IfRows HasNonzeroLeads (ended (with_leads p v (t ∷ c ∷ later)) last) → IfEnds (HasLeads p) (ends_of (ended (with_leads p v (t ∷ c ∷ later)) last))
  leads_ended later None each h = has_leads later each h
  leads_ended later (Some z) each h = has_leads later each.0 h

  pub leads_kept : (o : Option (LaterRows Polynomial)) → EachRemainderRow (IsPolynomialRow p VARS) (outcome_after p v (t ∷ c ∷ []) o) → IfRows HasNonzeroLeads (outcome_after p v (t ∷ c ∷ []) o) → IfEnds (HasLeads p) (ends_of (outcome_after p v (t ∷ c ∷ []) o))
  leads_kept None each h = tt
  leads_kept (Some rows) each h = leads_ended rows.later rows.last each h
