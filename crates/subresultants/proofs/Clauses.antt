-- What the laws of remainder rows say of an outcome.
use Rattle.std.proofs.Common.{◌≡◌, ◌≢◌, ◌-◌, ℕ, zero, suc, List, [], ◌∷◌, length, map, take, All, Option, Some, None, refl, sym, ap, subst, ◌∙◌, arith}
use Rattle.std.specs.List.{slice_get}
use Rattle.std.proofs.lemmas.List.Elements.{All-nil, All-cons}
use Rattle.mono_words.specs.declared.mono.TheConstants.{VARS}
use Rattle.polynomials.specs.Primes.{IsPrime}
use Rattle.polynomials.specs.Polynomials.{Polynomial, ArePolynomials}
use Rattle.polynomials.specs.Views.{degree_in}
use Rattle.polynomials.proofs.Degrees.{lead_in_nonzero}
use Rattle.polynomials.proofs.PolynomialRing.{CanonicalPolynomial}
use Rattle.zero_sets.specs.Domains.{Tables, IsPointOver, value_at}
use Rattle.zero_sets.specs.ZeroSets.{InZeroSet, AreNonZero}
use Rattle.division_rules.specs.Operations.{lead}
use Rattle.division_rules.specs.Rows.{Row, first_entries}
use Rattle.division_rules.specs.Chains.{EachRow, IfRow}
use Rattle.division_rules.specs.PolynomialRows.{IsPolynomialRow, ArePolynomialRows}
use Rattle.division_rules.specs.RemainderRows.{LaterRows, remainder_rows, leads}
use Rattle.division_rules.specs.RemainderRowsWithin.{remainder_rows_within}
use Rattle.division_rules.specs.Turns.{DegreesFall}
use Rattle.division_rules.proofs.Settings.{ViewedRing}
use Rattle.division_rules.proofs.CanonicalRowsWithin.{AreRemainderRows-remainder_rows_within}
use Rattle.division_rules.proofs.CanonicalViews.{canonical_operations}
use Rattle.division_rules.proofs.Identity.{length-map_by}
use Rattle.division_rules.proofs.PolynomialSetting.{polynomial_setting}
use Rattle.division_rules.proofs.RowsShape.{rows_each}
use Rattle.division_rules.proofs.Up.{up, up_rows}
use Rattle.division_rules.proofs.WithinLimits.{gives-remainder_rows}
use Rattle.pseudo_division.specs.FieldOperations.{operations}
use Rattle.row_laws.specs.Words.{IsReducedBy, StartRemainderRows}
use Rattle.row_laws.specs.Combinations.{IsRowOver, AreRowsOver}
use Rattle.row_laws.proofs.CombinationRows.{EachRow-down, IfRow-down, combinations_are_kept}
use Rattle.row_laws.proofs.FallingRows.{remainder_rows_fall}
use Rattle.row_laws.proofs.Lifts.{lifted-remainder_rows}
use Rattle.row_laws.proofs.VanishingRows.{remainder_rows_vanish}
use Rattle.subresultants.specs.Outcomes.{with_leads, ended, outcome_after, outcome_of}
use Rattle.subresultants.specs.Shape.{EachRemainderRow, IfRows, HasFallingDegrees, DegreesFallAlong, IsReducedFromRowOne, HasNonzeroLeads, IfCoprime, EndsWithItsLead, VanishesBehindLeads, VanishesWithGenerators}
use Rattle.subresultants.specs.AllRows.{RemainderRows}
use Rattle.subresultants.proofs.CofactorCounts.{HasCount, count-undivided, count-next_row}
use Rattle.subresultants.proofs.LastLeads.{length-leads, ends_with_lead}
use Rattle.subresultants.proofs.Nonzero.{gives_is}
use Rattle.subresultants.proofs.Starts.{start_canonical}

-- each row of an outcome
each_ended : (P : Row Polynomial → Type 0) (r : RemainderRows) (last : Option (Row Polynomial)) → EachRow P r.rows → IfRow P last → EachRemainderRow P (ended r last)
each_ended P r None each z = each
each_ended P r (Some x) each z = (each, z)

-- the rows with their leads
if_ended : (P : RemainderRows → Type 0) (r : RemainderRows) (last : Option (Row Polynomial)) → P r → IfRows P (ended r last)
if_ended P r None h = h
if_ended P r (Some z) h = h

falls_ended : (p v : ℕ) (r : RemainderRows) (last : Option (Row Polynomial)) → DegreesFallAlong p v r.rows last → HasFallingDegrees p v (ended r last)
falls_ended p v r None h = h
falls_ended p v r (Some z) h = h

-- leads of what isn't 0
leads_nonzero : (p v : ℕ) (rows : List (Row Polynomial)) → EachRow (λ f. f.first ≢ []) rows → All (λ l. l ≢ []) (leads (operations p) v rows)
leads_nonzero p v [] each = All-nil (λ l. l ≢ [])
leads_nonzero p v (f ∷ rows) each = All-cons (λ l. l ≢ []) (lead (operations p) v f.first) (leads (operations p) v rows) (lead_in_nonzero v f.first each.0) (leads_nonzero p v rows each.1)

module _ (p w v : ℕ) (prime : IsPrime p) (chain : List (Row Polynomial)) (are : ArePolynomialRows p VARS chain) (t c : Row Polynomial) (it : IsPolynomialRow p VARS t) (ic : IsPolynomialRow p VARS c) (start : StartRemainderRows v (first_entries chain) t.first c.first) where
  -- what holds of all rows holds of the outcome
  by_rows : (P : Row Polynomial → Type 0) → P t → P c → ((rows : LaterRows Polynomial) → remainder_rows_within (operations p) w v chain t c ≡ Some rows → EachRow P rows.later × IfRow P rows.last) → EachRemainderRow P (outcome_of p w v chain t c)
  by_rows P ht hc each = go (remainder_rows_within (operations p) w v chain t c) refl
    where
      go : (x : Option (LaterRows Polynomial)) → remainder_rows_within (operations p) w v chain t c ≡ x → EachRemainderRow P (outcome_after p v (t ∷ c ∷ []) x)
      go None e = tt
      go (Some rows) e =
          let h = each rows e in
          each_ended P (with_leads p v (t ∷ c ∷ rows.later)) rows.last (ht, (hc, h.0)) h.1

  -- the rows are those without a limit on products
  unlimited : (rows : LaterRows Polynomial) → remainder_rows_within (operations p) w v chain t c ≡ Some rows → remainder_rows (operations p) w v chain t c ≡ rows
  unlimited rows e = sym (gives_is (remainder_rows_within (operations p) w v chain t c) rows (remainder_rows (operations p) w v chain t c) (gives-remainder_rows (operations p) w v chain t c) e)

  -- all entries are canonical
  pub outcome_canonical : EachRemainderRow (IsPolynomialRow p VARS) (outcome_of p w v chain t c)
  outcome_canonical = by_rows (IsPolynomialRow p VARS) it ic (λ rows e. AreRemainderRows-remainder_rows_within p VARS prime.many w v chain t c rows are it ic e)

  -- each row is a combination of the generators where the first two and the chain are
  pub outcome_combinations : (gs : List Polynomial) → ArePolynomials p VARS gs → AreRowsOver p VARS gs (t ∷ c ∷ chain) → EachRemainderRow (IsRowOver p VARS gs) (outcome_of p w v chain t c)
  outcome_combinations gs are_gs each = by_rows (IsRowOver p VARS gs) each.0 each.1.0 (λ rows e. subst (λ x. EachRow (IsRowOver p VARS gs) x.later × IfRow (IsRowOver p VARS gs) x.last) (unlimited rows e) ((combinations_are_kept p VARS gs prime are_gs).later_rows w v chain t c each start, (combinations_are_kept p VARS gs prime are_gs).zero_row w v chain t c each start))

  module _ (count : ℕ) (counts : EachRow (λ f. length f.cofactors ≡ count) (t ∷ c ∷ chain)) where
    abbrev P : ViewedRing (CanonicalPolynomial p VARS)
    P = polynomial_setting p VARS prime

    abbrev canonical_rows : LaterRows (CanonicalPolynomial p VARS)
    canonical_rows = remainder_rows (canonical_operations p VARS prime.many) w v (up_rows p VARS prime.many chain are) (up p VARS prime.many t it) (up p VARS prime.many c ic)

    counted : EachRow (HasCount P count) canonical_rows.later × IfRow (HasCount P count) canonical_rows.last
    counted =
        let s = start_canonical p v prime count chain are t c it ic start counts in
        rows_each P w v (up_rows p VARS prime.many chain are) s.base (HasCount P count) (HasCount P count) (λ m x y. HasCount P count x × HasCount P count y) (λ m x y turn h null. count-undivided P count v (up_rows p VARS prime.many chain are) x y s.chain_counts h.0 h.1) (λ m x y turn h some. let next = count-next_row P count w v (up_rows p VARS prime.many chain are) m x y s.chain_counts h.0 h.1 in (next, (h.1, next))) (suc (degree_in v c.first)) None (up p VARS prime.many t it) (up p VARS prime.many c ic) s.turn (s.first_count, s.second_count)

    down_count : (f : Row (CanonicalPolynomial p VARS)) → HasCount P count f → length (map (λ (x : CanonicalPolynomial p VARS). x.0) f.cofactors) ≡ count
    down_count f h = length-map_by (λ (x : CanonicalPolynomial p VARS). x.0) f.cofactors ∙ h

    -- each row has as many cofactors as the first two
    pub outcome_counts : EachRemainderRow (λ f. length f.cofactors ≡ count) (outcome_of p w v chain t c)
    outcome_counts = by_rows (λ f. length f.cofactors ≡ count) counts.0 counts.1.0 (λ rows e. subst (λ x. EachRow (λ f. length f.cofactors ≡ count) x.later × IfRow (λ f. length f.cofactors ≡ count) x.last) (lifted-remainder_rows p VARS prime.many chain are w v t c it ic ∙ unlimited rows e) (EachRow-down p VARS prime.many (λ f. length f.cofactors ≡ count) (HasCount P count) canonical_rows.later down_count counted.0, IfRow-down p VARS prime.many (λ f. length f.cofactors ≡ count) (HasCount P count) canonical_rows.last down_count counted.1))

  -- the degrees fall
  pub outcome_falls : HasFallingDegrees p v (outcome_of p w v chain t c)
  outcome_falls = go (remainder_rows_within (operations p) w v chain t c) refl
    where
      go : (x : Option (LaterRows Polynomial)) → remainder_rows_within (operations p) w v chain t c ≡ x → HasFallingDegrees p v (outcome_after p v (t ∷ c ∷ []) x)
      go None e = tt
      go (Some rows) e = falls_ended p v (with_leads p v (t ∷ c ∷ rows.later)) rows.last (start.falls, omega (arith, start.falls, start.occurs), subst (λ x. DegreesFall (operations p) v c x.later x.last) (unlimited rows e) (remainder_rows_fall p VARS w v chain t c prime (it, (ic, are)) start).falls)

  -- the last of coprime rows is its own lead
  pub outcome_last_lead : IfCoprime EndsWithItsLead (outcome_of p w v chain t c)
  outcome_last_lead = go (remainder_rows_within (operations p) w v chain t c) refl
    where
      if_coprime : (later : List (Row Polynomial)) (last : Option (Row Polynomial)) → ArePolynomialRows p VARS later → DegreesFall (operations p) v c later last → IfCoprime EndsWithItsLead (ended (with_leads p v (t ∷ c ∷ later)) last)
      if_coprime later None each fall = ends_with_lead p v prime t c later (ic, each) fall
      if_coprime later (Some z) each fall = tt

      go : (x : Option (LaterRows Polynomial)) → remainder_rows_within (operations p) w v chain t c ≡ x → IfCoprime EndsWithItsLead (outcome_after p v (t ∷ c ∷ []) x)
      go None e = tt
      go (Some rows) e = if_coprime rows.later rows.last (AreRemainderRows-remainder_rows_within p VARS prime.many w v chain t c rows are it ic e).0 (subst (λ x. DegreesFall (operations p) v c x.later x.last) (unlimited rows e) (remainder_rows_fall p VARS w v chain t c prime (it, (ic, are)) start).falls)

  -- what holds of all rows with their leads, of rows after c that are those without a limit
  by_leads : (Q : RemainderRows → Type 0) → ((rows : LaterRows Polynomial) → remainder_rows (operations p) w v chain t c ≡ rows → Q (record { rows = t ∷ c ∷ rows.later; leads = leads (operations p) v (c ∷ rows.later) })) → IfRows Q (outcome_of p w v chain t c)
  by_leads Q each = go (remainder_rows_within (operations p) w v chain t c) refl
    where
      go : (x : Option (LaterRows Polynomial)) → remainder_rows_within (operations p) w v chain t c ≡ x → IfRows Q (outcome_after p v (t ∷ c ∷ []) x)
      go None e = tt
      go (Some rows) e = if_ended Q (with_leads p v (t ∷ c ∷ rows.later)) rows.last (each rows (unlimited rows e))

  -- what holds by the law of falling degrees
  abbrev later_nonzero : (rows : LaterRows Polynomial) → remainder_rows (operations p) w v chain t c ≡ rows → EachRow (λ f. f.first ≢ []) rows.later
  later_nonzero rows e = subst (λ x. EachRow (λ f. f.first ≢ []) x.later) e (remainder_rows_fall p VARS w v chain t c prime (it, (ic, are)) start).nonzero

  c_nonzero : c.first ≢ []
  c_nonzero none =
      let low = ap (degree_in v) none in
      let high = start.occurs in
      omega arith

  -- leads
  pub outcome_leads : IfRows HasNonzeroLeads (outcome_of p w v chain t c)
  outcome_leads = by_leads HasNonzeroLeads (λ rows e. record { one_less = ap (λ k. suc (suc k)) (sym (length-leads p v rows.later)); nonzero = leads_nonzero p v (c ∷ rows.later) (c_nonzero, later_nonzero rows e) })

  -- reduced rows
  pub outcome_reduced : IfRows (IsReducedFromRowOne (first_entries chain)) (outcome_of p w v chain t c)
  outcome_reduced = by_leads (IsReducedFromRowOne (first_entries chain)) (λ rows e. (start.reduced, subst (λ x. EachRow (λ f. IsReducedBy f.first (first_entries chain)) x.later) e (remainder_rows_fall p VARS w v chain t c prime (it, (ic, are)) start).reduced))

  -- zeros
  pub outcome_vanishes : IfRows (VanishesWithGenerators p (c.first ∷ t.first ∷ first_entries chain)) (outcome_of p w v chain t c)
  outcome_vanishes = by_leads (VanishesWithGenerators p (c.first ∷ t.first ∷ first_entries chain)) (λ rows e d xs point zeros. vanishes rows e d xs point zeros)
    where
      same_row : (x y : Row Polynomial) → Some x ≡ Some y → x ≡ y
      same_row x y e = cc

      two_less : (j : ℕ) → suc (suc j) - 2 ≡ j
      two_less j = omega arith

      vanishes : (rows : LaterRows Polynomial) → remainder_rows (operations p) w v chain t c ≡ rows → (d : Tables) (xs : List ℕ) → IsPointOver p d xs → InZeroSet d xs (c.first ∷ t.first ∷ first_entries chain) → VanishesBehindLeads d xs (record { rows = t ∷ c ∷ rows.later; leads = leads (operations p) v (c ∷ rows.later) })
      vanishes rows e d xs point zeros zero f at leads_are = ap (λ (x : Row Polynomial). value_at d xs x.first) (sym (same_row t f at)) ∙ zeros.1.0
      vanishes rows e d xs point zeros (suc zero) f at leads_are = ap (λ (x : Row Polynomial). value_at d xs x.first) (sym (same_row c f at)) ∙ zeros.0
      vanishes rows e d xs point zeros (suc (suc j)) f at leads_are = remainder_rows_vanish p VARS w v d xs chain t c prime point (it, (ic, are)) start (zeros.1.0, (zeros.0, zeros.1.1)) j f (subst (λ x. slice_get x.later j ≡ Some f) (sym e) at) (subst (λ x. AreNonZero d xs (take j (leads (operations p) v (c ∷ x.later)))) (sym e) (subst (λ i. AreNonZero d xs (take i (leads (operations p) v (c ∷ rows.later)))) (two_less j) leads_are))
