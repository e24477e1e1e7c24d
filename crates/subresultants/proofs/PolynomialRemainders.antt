-- Remainder rows of polynomials, by those of their rows as generators.
use Rattle.std.proofs.Common.{◌≡◌, ◌+◌, ◌≤◌, ℕ, suc, Bool, true, false, List, [], ◌∷◌, length, Result, Ok, Err, IfOk, refl, sym, ap, ap₂, subst, ◌∙◌, arith}
use Rattle.mono_words.specs.declared.mono.TheConstants.{VARS}
use Rattle.polynomials.specs.Primes.{IsPrime}
use Rattle.polynomials.specs.Polynomials.{Polynomial, IsPolynomial, ArePolynomials}
use Rattle.polynomials.specs.Views.{main_var}
use Rattle.zero_sets.specs.ZeroSets.{IsTriangularFrom}
use Rattle.division_rules.specs.Lists.{variable_or_zero}
use Rattle.division_rules.specs.Rows.{Row, first_entries}
use Rattle.division_rules.specs.Chains.{EachRow}
use Rattle.division_rules.specs.RemainderRowsWithin.{remainder_rows_within}
use Rattle.division_rules.specs.PolynomialRows.{IsPolynomialRow, ArePolynomialRows}
use Rattle.division_rules.specs.Units.{IsCombinationOf}
use Rattle.division_rules.proofs.Steps.{EachRow-map}
use Rattle.pseudo_division.specs.FieldOperations.{operations}
use Rattle.row_laws.specs.Words.{AreBelow, StartRemainderRows}
use Rattle.row_laws.specs.Combinations.{IsRowOver}
use Rattle.row_laws.proofs.CombinationRows.{combinations_are_kept}
use Rattle.row_laws.proofs.Starts.{variable_below}
use Rattle.subresultants.specs.Ends.{EachEnd, IfEnds, HasLeads, ends_of}
use Rattle.subresultants.specs.Generators.{generator_row, generator_rows}
use Rattle.subresultants.specs.Outcomes.{outcome_of, remainders_of}
use Rattle.subresultants.specs.Shape.{EachRemainderRow, IfRows, HasFallingDegrees, IsReducedFromRowOne, HasNonzeroLeads, IfCoprime, EndsWithItsLead, VanishesWithGenerators}
use Rattle.subresultants.specs.AllRows.{AllRemainders, Coprime, Common, TooWide}
use Rattle.subresultants.proofs.Ends.{each_kept, leads_kept}
use Rattle.subresultants.proofs.Clauses.{outcome_canonical, outcome_combinations, outcome_counts, outcome_falls, outcome_last_lead, outcome_leads, outcome_reduced, outcome_vanishes}
use Rattle.subresultants.proofs.GeneratorRows.{generator_row-first, generator_rows-entries, cofactor_count, generator_row-count, generator_rows-count, generator_row-canonical, generator_rows-canonical}

-- what holds of x holds of what is x, where there is no error
pub if_ok : {T E : Type 0} (P : T → Type 0) (x : T) (result : Result T E) → IfOk result (λ r. r ≡ x) → P x → IfOk result P
if_ok P x (Ok r) e h = subst P (sym e) h
if_ok P x (Err e) h i = tt

-- what follows for a row follows for each
EachRemainderRow-map : (P Q : Row Polynomial → Type 0) → ((f : Row Polynomial) → P f → Q f) → (r : AllRemainders) → EachRemainderRow P r → EachRemainderRow Q r
EachRemainderRow-map P Q follows (Coprime r) h = EachRow-map P Q r.rows follows h
EachRemainderRow-map P Q follows (Common r z) h = (EachRow-map P Q r.rows follows h.0, follows z h.1)
EachRemainderRow-map P Q follows TooWide h = tt

-- a list without items is empty
no_items : {X : Type 0} (xs : List X) → length xs ≡ 0 → xs ≡ []
no_items [] e = refl
no_items (x ∷ xs) e = cc

-- a triangular set with main variables less than v has at most v polynomials
pub few_below : (v u : ℕ) (chain : List Polynomial) → u ≤ v → IsTriangularFrom u chain → AreBelow v chain → u + length chain ≤ v
few_below v u [] most triangular below = omega arith
few_below v u (t ∷ chain) most triangular below =
    let main = ap variable_or_zero triangular.1 in
    let less = variable_below v (main_var t) below.0 in
    let least = triangular.2 in
    let rest = few_below v (suc triangular.0) chain (omega arith) triangular.3 below.1 in
    omega arith

-- what holds of each row holds of what is kept
pub kept : (p w v : ℕ) (cofactors : Bool) (t c : Polynomial) (chain : List Polynomial) (P : Row Polynomial → Type 0) → EachRemainderRow P (remainders_of p w v cofactors t c chain) → EachEnd P (ends_of (remainders_of p w v cofactors t c chain))
kept p w v cofactors t c chain P each =
    let row_t = generator_row cofactors 1 (length chain) t in
    let row_c = generator_row cofactors 0 (suc (length chain)) c in
    each_kept p v row_t row_c P (remainder_rows_within (operations p) w v (generator_rows p cofactors 2 chain) row_t row_c) each

module _ (p w v : ℕ) (cofactors : Bool) (prime : IsPrime p) (t c : Polynomial) (chain : List Polynomial) (it : IsPolynomial p VARS t) (ic : IsPolynomial p VARS c) (are : ArePolynomials p VARS chain) (start : StartRemainderRows v chain t c) where
  abbrev pub row_t : Row Polynomial
  row_t = generator_row cofactors 1 (length chain) t

  abbrev pub row_c : Row Polynomial
  row_c = generator_row cofactors 0 (suc (length chain)) c

  abbrev pub rows : List (Row Polynomial)
  rows = generator_rows p cofactors 2 chain

  pub t_canonical : IsPolynomialRow p VARS row_t
  t_canonical = generator_row-canonical p prime.many cofactors 1 (length chain) t it

  pub c_canonical : IsPolynomialRow p VARS row_c
  c_canonical = generator_row-canonical p prime.many cofactors 0 (suc (length chain)) c ic

  pub rows_canonical : ArePolynomialRows p VARS rows
  rows_canonical = generator_rows-canonical p prime.many cofactors 2 chain are

  -- they start remainder rows
  pub rows_start : StartRemainderRows v (first_entries rows) row_t.first row_c.first
  rows_start =
      subst (λ x. StartRemainderRows v x row_t.first row_c.first) (sym (generator_rows-entries p cofactors 2 chain))
      (subst (λ x. StartRemainderRows v chain x row_c.first) (sym (generator_row-first cofactors 1 (length chain) t))
      (subst (λ x. StartRemainderRows v chain t x) (sym (generator_row-first cofactors 0 (suc (length chain)) c)) start))

  -- and have as many cofactors
  pub rows_count : EachRow (λ f. length f.cofactors ≡ cofactor_count cofactors (2 + length chain)) (row_t ∷ row_c ∷ rows)
  rows_count = (generator_row-count cofactors 1 (length chain) (2 + length chain) t (omega arith), (generator_row-count cofactors 0 (suc (length chain)) (2 + length chain) c (omega arith), generator_rows-count p cofactors 2 (2 + length chain) chain refl))

  module _ (x y : Row Polynomial) (zs : List (Row Polynomial)) (x_is : x ≡ row_t) (y_is : y ≡ row_c) (zs_is : zs ≡ rows) where
    -- so do rows that are those
    pub same_start : StartRemainderRows v (first_entries zs) x.first y.first
    same_start = subst (λ a. StartRemainderRows v (first_entries a) x.first y.first) (sym zs_is) (subst (λ (a : Row Polynomial). StartRemainderRows v (first_entries rows) a.first y.first) (sym x_is) (subst (λ (a : Row Polynomial). StartRemainderRows v (first_entries rows) row_t.first a.first) (sym y_is) rows_start))

    pub same_counts : EachRow (λ f. length f.cofactors ≡ length x.cofactors) (x ∷ y ∷ zs)
    same_counts = subst (λ a. EachRow (λ f. length f.cofactors ≡ length x.cofactors) (x ∷ y ∷ a)) (sym zs_is) (subst (λ (a : Row Polynomial). EachRow (λ f. length f.cofactors ≡ length a.cofactors) (a ∷ y ∷ rows)) (sym x_is) (subst (λ (a : Row Polynomial). EachRow (λ f. length f.cofactors ≡ length row_t.cofactors) (row_t ∷ a ∷ rows)) (sym y_is) (subst (λ n. EachRow (λ f. length f.cofactors ≡ n) (row_t ∷ row_c ∷ rows)) (sym rows_count.0) rows_count)))

    -- and their outcome is the same
    pub same_outcome : outcome_of p w v zs x y ≡ remainders_of p w v cofactors t c chain
    same_outcome = ap (λ a. outcome_of p w v a x y) zs_is ∙ ap₂ (outcome_of p w v rows) x_is y_is

  pub over : EachRemainderRow (IsPolynomialRow p VARS) (remainders_of p w v cofactors t c chain)
  over = outcome_canonical p w v prime rows rows_canonical row_t row_c t_canonical c_canonical rows_start

  pub counts : EachRemainderRow (λ f. length f.cofactors ≡ cofactor_count cofactors (2 + length chain)) (remainders_of p w v cofactors t c chain)
  counts = outcome_counts p w v prime rows rows_canonical row_t row_c t_canonical c_canonical rows_start (cofactor_count cofactors (2 + length chain)) rows_count

  pub falls : HasFallingDegrees p v (remainders_of p w v cofactors t c chain)
  falls = outcome_falls p w v prime rows rows_canonical row_t row_c t_canonical c_canonical rows_start

  pub leads : IfRows HasNonzeroLeads (remainders_of p w v cofactors t c chain)
  leads = outcome_leads p w v prime rows rows_canonical row_t row_c t_canonical c_canonical rows_start

  -- the leads are kept
  pub kept_leads : IfEnds (HasLeads p) (ends_of (remainders_of p w v cofactors t c chain))
  kept_leads = leads_kept p v row_t row_c (remainder_rows_within (operations p) w v rows row_t row_c) over leads

  pub last_lead : IfCoprime EndsWithItsLead (remainders_of p w v cofactors t c chain)
  last_lead = outcome_last_lead p w v prime rows rows_canonical row_t row_c t_canonical c_canonical rows_start

  pub reduced : IfRows (IsReducedFromRowOne chain) (remainders_of p w v cofactors t c chain)
  reduced = subst (λ x. IfRows (IsReducedFromRowOne x) (remainders_of p w v cofactors t c chain)) (generator_rows-entries p cofactors 2 chain) (outcome_reduced p w v prime rows rows_canonical row_t row_c t_canonical c_canonical rows_start)

  pub zeros : IfRows (VanishesWithGenerators p (c ∷ t ∷ chain)) (remainders_of p w v cofactors t c chain)
  zeros = subst (λ x. IfRows (VanishesWithGenerators p x) (remainders_of p w v cofactors t c chain)) same (outcome_vanishes p w v prime rows rows_canonical row_t row_c t_canonical c_canonical rows_start)
    where
      same : row_c.first ∷ row_t.first ∷ first_entries rows ≡ c ∷ t ∷ chain
      same = ap₂ (λ x zs. x ∷ zs) (generator_row-first cofactors 0 (suc (length chain)) c) (ap₂ (λ x zs. x ∷ zs) (generator_row-first cofactors 1 (length chain) t) (generator_rows-entries p cofactors 2 chain))

module _ (p w v : ℕ) (prime : IsPrime p) (t c : Polynomial) (chain : List Polynomial) (it : IsPolynomial p VARS t) (ic : IsPolynomial p VARS c) (are : ArePolynomials p VARS chain) (start : StartRemainderRows v chain t c) where
  -- with cofactors each row is a combination of the generators
  pub combinations : EachRemainderRow (IsCombinationOf (operations p) (c ∷ t ∷ chain)) (remainders_of p w v true t c chain)
  combinations =
      let units = (combinations_are_kept p VARS (c ∷ t ∷ chain) prime (ic, (it, are))).units in
      EachRemainderRow-map (IsRowOver p VARS (c ∷ t ∷ chain)) (IsCombinationOf (operations p) (c ∷ t ∷ chain)) (λ f h. h.combination) (remainders_of p w v true t c chain) (outcome_combinations p w v prime (rows p w v true prime t c chain it ic are start) (rows_canonical p w v true prime t c chain it ic are start) (row_t p w v true prime t c chain it ic are start) (row_c p w v true prime t c chain it ic are start) (t_canonical p w v true prime t c chain it ic are start) (c_canonical p w v true prime t c chain it ic are start) (rows_start p w v true prime t c chain it ic are start) (c ∷ t ∷ chain) (ic, (it, are)) (units.1.0, (units.0, units.1.1)))

  -- without them no row has any
  pub no_cofactors : EachRemainderRow (λ f. f.cofactors ≡ []) (remainders_of p w v false t c chain)
  no_cofactors = EachRemainderRow-map (λ f. length f.cofactors ≡ 0) (λ f. f.cofactors ≡ []) (λ f e. no_items f.cofactors e) (remainders_of p w v false t c chain) (counts p w v false prime t c chain it ic are start)
