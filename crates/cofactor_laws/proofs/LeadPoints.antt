-- The lead of the zero row's first cofactor at a point of a finite domain.
use Rattle.std.proofs.Common.{◌≡◌, ◌≢◌, ◌⊎◌, inl, inr, ℕ, suc, List, [], ◌∷◌, map, Any, Option, Some, None, option_map, refl, sym, ap, ◌∙◌, subst, arith}
use Rattle.std.proofs.lemmas.Bool.{cases_eq}
use Rattle.polynomials.specs.Primes.{IsPrime}
use Rattle.polynomials.specs.Polynomials.{Polynomial, ArePolynomials}
use Rattle.polynomials.specs.Views.{degree_in, lead_in, initial_of}
use Rattle.polynomials.proofs.PolynomialRing.{CanonicalPolynomial}
use Rattle.zero_sets.specs.Domains.{Tables, IsFiniteDomain, IsPoint, value_at}
use Rattle.zero_sets.specs.ZeroSets.{InZeroSet, AreNonZero}
use Rattle.zero_sets.proofs.TableRings.{Element, element_path}
use Rattle.division_rules.specs.Chains.{AnyRow}
use Rattle.division_rules.specs.Lists.{list_operations}
use Rattle.division_rules.specs.Operations.{lead, initial}
use Rattle.division_rules.specs.Rows.{Row, plain, plains, reduction}
use Rattle.division_rules.specs.RemainderRows.{LaterRows, leads}
use Rattle.division_rules.specs.Cofactors.{first_cofactor, AreCofactorSteps}
use Rattle.division_rules.proofs.CanonicalViews.{canonical_operations}
use Rattle.division_rules.proofs.CofactorPoints.{cofactor_lead_zero}
use Rattle.division_rules.proofs.Down.{down, down_all}
use Rattle.division_rules.proofs.GeneratorRows.{EachRow-unit_rows, degree-one, generator_rows_lead_zero}
use Rattle.division_rules.proofs.Outcome.{lead-degree_zero}
use Rattle.division_rules.proofs.PolynomialSetting.{polynomial_setting}
use Rattle.division_rules.proofs.Settings.{ViewedRing, Evaluation, IsZero, NotZero, AllZero, InitialsNotZero}
use Rattle.row_laws.specs.Words.{StartRemainderRows}
use Rattle.row_laws.proofs.ReductionValues.{first_entries-plains}
use Rattle.row_laws.proofs.TablePoints.{table_evaluation, zero_table, table_zero, table_not_zero, chain_zero, chain_initials}
use Rattle.cofactor_laws.specs.RowsWithCofactors.{row_of_c, rows_with_cofactors, leads_from_c}
use Rattle.cofactor_laws.proofs.DownSteps.{terms-first_cofactor}
use Rattle.cofactor_laws.proofs.GeneratorLists.{plain_rows_are, up-plains, canonical_c, canonical_t, canonical_chain, base, turn, first, second, chain_units, canonical_rows, down-first, down-canonical_rows, canonical_steps}

-- one that holds of the first, and one of a later element
any_first : {X : Type 0} (Q : X → Type 0) (x : X) (xs : List X) → Q x → Any Q (x ∷ xs)
any_first Q x xs holds = (0, x, omega arith, refl, holds)

any_later : {X : Type 0} (Q : X → Type 0) (y : X) (xs : List X) → Any Q xs → Any Q (y ∷ xs)
any_later Q y xs (k, x, less, same, holds) = (suc k, x, omega arith, same, holds)

-- what is there is made of what was there
there_before : {X Y : Type 0} (f : X → Y) (last : Option X) (y : Y) → option_map f last ≡ Some y → (x : X) × (last ≡ Some x) × (f x ≡ y)
there_before f None y e = cc
there_before f (Some x) y e = (x, refl, cc)

module _ (p n : ℕ) (prime : IsPrime p) (r : Tables) (domain : IsFiniteDomain p r) (xs : List ℕ) (point : IsPoint r xs) where
  abbrev P : ViewedRing (CanonicalPolynomial p n)
  P = polynomial_setting p n prime

  abbrev E : Evaluation (polynomial_setting p n prime) (Element r)
  E = table_evaluation p n prime r domain xs point

  -- an element is 0 or not
  decides : (x : Element r) → (x ≡ E.values.nil) ⊎ (x ≢ E.values.nil)
  decides x = elim (cases_eq x.0 r.nil) [
    | inl same ↦ inl (element_path r same)
    | inr other ↦ inr (λ e. other (ap (λ u. u.0) e))
  ]

  abbrev IsZeroAt : Polynomial → Type 0
  IsZeroAt f = value_at r xs f ≡ r.nil

  -- a row whose lead is zero, among the leads of the lists of terms
  any_lead : (v : ℕ) (rows : List (Row (CanonicalPolynomial p n))) → AnyRow (λ h. IsZero P E (lead (canonical_operations p n prime.many) v h.first)) rows → Any IsZeroAt (leads (list_operations p n) v (down_all p n prime.many rows))
  any_lead v [] found = absurd found
  any_lead v (h ∷ rows) (inl z) = any_first IsZeroAt (lead (list_operations p n) v h.first.0) (leads (list_operations p n) v (down_all p n prime.many rows)) (zero_table p n prime r domain xs point (lead (canonical_operations p n prime.many) v h.first) z)
  any_lead v (h ∷ rows) (inr z) = any_later IsZeroAt (lead (list_operations p n) v h.first.0) (leads (list_operations p n) v (down_all p n prime.many rows)) (any_lead v rows z)

  module _ (w v : ℕ) (t c : Polynomial) (chain : List Polynomial) (are : ArePolynomials p n (c ∷ t ∷ chain)) (start : StartRemainderRows v chain t c) where
    abbrev C : CanonicalPolynomial p n
    C = canonical_c p n prime w v t c chain are start

    abbrev T : CanonicalPolynomial p n
    T = canonical_t p n prime w v t c chain are start

    abbrev below : List (CanonicalPolynomial p n)
    below = canonical_chain p n prime w v t c chain are start

    abbrev rows : LaterRows (CanonicalPolynomial p n)
    rows = canonical_rows p n prime w v t c chain are start

    -- the chain is zero, and its initials aren't
    zeros_above : InZeroSet r xs chain → AllZero P E (plains below)
    zeros_above zeros = subst (AllZero P E) (up-plains p n prime chain are.1.1) (chain_zero p n prime r domain xs point (plains chain) (plain_rows_are p n chain are.1.1) (subst (InZeroSet r xs) (sym (first_entries-plains chain)) zeros))

    initials_above : AreNonZero r xs (map initial_of chain) → InitialsNotZero P E (plains below)
    initials_above others = subst (InitialsNotZero P E) (up-plains p n prime chain are.1.1) (chain_initials p n prime r domain xs point (plains chain) (plain_rows_are p n chain are.1.1) (subst (λ fs. AreNonZero r xs (map initial_of fs)) (sym (first_entries-plains chain)) others))

    -- the leads of c and of the later rows
    leads_down : AnyRow (λ h. IsZero P E (lead (canonical_operations p n prime.many) v h.first)) (first p n prime w v t c chain are start ∷ rows.later) → Any IsZeroAt (leads_from_c p n w v t c chain)
    leads_down found = subst (λ y. Any IsZeroAt (leads (list_operations p n) v (row_of_c n c chain ∷ y.later))) (down-canonical_rows p n prime w v t c chain are start) (subst (λ g. Any IsZeroAt (leads (list_operations p n) v (g ∷ down_all p n prime.many rows.later))) (down-first p n prime w v t c chain are start) (any_lead v (first p n prime w v t c chain are start ∷ rows.later) found))

    -- the zero row, as one of canonical polynomials
    pub zero_row_above : (z : Row Polynomial) → (rows_with_cofactors p n w v t c chain).last ≡ Some z → (y : Row (CanonicalPolynomial p n)) × (rows.last ≡ Some y) × (down p n prime.many y ≡ z)
    zero_row_above z last = there_before (down p n prime.many) rows.last z (ap (λ x. x.last) (down-canonical_rows p n prime w v t c chain are start) ∙ last)

    module _ (z : Row Polynomial) (last : (rows_with_cofactors p n w v t c chain).last ≡ Some z) (others : AreNonZero r xs (map initial_of chain)) (lead_t : value_at r xs (lead_in v t) ≢ r.nil) where
      abbrev y : Row (CanonicalPolynomial p n)
      y = (zero_row_above z last).0

      cofactor_is : (first_cofactor (canonical_operations p n prime.many) y).0 ≡ first_cofactor (list_operations p n) z
      cofactor_is = terms-first_cofactor p n prime.many y ∙ ap (first_cofactor (list_operations p n)) (zero_row_above z last).2

      lead_t_above : NotZero P E (lead (canonical_operations p n prime.many) v T)
      lead_t_above = table_not_zero p n prime r domain xs point (lead (canonical_operations p n prime.many) v T) lead_t

      -- where its lead is zero, the lead of a row is
      pub lead_shows_lead : value_at r xs (lead_in v (first_cofactor (list_operations p n) z)) ≡ r.nil → Any IsZeroAt (leads_from_c p n w v t c chain)
      lead_shows_lead null = leads_down (cofactor_lead_zero P E v decides w units (EachRow-unit_rows P (λ u. NotZero P E (initial (canonical_operations p n prime.many) u)) 2 below (initials_above others)) (degree_in v t) None (second p n prime w v t c chain are start) (first p n prime w v t c chain are start) rows.later y (subst (λ o. AreCofactorSteps (canonical_operations p n prime.many) w v units (degree_in v t) None (second p n prime w v t c chain are start) (first p n prime w v t c chain are start) rows.later o) (zero_row_above z last).1 (canonical_steps p n prime w v t c chain are start)) lead_t_above (λ e. E.one_not_nil (sym E.is_value.val-one ∙ ap E.val (sym (lead-degree_zero P v P.ring.one (degree-one P v))) ∙ e)) (table_zero p n prime r domain xs point (lead (canonical_operations p n prime.many) v (first_cofactor (canonical_operations p n prime.many) y)) (ap (λ a. value_at r xs (lead_in v a)) cofactor_is ∙ null)))
        where
          units : List (Row (CanonicalPolynomial p n))
          units = chain_units p n prime w v t c chain are start

      -- and where it reduces to 0 by the chain, which is zero
      pub reduction_shows_lead : InZeroSet r xs chain → (reduction (canonical_operations p n prime.many) (plains below) (plain (first_cofactor (canonical_operations p n prime.many) y))).first ≡ P.ring.nil → Any IsZeroAt (leads_from_c p n w v t c chain)
      reduction_shows_lead zeros null = leads_down (generator_rows_lead_zero P E w v C T below (base p n prime w v t c chain are start) (turn p n prime w v t c chain are start) decides (zeros_above zeros) (initials_above others) lead_t_above y (zero_row_above z last).1 null)
