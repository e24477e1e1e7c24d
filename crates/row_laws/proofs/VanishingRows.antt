-- Remainder rows and combinations at points where what they are made of is zero.
use Rattle.std.proofs.Common.{ℕ, zero, suc, List, [], ◌∷◌, sym, ap, ◌∙◌, subst}
use Rattle.std.proofs.lemmas.Option.{same_Some}
use Rattle.polynomials.specs.Primes.{IsPrime}
use Rattle.polynomials.specs.Polynomials.{Polynomial, ArePolynomials}
use Rattle.polynomials.proofs.PolynomialRing.{CanonicalPolynomial}
use Rattle.zero_sets.specs.Domains.{Tables, IsFiniteDomain, IsPoint, value_at}
use Rattle.zero_sets.specs.ZeroSets.{InZeroSet}
use Rattle.zero_sets.proofs.TableRings.{Element}
use Rattle.division_rules.specs.Operations.{lead}
use Rattle.division_rules.specs.Points.{Vanish}
use Rattle.division_rules.specs.Rows.{Row}
use Rattle.division_rules.specs.RemainderRows.{LaterRows, remainder_rows}
use Rattle.division_rules.proofs.CanonicalViews.{canonical_operations}
use Rattle.division_rules.proofs.CombinationPoints.{combination_zero}
use Rattle.division_rules.proofs.Down.{down, down_all}
use Rattle.division_rules.proofs.PolynomialSetting.{polynomial_setting}
use Rattle.division_rules.proofs.RowsFree.{EachOf}
use Rattle.division_rules.proofs.Settings.{ViewedRing, Evaluation, IsZero, NotZero}
use Rattle.division_rules.proofs.Up.{up, up_all, up_rows, down-up}
use Rattle.division_rules.proofs.Vanish.{remainder_rows_vanish as canonical_rows_vanish}
use Rattle.row_laws.specs.Values.{CombinationsKeepZeros}
use Rattle.row_laws.specs.Vanishing.{AreZeroByLeads, RemainderRowsVanish}
use Rattle.row_laws.proofs.Lifts.{lifted-remainder_rows}
use Rattle.row_laws.proofs.Starts.{start_base, start_turn}
use Rattle.row_laws.proofs.TablePoints.{table_evaluation, table_zero, zero_table, table_not_zero, chain_zero}
use Rattle.row_laws.proofs.CombinationRows.{up_combination}

module _ (p n : ℕ) (prime : IsPrime p) (r : Tables) (domain : IsFiniteDomain p r) (xs : List ℕ) (point : IsPoint r xs) where
  abbrev P : ViewedRing (CanonicalPolynomial p n)
  P = polynomial_setting p n prime

  abbrev E : Evaluation (polynomial_setting p n prime) (Element r)
  E = table_evaluation p n prime r domain xs point

  -- rows that vanish unless leads do, at a place of the list
  vanish_at : (v : ℕ) (H : Type 0) (g : Row (CanonicalPolynomial p n)) (later : List (Row (CanonicalPolynomial p n))) → Vanish (canonical_operations p n prime.many) E.val E.values.nil v H g later → H → AreZeroByLeads p n v r xs (down p n prime.many g) (down_all p n prime.many later)
  vanish_at v H g [] vanish known i h there leads_are = cc
  vanish_at v H g (f ∷ later) vanish known zero h there leads_are = ap (λ x. value_at r xs x.first) (sym (same_Some (down p n prime.many f) h there)) ∙ zero_table p n prime r domain xs point f.first (vanish.0 known)
  vanish_at v H g (f ∷ later) vanish known (suc i) h there leads_are = vanish_at v (H × NotZero P E (lead (canonical_operations p n prime.many) v g.first)) f later vanish.1 (known, table_not_zero p n prime r domain xs point (lead (canonical_operations p n prime.many) v g.first) leads_are.0) i h there leads_are.1

  -- the generators are zero
  pub generators_zero : (gs : List Polynomial) (are : ArePolynomials p n gs) → InZeroSet r xs gs → EachOf (IsZero P E) (up_all p n prime.many gs are)
  generators_zero [] are zeros = tt
  generators_zero (g ∷ gs) are zeros = (table_zero p n prime r domain xs point (g, are.0) zeros.0, generators_zero gs are.1 zeros.1)

-- the laws
pub remainder_rows_vanish : RemainderRowsVanish
remainder_rows_vanish p n w v r xs chain t c prime at (it, (ic, are)) start (zt, (zc, zeros)) = subst (λ rows. AreZeroByLeads p n v r xs c rows.later) (lifted-remainder_rows p n prime.many chain are w v t c it ic) (subst (λ g. AreZeroByLeads p n v r xs g (down_all p n prime.many rows.later)) (down-up p n prime.many c ic) (vanish_at p n prime r at.domain xs at.point v (Unit {0}) (up p n prime.many c ic) rows.later vanish tt))
  where
    rows : LaterRows (CanonicalPolynomial p n)
    rows = remainder_rows (canonical_operations p n prime.many) w v (up_rows p n prime.many chain are) (up p n prime.many t it) (up p n prime.many c ic)

    E : Evaluation (polynomial_setting p n prime) (Element r)
    E = table_evaluation p n prime r at.domain xs at.point

    vanish : Vanish (canonical_operations p n prime.many) E.val E.values.nil v (Unit {0}) (up p n prime.many c ic) rows.later
    vanish = canonical_rows_vanish (polynomial_setting p n prime) E w v (up_rows p n prime.many chain are) (start_base p n prime v chain are t.first c.first start) (chain_zero p n prime r at.domain xs at.point chain are zeros) (up p n prime.many t it) (up p n prime.many c ic) (start_turn p n prime v chain are t c it ic start) (table_zero p n prime r at.domain xs at.point (t.first, it.0) zt) (table_zero p n prime r at.domain xs at.point (c.first, ic.0) zc)

-- and of combinations
pub combinations_keep_zeros : CombinationsKeepZeros
combinations_keep_zeros p n r xs gs f prime at are i over zeros = zero_table p n prime r at.domain xs at.point (f.first, i.0) (combination_zero (polynomial_setting p n prime) (table_evaluation p n prime r at.domain xs at.point) (up_all p n prime.many gs are) (up p n prime.many f i) (up_combination p n prime gs are f (record { canonical = i; combination = over })) (generators_zero p n prime r at.domain xs at.point gs are zeros))
