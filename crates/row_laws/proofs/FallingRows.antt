-- Remainder rows of lists of terms: their degrees, and variables that they don't have.
use Rattle.std.proofs.Common.{◌≡◌, ◌≢◌, ℕ, suc, List, [], ◌∷◌, Option, Some, None, option_map, ap, subst}
use Rattle.polynomials.specs.Primes.{IsPrime}
use Rattle.polynomials.specs.Polynomials.{Polynomial, ArePolynomials}
use Rattle.polynomials.specs.Views.{degree_in, AreFreeOf}
use Rattle.polynomials.specs.Triangular.{IsTriangular}
use Rattle.polynomials.proofs.ExponentsBelow.{ExponentsBelow-one}
use Rattle.polynomials.proofs.PolynomialRing.{CanonicalPolynomial, canonical_path}
use Rattle.division_rules.specs.Chains.{EachRow, IfRow, IsReduced}
use Rattle.division_rules.specs.Lists.{list_operations}
use Rattle.division_rules.specs.PolynomialRows.{IsPolynomialRow, ArePolynomialRows}
use Rattle.division_rules.specs.Rows.{Row, first_entries, reduction}
use Rattle.division_rules.specs.RemainderRows.{LaterRows, remainder_rows}
use Rattle.division_rules.specs.Triangular.{HasLessDegree}
use Rattle.division_rules.specs.Turns.{DegreesFall}
use Rattle.division_rules.proofs.CanonicalViews.{canonical_operations}
use Rattle.division_rules.proofs.Down.{terms_all, down, down_all}
use Rattle.division_rules.proofs.DownRows.{down_rows}
use Rattle.division_rules.proofs.PolynomialSetting.{polynomial_setting}
use Rattle.division_rules.proofs.RowsFree.{EachOf, AllFree, free-reduction, rows_free}
use Rattle.division_rules.proofs.RowsShape.{rows_reduced, remainder_rows_fall as canonical_rows_fall}
use Rattle.division_rules.proofs.Settings.{ViewedRing}
use Rattle.division_rules.proofs.TriangularReductions.{less_degrees}
use Rattle.division_rules.proofs.Up.{up, up_all, up_rows, down-up}
use Rattle.row_laws.specs.Words.{IsReducedBy, StartRemainderRows}
use Rattle.row_laws.specs.Degrees.{IsRowFreeOf, ReductionsAreFree, HaveFallingDegrees, RemainderRowsFall, RemainderRowsAreFree}
use Rattle.row_laws.proofs.CombinationRows.{EachRow-down, IfRow-down}
use Rattle.row_laws.proofs.DegreeLaws.{free_apart}
use Rattle.row_laws.proofs.Lifts.{lifted-reduction, lifted-remainder_rows}
use Rattle.row_laws.proofs.Starts.{start_base, start_turn}

-- less degrees than rows are less degrees than their first entries
reduced_by_entries : (h : Polynomial) (chain : List (Row Polynomial)) → EachRow (HasLessDegree h) chain → IsReducedBy h (first_entries chain)
reduced_by_entries h [] less = tt
reduced_by_entries h (t ∷ chain) less = (less.0, reduced_by_entries h chain less.1)

-- no first entry has a variable that no entry has
pub first_entries_free : (x : ℕ) (chain : List (Row Polynomial)) → EachRow (IsRowFreeOf x) chain → AreFreeOf x (first_entries chain)
first_entries_free x [] free = tt
first_entries_free x (t ∷ chain) free = (free.0.0, first_entries_free x chain free.1)

module _ (p n : ℕ) (prime : IsPrime p) where
  abbrev P : ViewedRing (CanonicalPolynomial p n)
  P = polynomial_setting p n prime

  -- falling degrees are those of the lists of terms
  down_fall : (v : ℕ) (g : Row (CanonicalPolynomial p n)) (later : List (Row (CanonicalPolynomial p n))) (last : Option (Row (CanonicalPolynomial p n))) → DegreesFall (canonical_operations p n prime.many) v g later last → DegreesFall (list_operations p n) v (down p n prime.many g) (down_all p n prime.many later) (option_map (down p n prime.many) last)
  down_fall v g [] None fall = fall
  down_fall v g [] (Some z) fall = (fall.0, ap (λ x. x.0) fall.1)
  down_fall v g (h ∷ later) last fall = (fall.0, fall.1, down_fall v h later last fall.2)

  -- entries without x
  pub up_free : (x : ℕ) (fs : List Polynomial) (are : ArePolynomials p n fs) → AreFreeOf x fs → EachOf (P.laws.Under x 1) (up_all p n prime.many fs are)
  up_free x [] are free = tt
  up_free x (f ∷ fs) are free = ((ExponentsBelow-one x f).1 free.0, up_free x fs are.1 free.1)

  pub down_free : (x : ℕ) (fs : List (CanonicalPolynomial p n)) → EachOf (P.laws.Under x 1) fs → AreFreeOf x (terms_all p n prime.many fs)
  down_free x [] free = tt
  down_free x (f ∷ fs) free = ((ExponentsBelow-one x f.0).0 free.0, down_free x fs free.1)

  pub row_up_free : (x : ℕ) (f : Row Polynomial) (i : IsPolynomialRow p n f) → IsRowFreeOf x f → AllFree P x (up p n prime.many f i)
  row_up_free x f i free = ((ExponentsBelow-one x f.first).1 free.0, up_free x f.cofactors i.1 free.1)

  pub row_down_free : (x : ℕ) (f : Row (CanonicalPolynomial p n)) → AllFree P x f → IsRowFreeOf x (down p n prime.many f)
  row_down_free x f free = ((ExponentsBelow-one x f.first.0).0 free.0, down_free x f.cofactors free.1)

  pub rows_up_free : (x : ℕ) (chain : List (Row Polynomial)) (are : ArePolynomialRows p n chain) → EachRow (IsRowFreeOf x) chain → EachRow (AllFree P x) (up_rows p n prime.many chain are)
  rows_up_free x [] are free = tt
  rows_up_free x (t ∷ chain) are free = (row_up_free x t are.0 free.0, rows_up_free x chain are.1 free.1)

  -- no entry of a reduction has a variable that no entry of the row and of the chain has
  pub reduction_free : (x : ℕ) (chain : List (Row Polynomial)) (f : Row Polynomial) (are : ArePolynomialRows p n chain) (i : IsPolynomialRow p n f) → IsTriangular (first_entries chain) → EachRow (IsRowFreeOf x) chain → IsRowFreeOf x f → IsRowFreeOf x (reduction (list_operations p n) chain f)
  reduction_free x chain f are i triangular free free_f = subst (IsRowFreeOf x) (lifted-reduction p n prime.many chain are f i) (row_down_free x (reduction (canonical_operations p n prime.many) (up_rows p n prime.many chain are) (up p n prime.many f i)) (free-reduction P x (up_rows p n prime.many chain are) (free_apart p n prime x 0 chain are triangular (first_entries_free x chain free)) (rows_up_free x chain are free) (up p n prime.many f i) (row_up_free x f i free_f)))

  module _ (w v : ℕ) (chain : List (Row Polynomial)) (t c : Row Polynomial) (are : ArePolynomialRows p n chain) (it : IsPolynomialRow p n t) (ic : IsPolynomialRow p n c) (start : StartRemainderRows v (first_entries chain) t.first c.first) where
    abbrev rows : LaterRows (CanonicalPolynomial p n)
    rows = remainder_rows (canonical_operations p n prime.many) w v (up_rows p n prime.many chain are) (up p n prime.many t it) (up p n prime.many c ic)

    abbrev list_rows : LaterRows Polynomial
    list_rows = remainder_rows (list_operations p n) w v chain t c

    same : down_rows p n prime.many rows ≡ list_rows
    same = lifted-remainder_rows p n prime.many chain are w v t c it ic

    abbrev IsGood : Row (CanonicalPolynomial p n) → Type 0
    IsGood h = (h.first ≢ P.ring.nil) × IsReduced P.ring P.views P.laws (up_rows p n prime.many chain are) h.first

    good : EachRow IsGood rows.later
    good = (rows_reduced P w v (up_rows p n prime.many chain are) (start_base p n prime v chain are t.first c.first start) (suc (degree_in v c.first)) None (up p n prime.many t it) (up p n prime.many c ic) (start_turn p n prime v chain are t c it ic start)).0

    pub have_falling_degrees : HaveFallingDegrees p n v (first_entries chain) c list_rows
    have_falling_degrees = record {
      nonzero = subst (λ x. EachRow (λ h. h.first ≢ []) x.later) same (EachRow-down p n prime.many (λ h. h.first ≢ []) IsGood rows.later (λ h is e. is.0 (canonical_path p n _ _ e)) good);
      reduced = subst (λ x. EachRow (λ h. IsReducedBy h.first (first_entries chain)) x.later) same (EachRow-down p n prime.many (λ h. IsReducedBy h.first (first_entries chain)) IsGood rows.later (λ h is. reduced_by_entries h.first.0 chain (less_degrees p n prime h.first chain are is.1)) good);
      falls = subst (λ x. DegreesFall (list_operations p n) v c x.later x.last) same (subst (λ g. DegreesFall (list_operations p n) v g (down_rows p n prime.many rows).later (down_rows p n prime.many rows).last) (down-up p n prime.many c ic) (down_fall v (up p n prime.many c ic) rows.later rows.last (canonical_rows_fall P w v (up_rows p n prime.many chain are) (start_base p n prime v chain are t.first c.first start) (up p n prime.many t it) (up p n prime.many c ic) start.occurs (start_turn p n prime v chain are t c it ic start))));
    }

    pub are_free : (x : ℕ) → x ≢ v → IsRowFreeOf x t → IsRowFreeOf x c → EachRow (IsRowFreeOf x) chain → EachRow (IsRowFreeOf x) list_rows.later × IfRow (IsRowFreeOf x) list_rows.last
    are_free x other free_t free_c free = subst (λ y. EachRow (IsRowFreeOf x) y.later × IfRow (IsRowFreeOf x) y.last) same (EachRow-down p n prime.many (IsRowFreeOf x) (AllFree P x) rows.later (row_down_free x) all.0, IfRow-down p n prime.many (IsRowFreeOf x) (AllFree P x) rows.last (row_down_free x) all.1)
      where
        all : EachRow (AllFree P x) rows.later × IfRow (AllFree P x) rows.last
        all = rows_free P w v (up_rows p n prime.many chain are) (start_base p n prime v chain are t.first c.first start) x other (free_apart p n prime x 0 chain are start.triangular (first_entries_free x chain free)) (rows_up_free x chain are free) (suc (degree_in v c.first)) None (up p n prime.many t it) (up p n prime.many c ic) (start_turn p n prime v chain are t c it ic start) (row_up_free x t it free_t) (row_up_free x c ic free_c)

-- the laws
pub reductions_are_free : ReductionsAreFree
reductions_are_free p n x chain f prime (i, are) triangular (free_f, free) = reduction_free p n prime x chain f are i triangular free free_f

pub remainder_rows_fall : RemainderRowsFall
remainder_rows_fall p n w v chain t c prime (it, (ic, are)) start = have_falling_degrees p n prime w v chain t c are it ic start

pub remainder_rows_are_free : RemainderRowsAreFree
remainder_rows_are_free p n w v x chain t c prime (it, (ic, are)) start other (free_t, (free_c, free)) = are_free p n prime w v chain t c are it ic start x other free_t free_c free
