-- Rows of lists of terms stay combinations of their generators.
use Rattle.std.proofs.Common.{◌≡◌, ℕ, zero, suc, ◌<◌, List, [], ◌∷◌, ◌++◌, length, replicate, Option, Some, None, option_map, refl, sym, ap, ap₂, ◌∙◌, subst}
use Rattle.std.proofs.lemmas.List.{map-append}
use Rattle.polynomials.specs.Primes.{IsPrime}
use Rattle.polynomials.specs.Polynomials.{Polynomial, ArePolynomials, one_of}
use Rattle.polynomials.specs.Views.{degree_in}
use Rattle.polynomials.proofs.PolynomialRing.{CanonicalPolynomial, canonical_path}
use Rattle.division_rules.specs.Chains.{EachRow, IfRow}
use Rattle.division_rules.specs.Lists.{list_operations}
use Rattle.division_rules.specs.PolynomialRows.{ArePolynomialRows}
use Rattle.division_rules.specs.Rows.{Row, combined, elimination, sparse_remainder, pseudo_remainder, reduction, first_entries}
use Rattle.division_rules.specs.RemainderRows.{LaterRows, remainder_rows}
use Rattle.division_rules.specs.Units.{IsCombinationOf, unit_rows}
use Rattle.division_rules.proofs.CanonicalViews.{canonical_operations}
use Rattle.division_rules.proofs.Down.{terms, terms_all, down, down_all, terms-combined}
use Rattle.division_rules.proofs.Identity.{combination-elimination, combination-sparse_remainder, combination-pseudo_remainder, combination-reduction, combination-unit_rows, length-map_by}
use Rattle.division_rules.proofs.PolynomialSetting.{polynomial_setting}
use Rattle.division_rules.proofs.RowsShape.{rows_combinations}
use Rattle.division_rules.proofs.Settings.{ViewedRing}
use Rattle.division_rules.proofs.Up.{up, up_all, up_rows, terms-up_all, down_canonical, length-up_all}
use Rattle.row_laws.specs.Words.{StartRemainderRows}
use Rattle.row_laws.specs.Combinations.{IsRowOver, AreRowsOver, CombinationsAreKept}
use Rattle.row_laws.proofs.Lifts.{lifted-elimination, lifted-sparse_remainder, lifted-pseudo_remainder, lifted-reduction, lifted-remainder_rows}
use Rattle.row_laws.proofs.Starts.{start_base, start_turn}

-- what holds of each row of lists of terms, made of canonical polynomials
pub EachRow-down : (p n : ℕ) (many : 1 < p) (Q : Row Polynomial → Type 0) (R : Row (CanonicalPolynomial p n) → Type 0) (rows : List (Row (CanonicalPolynomial p n))) → ((h : Row (CanonicalPolynomial p n)) → R h → Q (down p n many h)) → EachRow R rows → EachRow Q (down_all p n many rows)
EachRow-down p n many Q R [] f h = tt
EachRow-down p n many Q R (t ∷ rows) f h = (f t h.0, EachRow-down p n many Q R rows f h.1)

-- and of one that may be there
pub IfRow-down : (p n : ℕ) (many : 1 < p) (Q : Row Polynomial → Type 0) (R : Row (CanonicalPolynomial p n) → Type 0) (last : Option (Row (CanonicalPolynomial p n))) → ((h : Row (CanonicalPolynomial p n)) → R h → Q (down p n many h)) → IfRow R last → IfRow Q (option_map (down p n many) last)
IfRow-down p n many Q R None f h = tt
IfRow-down p n many Q R (Some t) f h = f t h

module _ (p n : ℕ) (prime : IsPrime p) where
  abbrev P : ViewedRing (CanonicalPolynomial p n)
  P = polynomial_setting p n prime

  -- 0 and 1 among zeros
  pub terms-zeros : (k : ℕ) → terms_all p n prime.many (replicate k (canonical_operations p n prime.many).nil) ≡ replicate k []
  terms-zeros zero = refl
  terms-zeros (suc k) = ap (λ fs. [] ∷ fs) (terms-zeros k)

  terms-unit : (j k : ℕ) → terms_all p n prime.many (replicate j (canonical_operations p n prime.many).nil ++ (canonical_operations p n prime.many).one ∷ replicate k (canonical_operations p n prime.many).nil) ≡ replicate j [] ++ one_of n ∷ replicate k []
  terms-unit j k = map-append (terms p n prime.many) (replicate j (canonical_operations p n prime.many).nil) ((canonical_operations p n prime.many).one ∷ replicate k (canonical_operations p n prime.many).nil) ∙ ap₂ (λ fs gs. fs ++ one_of n ∷ gs) (terms-zeros j) (terms-zeros k)

  -- the generators as rows
  pub down-unit_rows : (before : ℕ) (fs : List (CanonicalPolynomial p n)) → down_all p n prime.many (unit_rows (canonical_operations p n prime.many) before fs) ≡ unit_rows (list_operations p n) before (terms_all p n prime.many fs)
  down-unit_rows before [] = refl
  down-unit_rows before (f ∷ fs) = ap₂ (λ cs rows. record { first = f.0; cofactors = cs } ∷ rows) (terms-unit before (length fs) ∙ ap (λ k. replicate before [] ++ one_of n ∷ replicate k []) (sym (length-map_by (terms p n prime.many) fs))) (down-unit_rows (suc before) fs)

  module _ (gs : List Polynomial) (are_gs : ArePolynomials p n gs) where
    -- the generators
    abbrev pub generators : List (CanonicalPolynomial p n)
    generators = up_all p n prime.many gs are_gs

    -- a combination of lists of terms is one of canonical polynomials
    pub up_combination : (f : Row Polynomial) (h : IsRowOver p n gs f) → IsCombinationOf (canonical_operations p n prime.many) generators (up p n prime.many f h.canonical)
    up_combination f h = record {
      one_each = length-up_all p n prime.many f.cofactors h.canonical.1 ∙ h.combination.one_each ∙ sym (length-up_all p n prime.many gs are_gs);
      identity = canonical_path p n _ _ (h.combination.identity ∙ sym (terms-combined p n prime.many (up_all p n prime.many f.cofactors h.canonical.1) generators ∙ ap₂ (combined (list_operations p n)) (terms-up_all p n prime.many f.cofactors h.canonical.1) (terms-up_all p n prime.many gs are_gs)));
    }

    -- and the other way round
    pub down_combination : (f : Row (CanonicalPolynomial p n)) → IsCombinationOf (canonical_operations p n prime.many) generators f → IsRowOver p n gs (down p n prime.many f)
    down_combination f h = record {
      canonical = down_canonical p n prime.many f;
      combination = record {
        one_each = length-map_by (terms p n prime.many) f.cofactors ∙ h.one_each ∙ length-up_all p n prime.many gs are_gs;
        identity = ap (λ x. x.0) h.identity ∙ terms-combined p n prime.many f.cofactors generators ∙ ap (combined (list_operations p n) (terms_all p n prime.many f.cofactors)) (terms-up_all p n prime.many gs are_gs);
      };
    }

    -- rows are canonical
    abbrev pub canonical_rows : (rows : List (Row Polynomial)) → AreRowsOver p n gs rows → ArePolynomialRows p n rows
    canonical_rows [] h = tt
    canonical_rows (f ∷ rows) h = (h.0.canonical, canonical_rows rows h.1)

    up_combinations : (rows : List (Row Polynomial)) (h : AreRowsOver p n gs rows) → EachRow (IsCombinationOf (canonical_operations p n prime.many) generators) (up_rows p n prime.many rows (canonical_rows rows h))
    up_combinations [] h = tt
    up_combinations (f ∷ rows) h = (up_combination f h.0, up_combinations rows h.1)

    -- the rows as those of canonical polynomials
    abbrev rows_up : (rows : List (Row Polynomial)) → AreRowsOver p n gs rows → List (Row (CanonicalPolynomial p n))
    rows_up rows h = up_rows p n prime.many rows (canonical_rows rows h)

    abbrev row_up : (f : Row Polynomial) → IsRowOver p n gs f → Row (CanonicalPolynomial p n)
    row_up f h = up p n prime.many f h.canonical

    -- an elimination
    over-elimination : (v : ℕ) (f g : Row Polynomial) → IsRowOver p n gs f → IsRowOver p n gs g → IsRowOver p n gs (elimination (list_operations p n) v f g)
    over-elimination v f g hf hg = subst (IsRowOver p n gs) (lifted-elimination p n prime.many v f g hf.canonical hg.canonical) (down_combination (elimination (canonical_operations p n prime.many) v (row_up f hf) (row_up g hg)) (combination-elimination P generators v (row_up f hf) (row_up g hg) (up_combination f hf) (up_combination g hg)))

    -- the sparse remainder
    over-sparse_remainder : (v : ℕ) (f g : Row Polynomial) → IsRowOver p n gs f → IsRowOver p n gs g → IsRowOver p n gs (sparse_remainder (list_operations p n) v f g)
    over-sparse_remainder v f g hf hg = subst (IsRowOver p n gs) (lifted-sparse_remainder p n prime.many v f g hf.canonical hg.canonical) (down_combination (sparse_remainder (canonical_operations p n prime.many) v (row_up f hf) (row_up g hg)) (combination-sparse_remainder P generators v (row_up f hf) (row_up g hg) (up_combination f hf) (up_combination g hg)))

    -- the pseudo-remainder
    over-pseudo_remainder : (v : ℕ) (f g : Row Polynomial) → IsRowOver p n gs f → IsRowOver p n gs g → IsRowOver p n gs (pseudo_remainder (list_operations p n) v f g)
    over-pseudo_remainder v f g hf hg = subst (IsRowOver p n gs) (lifted-pseudo_remainder p n prime.many v f g hf.canonical hg.canonical) (down_combination (pseudo_remainder (canonical_operations p n prime.many) v (row_up f hf) (row_up g hg)) (combination-pseudo_remainder P generators v (row_up f hf) (row_up g hg) (up_combination f hf) (up_combination g hg)))

    -- the reduction by a chain
    over-reduction : (chain : List (Row Polynomial)) (f : Row Polynomial) → IsRowOver p n gs f → AreRowsOver p n gs chain → IsRowOver p n gs (reduction (list_operations p n) chain f)
    over-reduction chain f hf each = subst (IsRowOver p n gs) (lifted-reduction p n prime.many chain (canonical_rows chain each) f hf.canonical) (down_combination (reduction (canonical_operations p n prime.many) (rows_up chain each) (row_up f hf)) (combination-reduction P generators (rows_up chain each) (up_combinations chain each) (row_up f hf) (up_combination f hf)))

    -- each remainder row, and the zero row
    over-remainder_rows : (w v : ℕ) (chain : List (Row Polynomial)) (t c : Row Polynomial) → IsRowOver p n gs t → IsRowOver p n gs c → AreRowsOver p n gs chain → StartRemainderRows v (first_entries chain) t.first c.first → AreRowsOver p n gs (remainder_rows (list_operations p n) w v chain t c).later × IfRow (IsRowOver p n gs) (remainder_rows (list_operations p n) w v chain t c).last
    over-remainder_rows w v chain t c ht hc each start = subst (λ rows. AreRowsOver p n gs rows.later × IfRow (IsRowOver p n gs) rows.last) (lifted-remainder_rows p n prime.many chain (canonical_rows chain each) w v t c ht.canonical hc.canonical) (EachRow-down p n prime.many (IsRowOver p n gs) (IsCombinationOf (canonical_operations p n prime.many) generators) rows.later down_combination over.0, IfRow-down p n prime.many (IsRowOver p n gs) (IsCombinationOf (canonical_operations p n prime.many) generators) rows.last down_combination over.1)
      where
        rows : LaterRows (CanonicalPolynomial p n)
        rows = remainder_rows (canonical_operations p n prime.many) w v (rows_up chain each) (row_up t ht) (row_up c hc)

        over : EachRow (IsCombinationOf (canonical_operations p n prime.many) generators) rows.later × IfRow (IsCombinationOf (canonical_operations p n prime.many) generators) rows.last
        over = rows_combinations P w v (rows_up chain each) (start_base p n prime v chain (canonical_rows chain each) t.first c.first start) generators (up_combinations chain each) (suc (degree_in v c.first)) None (row_up t ht) (row_up c hc) (start_turn p n prime v chain (canonical_rows chain each) t c ht.canonical hc.canonical start) (up_combination t ht) (up_combination c hc)

    -- the generators as rows
    over-unit_rows : AreRowsOver p n gs (unit_rows (list_operations p n) 0 gs)
    over-unit_rows = subst (AreRowsOver p n gs) (down-unit_rows 0 generators ∙ ap (unit_rows (list_operations p n) 0) (terms-up_all p n prime.many gs are_gs)) (EachRow-down p n prime.many (IsRowOver p n gs) (IsCombinationOf (canonical_operations p n prime.many) generators) (unit_rows (canonical_operations p n prime.many) 0 generators) down_combination (combination-unit_rows P [] generators))

-- the law
pub combinations_are_kept : CombinationsAreKept
combinations_are_kept p n gs prime are = record {
  units = over-unit_rows p n prime gs are;
  elimination = over-elimination p n prime gs are;
  sparse_remainder = over-sparse_remainder p n prime gs are;
  pseudo_remainder = over-pseudo_remainder p n prime gs are;
  reduction = λ chain f each. over-reduction p n prime gs are chain f each.0 each.1;
  later_rows = λ w v chain t c each start. (over-remainder_rows p n prime gs are w v chain t c each.0 each.1.0 each.1.1 start).0;
  zero_row = λ w v chain t c each start. (over-remainder_rows p n prime gs are w v chain t c each.0 each.1.0 each.1.1 start).1;
}
