-- The shape of remainder rows of lists of terms: canonical, not 0, with falling degrees, and without
-- variables that don't occur in what they start with.
use Rattle.std.proofs.Common.{◌≡◌, ◌≢◌, ℕ, suc, ◌≤◌, List, [], ◌∷◌, Option, Some, None, option_map, sym, ap, ◌∙◌, subst, arith}
use Rattle.std.specs.List.{AllByRecursion}
use Rattle.polynomials.specs.Primes.{IsPrime}
use Rattle.polynomials.specs.Polynomials.{Polynomial, IsPolynomial, ArePolynomials}
use Rattle.polynomials.specs.Views.{degree_in, main_var, IsFreeOf}
use Rattle.polynomials.proofs.PolynomialRing.{CanonicalPolynomial, canonical_path}
use Rattle.polynomials.proofs.MainVariables.{degree_in_main_var}
use Rattle.polynomials.proofs.ExponentsBelow.{ExponentsBelow, ExponentsBelow-one}
use Rattle.division_rules.specs.Rows.{Row, plain, plains, reduction}
use Rattle.division_rules.specs.Lists.{list_operations, variable_or_zero}
use Rattle.division_rules.specs.Chains.{EachRow}
use Rattle.division_rules.specs.RemainderRows.{LaterRows, remainder_rows}
use Rattle.division_rules.specs.Turns.{DegreesFall}
use Rattle.division_rules.specs.PolynomialRows.{AreRemainderRows}
use Rattle.division_rules.proofs.Settings.{operations}
use Rattle.division_rules.proofs.Steps.{EachRow-map, reduction-other}
use Rattle.division_rules.proofs.RowsShape.{rows_reduced, remainder_rows_fall}
use Rattle.division_rules.proofs.RowsFree.{AllFree, rows_free}
use Rattle.division_rules.proofs.Down.{down, down_all, down-reduction}
use Rattle.division_rules.proofs.DownRows.{down_rows, down-remainder_rows}
use Rattle.division_rules.proofs.Up.{plains_canonical}
use Rattle.division_rules.proofs.CanonicalRows.{AreRemainderRows-remainder_rows}
use Rattle.impose_rules.proofs.Lists.{each_both}
use Rattle.impose_rules.proofs.ChainParts.{HasMainBelow}
use Rattle.impose_laws.proofs.RowStarts.{IsStart, P, lifted, down-lifted, each_lifted, below_rows, row_t, row_c, start_base, start_turn}

module _ (p n : ℕ) (prime : IsPrime p) where
  -- what holds of the lists of terms of each row
  pub each_down : (Q : Row Polynomial → Type 0) (rows : List (Row (CanonicalPolynomial p n))) → EachRow (λ h. Q (down p n prime.many h)) rows → EachRow Q (down_all p n prime.many rows)
  each_down Q [] h = tt
  each_down Q (f ∷ rows) h = (h.0, each_down Q rows h.1)

  -- a variable that doesn't occur in f isn't one that does
  occurs_not : (x y : ℕ) (f : Polynomial) → IsFreeOf x f → 1 ≤ degree_in y f → x ≢ y
  occurs_not x y f none some same = let zero_y = ap (λ z. degree_in z f) (sym same) ∙ none in omega arith

  -- so it isn't the main variable of a polynomial in which it doesn't occur
  not_main : (x : ℕ) (u : CanonicalPolynomial p n) (m : ℕ) → main_var u.0 ≡ Some m → IsFreeOf x u.0 → x ≢ (P p n prime).views.main u
  not_main x u m main free same = occurs_not x m u.0 free (degree_in_main_var m u.0 main) (same ∙ ap variable_or_zero main)

  -- the reduction is without each variable that the chain and f are without
  pub reduction_without : (x : ℕ) (chain : List Polynomial) (f : Polynomial) → ArePolynomials p n chain → IsPolynomial p n f → AllByRecursion (λ u. (m : ℕ) × (main_var u ≡ Some m)) chain → AllByRecursion (IsFreeOf x) chain → IsFreeOf x f → IsFreeOf x (reduction (list_operations p n) (plains chain) (plain f)).first
  reduction_without x chain f are i mains free_chain free_f = subst (λ h. IsFreeOf x h.first) (down-reduction p n prime.many (lifted p n prime chain are) (plain (f, i)) ∙ ap (λ c. reduction (list_operations p n) c (plain f)) (down-lifted p n prime chain are)) ((ExponentsBelow-one x (reduction (operations (P p n prime)) (lifted p n prime chain are) (plain (f, i))).first.0).0 (reduction-other (P p n prime) x 1 (lifted p n prime chain are) (each_lifted p n prime (λ u. ((m : ℕ) × (main_var u ≡ Some m)) × IsFreeOf x u) (λ u. x ≢ (P p n prime).views.main u.first) (λ u h. not_main x u h.0.0 h.0.1 h.1) chain are (each_both (λ u. (m : ℕ) × (main_var u ≡ Some m)) (IsFreeOf x) chain mains free_chain)) (each_lifted p n prime (IsFreeOf x) (λ u. ExponentsBelow x 1 u.first.0) (λ u h. (ExponentsBelow-one x u.0).1 h) chain are free_chain) (plain (f, i)) ((ExponentsBelow-one x f).1 free_f)))

  module _ (w v : ℕ) (chain : List Polynomial) (t c : Polynomial) (start : IsStart p n v chain t c) where
    -- the rows of canonical polynomials
    abbrev pub lifted_rows : LaterRows (CanonicalPolynomial p n)
    lifted_rows = remainder_rows (operations (P p n prime)) w v (below_rows p n prime v chain t c start) (row_t p n prime v chain t c start) (row_c p n prime v chain t c start)

    -- and those of their lists of terms
    abbrev pub rows : LaterRows Polynomial
    rows = remainder_rows (list_operations p n) w v (plains chain) (plain t) (plain c)

    pub down-lifted_rows : down_rows p n prime.many lifted_rows ≡ rows
    down-lifted_rows = down-remainder_rows p n prime.many w v (below_rows p n prime v chain t c start) (row_t p n prime v chain t c start) (row_c p n prime v chain t c start) ∙ ap (λ x. remainder_rows (list_operations p n) w v x (plain t) (plain c)) (down-lifted p n prime chain start.canonical_chain)

    later_down : down_all p n prime.many lifted_rows.later ≡ rows.later
    later_down = ap (λ x. x.later) down-lifted_rows

    -- the rows are canonical
    pub rows_canonical : AreRemainderRows p n rows
    rows_canonical = AreRemainderRows-remainder_rows p n prime.many w v (plains chain) (plain t) (plain c) (plains_canonical p n chain start.canonical_chain) (start.canonical_t, tt) (start.canonical_c, tt)

    -- none of them but the zero row is 0
    pub rows_nonzero : EachRow (λ h. h.first ≢ []) rows.later
    rows_nonzero = subst (EachRow (λ h. h.first ≢ [])) later_down (each_down (λ h. h.first ≢ []) lifted_rows.later (EachRow-map (λ h. (h.first ≢ (P p n prime).ring.nil) × _) (λ h. h.first.0 ≢ []) lifted_rows.later (λ h i none. i.0 (canonical_path p n _ _ none)) (rows_reduced (P p n prime) w v (below_rows p n prime v chain t c start) (start_base p n prime v chain t c start) (suc (degree_in v c)) None (row_t p n prime v chain t c start) (row_c p n prime v chain t c start) (start_turn p n prime v chain t c start)).0))

    fall_down : (g : Row (CanonicalPolynomial p n)) (later : List (Row (CanonicalPolynomial p n))) (last : Option (Row (CanonicalPolynomial p n))) → DegreesFall (operations (P p n prime)) v g later last → DegreesFall (list_operations p n) v (down p n prime.many g) (down_all p n prime.many later) (option_map (down p n prime.many) last)
    fall_down g [] None h = h
    fall_down g [] (Some z) h = (h.0, ap (λ x. x.0) h.1)
    fall_down g (f ∷ later) last h = (h.0, h.1, fall_down f later last h.2)

    -- their degrees fall
    pub rows_degrees : DegreesFall (list_operations p n) v (plain c) rows.later rows.last
    rows_degrees = subst (λ x. DegreesFall (list_operations p n) v (plain c) x.later x.last) down-lifted_rows (fall_down (row_c p n prime v chain t c start) lifted_rows.later lifted_rows.last (remainder_rows_fall (P p n prime) w v (below_rows p n prime v chain t c start) (start_base p n prime v chain t c start) (row_t p n prime v chain t c start) (row_c p n prime v chain t c start) start.occurs (start_turn p n prime v chain t c start)))

    -- no variable occurs in them that doesn't occur in t, in c or in the chain
    pub rows_without : (x : ℕ) → AllByRecursion (IsFreeOf x) chain → IsFreeOf x t → IsFreeOf x c → EachRow (λ h. IsFreeOf x h.first) rows.later
    rows_without x free_chain free_t free_c = subst (EachRow (λ h. IsFreeOf x h.first)) later_down (each_down (λ h. IsFreeOf x h.first) lifted_rows.later (EachRow-map (AllFree (P p n prime) x) (λ h. IsFreeOf x h.first.0) lifted_rows.later (λ h i. (ExponentsBelow-one x h.first.0).0 i.0) (rows_free (P p n prime) w v (below_rows p n prime v chain t c start) (start_base p n prime v chain t c start) x other apart free (suc (degree_in v c)) None (row_t p n prime v chain t c start) (row_c p n prime v chain t c start) (start_turn p n prime v chain t c start) ((ExponentsBelow-one x t).1 free_t, tt) ((ExponentsBelow-one x c).1 free_c, tt)).0))
      where
        other : x ≢ v
        other = occurs_not x v c free_c start.occurs

        apart : EachRow (λ u. x ≢ (P p n prime).views.main u.first) (below_rows p n prime v chain t c start)
        apart = each_lifted p n prime (λ u. HasMainBelow v u × IsFreeOf x u) (λ u. x ≢ (P p n prime).views.main u.first) (λ u h. not_main x u h.0.0 h.0.1 h.1) chain start.canonical_chain (each_both (HasMainBelow v) (IsFreeOf x) chain start.below free_chain)

        free : EachRow (AllFree (P p n prime) x) (below_rows p n prime v chain t c start)
        free = each_lifted p n prime (IsFreeOf x) (AllFree (P p n prime) x) (λ u h. ((ExponentsBelow-one x u.0).1 h, tt)) chain start.canonical_chain free_chain
