-- Remainder rows of canonical polynomials are those of the lists of terms.
use Rattle.std.proofs.Common.{◌≡◌, ℕ, zero, suc, ◌-◌, ◌<◌, true, false, eqb, List, [], ◌∷◌, map, Option, Some, None, option_map, refl, ap, ap₂, ◌∙◌, unwrap_or}
use Rattle.polynomials.specs.Polynomials.{Polynomial, product_of, negative_of, is_zero}
use Rattle.polynomials.specs.Views.{degree_in}
use Rattle.polynomials.proofs.PolynomialRing.{CanonicalPolynomial}
use Rattle.division_rules.specs.Lists.{list_operations}
use Rattle.division_rules.specs.Operations.{lead, power}
use Rattle.division_rules.specs.Quotients.{quotient_within}
use Rattle.division_rules.specs.Rows.{Row, pseudo_remainder, reduction}
use Rattle.division_rules.specs.RemainderRows.{LaterRows, with_row, both, row_of, quotients, divided, TurnBefore, psi, beta, fall, next_psi, next_beta, undivided, next_row, rows_from, remainder_rows}
use Rattle.division_rules.proofs.CanonicalViews.{canonical_operations, canonical_quotient-first}
use Rattle.division_rules.proofs.Down.{choice-into, terms, terms_all, down, down_all, terms-power_of, terms-sign, down-pseudo_remainder, down-reduction}

-- a function goes into a default
pub or_else-into : {A B : Type 0} (h : A → B) (x : Option A) (y : A) → h (unwrap_or x y) ≡ unwrap_or (option_map h x) (h y)
or_else-into h None y = refl
or_else-into h (Some x) y = refl

-- and into a list with one more in front
both-into : {A B : Type 0} (h : A → B) (x : Option A) (xs : Option (List A)) → option_map (map h) (both x xs) ≡ both (option_map h x) (option_map (map h) xs)
both-into h None xs = refl
both-into h (Some x) None = refl
both-into h (Some x) (Some xs) = refl

module _ (p n : ℕ) (many : 1 < p) where
  row_of-into : (x : Option (CanonicalPolynomial p n)) (xs : Option (List (CanonicalPolynomial p n))) → option_map (down p n many) (row_of x xs) ≡ row_of (option_map (terms p n many) x) (option_map (terms_all p n many) xs)
  row_of-into None xs = refl
  row_of-into (Some x) None = refl
  row_of-into (Some x) (Some xs) = refl

  -- quotients of a list
  pub terms-quotients : (w : ℕ) (b : CanonicalPolynomial p n) (cs : List (CanonicalPolynomial p n)) → option_map (terms_all p n many) (quotients (canonical_operations p n many) w b cs) ≡ quotients (list_operations p n) w b.0 (terms_all p n many cs)
  terms-quotients w b [] = refl
  terms-quotients w b (c ∷ cs) = both-into (terms p n many) ((canonical_operations p n many).views.quotient w c b) (quotients (canonical_operations p n many) w b cs) ∙ ap₂ both (canonical_quotient-first p n many w c b) (terms-quotients w b cs)

  -- a row divided by b
  pub down-divided : (w : ℕ) (b : CanonicalPolynomial p n) (f : Row (CanonicalPolynomial p n)) → option_map (down p n many) (divided (canonical_operations p n many) w b f) ≡ divided (list_operations p n) w b.0 (down p n many f)
  down-divided w b f = row_of-into ((canonical_operations p n many).views.quotient w f.first b) (quotients (canonical_operations p n many) w b f.cofactors) ∙ ap₂ row_of (canonical_quotient-first p n many w f.first b) (terms-quotients w b f.cofactors)

  -- what is remembered of the turn before
  abbrev pub down_memory : TurnBefore (canonical_operations p n many) → TurnBefore (list_operations p n)
  down_memory m = option_map (λ x. (x.0.0, x.1)) m

  -- psi
  pub terms-psi : (w : ℕ) (m : TurnBefore (canonical_operations p n many)) (x : CanonicalPolynomial p n) → (psi (canonical_operations p n many) w m x).0 ≡ psi (list_operations p n) w (down_memory m) x.0
  terms-psi w None x = refl
  terms-psi w (Some m) x = or_else-into (terms p n many) ((canonical_operations p n many).views.quotient w top low) top ∙ ap₂ unwrap_or (canonical_quotient-first p n many w top low ∙ ap₂ (quotient_within p w) high_terms low_terms) high_terms
    where
      top : CanonicalPolynomial p n
      top = power (canonical_operations p n many) ((canonical_operations p n many).minus x) m.1

      low : CanonicalPolynomial p n
      low = power (canonical_operations p n many) m.0 (m.1 - 1)

      high_terms : top.0 ≡ power (list_operations p n) (negative_of p x.0) m.1
      high_terms = terms-power_of p n many ((canonical_operations p n many).minus x) m.1

      low_terms : low.0 ≡ power (list_operations p n) m.0.0 (m.1 - 1)
      low_terms = terms-power_of p n many m.0 (m.1 - 1)

  -- beta
  pub terms-beta : (m : TurnBefore (canonical_operations p n many)) (x q : CanonicalPolynomial p n) (d : ℕ) → (beta (canonical_operations p n many) m x q d).0 ≡ beta (list_operations p n) (down_memory m) x.0 q.0 d
  terms-beta None x q d = terms-sign p n many (suc d)
  terms-beta (Some m) x q d = ap (product_of p (negative_of p x.0)) (terms-power_of p n many q d)

  -- psi of a turn
  pub terms-next_psi : (w v : ℕ) (m : TurnBefore (canonical_operations p n many)) (f : Row (CanonicalPolynomial p n)) → (next_psi (canonical_operations p n many) w v m f).0 ≡ next_psi (list_operations p n) w v (down_memory m) (down p n many f)
  terms-next_psi w v m f = terms-psi w m (lead (canonical_operations p n many) v f.first)

  -- beta of a turn
  pub terms-next_beta : (w v : ℕ) (m : TurnBefore (canonical_operations p n many)) (f g : Row (CanonicalPolynomial p n)) → (next_beta (canonical_operations p n many) w v m f g).0 ≡ next_beta (list_operations p n) w v (down_memory m) (down p n many f) (down p n many g)
  terms-next_beta w v m f g = terms-beta m (lead (canonical_operations p n many) v f.first) (next_psi (canonical_operations p n many) w v m f) (fall (canonical_operations p n many) v f g) ∙ ap (λ q. beta (list_operations p n) (down_memory m) (lead (list_operations p n) v f.first.0) q (fall (list_operations p n) v (down p n many f) (down p n many g))) (terms-next_psi w v m f)

  -- the row before its division
  pub down-undivided : (v : ℕ) (chain : List (Row (CanonicalPolynomial p n))) (f g : Row (CanonicalPolynomial p n)) → down p n many (undivided (canonical_operations p n many) v chain f g) ≡ undivided (list_operations p n) v (down_all p n many chain) (down p n many f) (down p n many g)
  down-undivided v chain f g = down-reduction p n many chain (pseudo_remainder (canonical_operations p n many) v f g) ∙ ap (reduction (list_operations p n) (down_all p n many chain)) (down-pseudo_remainder p n many v f g)

  -- the next row
  pub down-next_row : (w v : ℕ) (chain : List (Row (CanonicalPolynomial p n))) (m : TurnBefore (canonical_operations p n many)) (f g : Row (CanonicalPolynomial p n)) → down p n many (next_row (canonical_operations p n many) w v chain m f g) ≡ next_row (list_operations p n) w v (down_all p n many chain) (down_memory m) (down p n many f) (down p n many g)
  down-next_row w v chain m f g = or_else-into (down p n many) (divided (canonical_operations p n many) w (next_beta (canonical_operations p n many) w v m f g) s) s ∙ ap₂ unwrap_or (down-divided w (next_beta (canonical_operations p n many) w v m f g) s ∙ ap₂ (divided (list_operations p n) w) (terms-next_beta w v m f g) (down-undivided v chain f g)) (down-undivided v chain f g)
    where
      s : Row (CanonicalPolynomial p n)
      s = undivided (canonical_operations p n many) v chain f g

  -- rows of lists of terms
  abbrev pub down_rows : LaterRows (CanonicalPolynomial p n) → LaterRows Polynomial
  down_rows rows = record { later = down_all p n many rows.later; last = option_map (down p n many) rows.last }

  -- the rows after f and g
  pub down-rows_from : (w v : ℕ) (chain : List (Row (CanonicalPolynomial p n))) (k : ℕ) (m : TurnBefore (canonical_operations p n many)) (f g : Row (CanonicalPolynomial p n)) → down_rows (rows_from (canonical_operations p n many) w v chain k m f g) ≡ rows_from (list_operations p n) w v (down_all p n many chain) k (down_memory m) (down p n many f) (down p n many g)
  down-rows_from w v chain zero m f g = refl
  down-rows_from w v chain (suc k) m f g = choice-into down_rows (is_zero s.first.0) (is_zero ls.first) (record { later = []; last = Some s }) inner (record { later = []; last = Some ls }) list_inner (ap (λ x. is_zero x.first) s_down) (ap (λ x. record { later = []; last = Some x }) s_down) (choice-into down_rows (eqb (degree_in v h.first.0) 0) (eqb (degree_in v lh.first) 0) (record { later = h ∷ []; last = None }) (with_row h further) (record { later = lh ∷ []; last = None }) (with_row lh list_further) (ap (λ x. eqb (degree_in v x.first) 0) h_down) (ap (λ x. record { later = x ∷ []; last = None }) h_down) (ap₂ with_row h_down (further_down (down-rows_from w v chain k (Some (next_psi (canonical_operations p n many) w v m f, fall (canonical_operations p n many) v f g)) g h))))
    where
      s : Row (CanonicalPolynomial p n)
      s = undivided (canonical_operations p n many) v chain f g

      h : Row (CanonicalPolynomial p n)
      h = next_row (canonical_operations p n many) w v chain m f g

      further : LaterRows (CanonicalPolynomial p n)
      further = rows_from (canonical_operations p n many) w v chain k (Some (next_psi (canonical_operations p n many) w v m f, fall (canonical_operations p n many) v f g)) g h

      inner : LaterRows (CanonicalPolynomial p n)
      inner = elim (eqb (degree_in v h.first.0) 0) as (λ _. LaterRows (CanonicalPolynomial p n)) [ true ↦ record { later = h ∷ []; last = None } | false ↦ with_row h further ]

      ls : Row Polynomial
      ls = undivided (list_operations p n) v (down_all p n many chain) (down p n many f) (down p n many g)

      lh : Row Polynomial
      lh = next_row (list_operations p n) w v (down_all p n many chain) (down_memory m) (down p n many f) (down p n many g)

      list_further : LaterRows Polynomial
      list_further = rows_from (list_operations p n) w v (down_all p n many chain) k (Some (next_psi (list_operations p n) w v (down_memory m) (down p n many f), fall (list_operations p n) v (down p n many f) (down p n many g))) (down p n many g) lh

      list_inner : LaterRows Polynomial
      list_inner = elim (eqb (degree_in v lh.first) 0) as (λ _. LaterRows Polynomial) [ true ↦ record { later = lh ∷ []; last = None } | false ↦ with_row lh list_further ]

      s_down : down p n many s ≡ ls
      s_down = down-undivided v chain f g

      h_down : down p n many h ≡ lh
      h_down = down-next_row w v chain m f g

      further_down : down_rows further ≡ rows_from (list_operations p n) w v (down_all p n many chain) k (Some ((next_psi (canonical_operations p n many) w v m f).0, fall (list_operations p n) v (down p n many f) (down p n many g))) (down p n many g) (down p n many h) → down_rows further ≡ list_further
      further_down e = e ∙ ap₂ (λ q x. rows_from (list_operations p n) w v (down_all p n many chain) k (Some (q, fall (list_operations p n) v (down p n many f) (down p n many g))) (down p n many g) x) (terms-next_psi w v m f) h_down

  -- the remainder rows of t and c
  pub down-remainder_rows : (w v : ℕ) (chain : List (Row (CanonicalPolynomial p n))) (t c : Row (CanonicalPolynomial p n)) → down_rows (remainder_rows (canonical_operations p n many) w v chain t c) ≡ remainder_rows (list_operations p n) w v (down_all p n many chain) (down p n many t) (down p n many c)
  down-remainder_rows w v chain t c = down-rows_from w v chain (suc (degree_in v c.first.0)) None t c
