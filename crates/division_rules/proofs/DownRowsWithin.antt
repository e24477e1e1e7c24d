-- Remainder rows within a width: those of canonical polynomials are those of the lists of terms.
use Rattle.std.proofs.Common.{◌≡◌, ℕ, zero, suc, ◌-◌, ◌<◌, true, false, eqb, List, [], ◌∷◌, Option, Some, None, option_map, refl, ap, ap₂, ◌∙◌, unwrap_or}
use Rattle.polynomials.specs.Polynomials.{Polynomial, negative_of, is_zero}
use Rattle.polynomials.specs.Views.{degree_in}
use Rattle.polynomials.proofs.PolynomialRing.{CanonicalPolynomial}
use Rattle.division_rules.specs.Lists.{list_operations}
use Rattle.division_rules.specs.Operations.{lead}
use Rattle.division_rules.specs.Quotients.{quotient_within}
use Rattle.division_rules.specs.Rows.{Row}
use Rattle.division_rules.specs.Within.{and_then, times_within, pseudo_remainder_within, reduction_within, power_of_within}
use Rattle.division_rules.specs.RemainderRows.{LaterRows, with_row, divided, TurnBefore, fall}
use Rattle.division_rules.specs.RemainderRowsWithin.{psi_within, beta_within, undivided_within, rows_onward, rows_from_within, remainder_rows_within}
use Rattle.division_rules.proofs.CanonicalViews.{canonical_operations, canonical_quotient-first}
use Rattle.division_rules.proofs.Down.{choice-into, terms, down, down_all, terms-sign}
use Rattle.division_rules.proofs.DownRows.{or_else-into, down-divided, down_memory, down_rows}
use Rattle.division_rules.proofs.DownWithin.{and_then-into, terms-times_within, down-pseudo_remainder_within, down-reduction_within, terms-power_of_within}

module _ (p n : ℕ) (many : 1 < p) (w : ℕ) where
  -- psi
  pub terms-psi_within : (m : TurnBefore (canonical_operations p n many)) (x : CanonicalPolynomial p n) → option_map (terms p n many) (psi_within (canonical_operations p n many) w m x) ≡ psi_within (list_operations p n) w (down_memory p n many m) x.0
  terms-psi_within None x = refl
  terms-psi_within (Some m) x = and_then-into (terms p n many) (terms p n many) (power_of_within (canonical_operations p n many) w minus_x m.1) (λ top. and_then (power_of_within (canonical_operations p n many) w m.0 (m.1 - 1)) (λ low. Some (unwrap_or ((canonical_operations p n many).views.quotient w top low) top))) (λ top. and_then (power_of_within (list_operations p n) w m.0.0 (m.1 - 1)) (λ low. Some (unwrap_or (quotient_within p w top low) top))) (λ top. and_then-into (terms p n many) (terms p n many) (power_of_within (canonical_operations p n many) w m.0 (m.1 - 1)) (λ low. Some (unwrap_or ((canonical_operations p n many).views.quotient w top low) top)) (λ low. Some (unwrap_or (quotient_within p w top.0 low) top.0)) (λ low. ap Some (or_else-into (terms p n many) ((canonical_operations p n many).views.quotient w top low) top ∙ ap (λ z. unwrap_or z top.0) (canonical_quotient-first p n many w top low))) ∙ ap (λ z. and_then z (λ low. Some (unwrap_or (quotient_within p w top.0 low) top.0))) (terms-power_of_within p n many w m.0 (m.1 - 1))) ∙ ap (λ z. and_then z (λ top. and_then (power_of_within (list_operations p n) w m.0.0 (m.1 - 1)) (λ low. Some (unwrap_or (quotient_within p w top low) top)))) (terms-power_of_within p n many w minus_x m.1)
    where
      minus_x : CanonicalPolynomial p n
      minus_x = (canonical_operations p n many).minus x

  -- beta
  pub terms-beta_within : (m : TurnBefore (canonical_operations p n many)) (x q : CanonicalPolynomial p n) (d : ℕ) → option_map (terms p n many) (beta_within (canonical_operations p n many) w m x q d) ≡ beta_within (list_operations p n) w (down_memory p n many m) x.0 q.0 d
  terms-beta_within None x q d = ap Some (terms-sign p n many (suc d))
  terms-beta_within (Some m) x q d = and_then-into (terms p n many) (terms p n many) (power_of_within (canonical_operations p n many) w q d) (λ y. times_within (canonical_operations p n many) w ((canonical_operations p n many).minus x) y) (λ y. times_within (list_operations p n) w (negative_of p x.0) y) (λ y. terms-times_within p n many w ((canonical_operations p n many).minus x) y) ∙ ap (λ z. and_then z (λ y. times_within (list_operations p n) w (negative_of p x.0) y)) (terms-power_of_within p n many w q d)

  -- the row before its division
  pub down-undivided_within : (v : ℕ) (chain : List (Row (CanonicalPolynomial p n))) (f g : Row (CanonicalPolynomial p n)) → option_map (down p n many) (undivided_within (canonical_operations p n many) w v chain f g) ≡ undivided_within (list_operations p n) w v (down_all p n many chain) (down p n many f) (down p n many g)
  down-undivided_within v chain f g = and_then-into (down p n many) (down p n many) (pseudo_remainder_within (canonical_operations p n many) w v f g) (λ h. reduction_within (canonical_operations p n many) w chain h) (λ h. reduction_within (list_operations p n) w (down_all p n many chain) h) (λ h. down-reduction_within p n many w chain h) ∙ ap (λ z. and_then z (λ h. reduction_within (list_operations p n) w (down_all p n many chain) h)) (down-pseudo_remainder_within p n many w v f g)

  -- the rows from an undivided row on, where the further rows agree
  pub down-rows_onward : (v : ℕ) (further : TurnBefore (canonical_operations p n many) → Row (CanonicalPolynomial p n) → Row (CanonicalPolynomial p n) → Option (LaterRows (CanonicalPolynomial p n))) (list_further : TurnBefore (list_operations p n) → Row Polynomial → Row Polynomial → Option (LaterRows Polynomial)) → ((m : TurnBefore (canonical_operations p n many)) (x y : Row (CanonicalPolynomial p n)) → option_map (down_rows p n many) (further m x y) ≡ list_further (down_memory p n many m) (down p n many x) (down p n many y)) → (f g s : Row (CanonicalPolynomial p n)) (q b : CanonicalPolynomial p n) → option_map (down_rows p n many) (rows_onward (canonical_operations p n many) w v further f g s q b) ≡ rows_onward (list_operations p n) w v list_further (down p n many f) (down p n many g) (down p n many s) q.0 b.0
  down-rows_onward v further list_further each f g s q b = choice-into (option_map (down_rows p n many)) (eqb (degree_in v h.first.0) 0) (eqb (degree_in v lh.first) 0) (Some (record { later = h ∷ []; last = None })) (and_then (further m g h) (λ rows. Some (with_row h rows))) (Some (record { later = lh ∷ []; last = None })) (and_then (list_further (down_memory p n many m) (down p n many g) lh) (λ rows. Some (with_row lh rows))) (ap (λ x. eqb (degree_in v x.first) 0) h_down) (ap (λ x. Some (record { later = x ∷ []; last = None })) h_down) (and_then-into (down_rows p n many) (down_rows p n many) (further m g h) (λ rows. Some (with_row h rows)) (λ rows. Some (with_row (down p n many h) rows)) (λ rows. refl) ∙ ap₂ (λ z x. and_then z (λ rows. Some (with_row x rows))) (each m g h ∙ ap (list_further (down_memory p n many m) (down p n many g)) h_down) h_down)
    where
      h : Row (CanonicalPolynomial p n)
      h = unwrap_or (divided (canonical_operations p n many) w b s) s

      lh : Row Polynomial
      lh = unwrap_or (divided (list_operations p n) w b.0 (down p n many s)) (down p n many s)

      m : TurnBefore (canonical_operations p n many)
      m = Some (q, fall (canonical_operations p n many) v f g)

      h_down : down p n many h ≡ lh
      h_down = or_else-into (down p n many) (divided (canonical_operations p n many) w b s) s ∙ ap (λ z. unwrap_or z (down p n many s)) (down-divided p n many w b s)

  -- the rows after f and g
  pub down-rows_from_within : (v : ℕ) (chain : List (Row (CanonicalPolynomial p n))) (k : ℕ) (m : TurnBefore (canonical_operations p n many)) (f g : Row (CanonicalPolynomial p n)) → option_map (down_rows p n many) (rows_from_within (canonical_operations p n many) w v chain k m f g) ≡ rows_from_within (list_operations p n) w v (down_all p n many chain) k (down_memory p n many m) (down p n many f) (down p n many g)
  down-rows_from_within v chain zero m f g = refl
  down-rows_from_within v chain (suc k) m f g = and_then-into (down p n many) (down_rows p n many) (undivided_within (canonical_operations p n many) w v chain f g) turn list_turn (λ s. turn_down (λ mem y z. down-rows_from_within v chain k mem y z) s) ∙ ap (λ z. and_then z list_turn) (down-undivided_within v chain f g)
    where
      x : CanonicalPolynomial p n
      x = lead (canonical_operations p n many) v f.first

      d : ℕ
      d = fall (canonical_operations p n many) v f g

      further : TurnBefore (canonical_operations p n many) → Row (CanonicalPolynomial p n) → Row (CanonicalPolynomial p n) → Option (LaterRows (CanonicalPolynomial p n))
      further mem y z = rows_from_within (canonical_operations p n many) w v chain k mem y z

      list_further : TurnBefore (list_operations p n) → Row Polynomial → Row Polynomial → Option (LaterRows Polynomial)
      list_further mem y z = rows_from_within (list_operations p n) w v (down_all p n many chain) k mem y z

      onward : Row (CanonicalPolynomial p n) → CanonicalPolynomial p n → Option (LaterRows (CanonicalPolynomial p n))
      onward s q = and_then (beta_within (canonical_operations p n many) w m x q d) (λ b. rows_onward (canonical_operations p n many) w v further f g s q b)

      list_onward : Row Polynomial → Polynomial → Option (LaterRows Polynomial)
      list_onward s q = and_then (beta_within (list_operations p n) w (down_memory p n many m) x.0 q d) (λ b. rows_onward (list_operations p n) w v list_further (down p n many f) (down p n many g) s q b)

      turn : Row (CanonicalPolynomial p n) → Option (LaterRows (CanonicalPolynomial p n))
      turn s = elim (is_zero s.first.0) as (λ _. Option (LaterRows (CanonicalPolynomial p n))) [ true ↦ Some (record { later = []; last = Some s }) | false ↦ and_then (psi_within (canonical_operations p n many) w m x) (λ q. onward s q) ]

      list_turn : Row Polynomial → Option (LaterRows Polynomial)
      list_turn s = elim (is_zero s.first) as (λ _. Option (LaterRows Polynomial)) [ true ↦ Some (record { later = []; last = Some s }) | false ↦ and_then (psi_within (list_operations p n) w (down_memory p n many m) x.0) (λ q. list_onward s q) ]

      onward_down : ((mem : TurnBefore (canonical_operations p n many)) (y z : Row (CanonicalPolynomial p n)) → option_map (down_rows p n many) (further mem y z) ≡ list_further (down_memory p n many mem) (down p n many y) (down p n many z)) → (s : Row (CanonicalPolynomial p n)) (q : CanonicalPolynomial p n) → option_map (down_rows p n many) (onward s q) ≡ list_onward (down p n many s) q.0
      onward_down each s q = and_then-into (terms p n many) (down_rows p n many) (beta_within (canonical_operations p n many) w m x q d) (λ b. rows_onward (canonical_operations p n many) w v further f g s q b) (λ b. rows_onward (list_operations p n) w v list_further (down p n many f) (down p n many g) (down p n many s) q.0 b) (λ b. down-rows_onward v further list_further each f g s q b) ∙ ap (λ z. and_then z (λ b. rows_onward (list_operations p n) w v list_further (down p n many f) (down p n many g) (down p n many s) q.0 b)) (terms-beta_within m x q d)

      turn_down : ((mem : TurnBefore (canonical_operations p n many)) (y z : Row (CanonicalPolynomial p n)) → option_map (down_rows p n many) (further mem y z) ≡ list_further (down_memory p n many mem) (down p n many y) (down p n many z)) → (s : Row (CanonicalPolynomial p n)) → option_map (down_rows p n many) (turn s) ≡ list_turn (down p n many s)
      turn_down each s = choice-into (option_map (down_rows p n many)) (is_zero s.first.0) (is_zero s.first.0) (Some (record { later = []; last = Some s })) (and_then (psi_within (canonical_operations p n many) w m x) (λ q. onward s q)) (Some (record { later = []; last = Some (down p n many s) })) (and_then (psi_within (list_operations p n) w (down_memory p n many m) x.0) (λ q. list_onward (down p n many s) q)) refl refl (and_then-into (terms p n many) (down_rows p n many) (psi_within (canonical_operations p n many) w m x) (λ q. onward s q) (λ q. list_onward (down p n many s) q) (λ q. onward_down each s q) ∙ ap (λ z. and_then z (λ q. list_onward (down p n many s) q)) (terms-psi_within m x))

  -- the remainder rows of t and c
  pub down-remainder_rows_within : (v : ℕ) (chain : List (Row (CanonicalPolynomial p n))) (t c : Row (CanonicalPolynomial p n)) → option_map (down_rows p n many) (remainder_rows_within (canonical_operations p n many) w v chain t c) ≡ remainder_rows_within (list_operations p n) w v (down_all p n many chain) (down p n many t) (down p n many c)
  down-remainder_rows_within v chain t c = down-rows_from_within v chain (suc (degree_in v c.first.0)) None t c
