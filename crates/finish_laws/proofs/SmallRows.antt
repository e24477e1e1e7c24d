-- Rows of reductions and remainder rows within a width have degrees of at most 65,535 in each entry.
use Rattle.std.proofs.Common.{◌≡◌, ℕ, zero, suc, ◌-◌, true, false, eqb, List, [], ◌∷◌, Option, Some, None, IfSome, refl, unwrap_or}
use Rattle.polynomials.specs.Polynomials.{Polynomial, negative_of, product_of, is_zero}
use Rattle.polynomials.specs.Views.{degree_in}
use Rattle.polynomials.specs.Fits.{fits}
use Rattle.std.specs.List.{AllByRecursion}
use Rattle.division_rules.specs.Operations.{Operations, lead, shifted_lead}
use Rattle.division_rules.specs.Lists.{list_operations}
use Rattle.division_rules.specs.Rows.{Row, is_reduced_by, turns}
use Rattle.division_rules.specs.Chains.{EachRow, IfRow}
use Rattle.division_rules.specs.RemainderRows.{LaterRows, with_row, row_of, both, quotients, divided, TurnBefore, fall, leads}
use Rattle.division_rules.specs.RemainderRowsWithin.{psi_within, beta_within, undivided_within, rows_onward, rows_from_within, remainder_rows_within}
use Rattle.division_rules.specs.Turns.{last_row}
use Rattle.division_rules.specs.Within.{and_then, times_within, cross_within, cross_all_within, row_within, elimination_within, sparse_remainder_by_within, sparse_remainder_within, times_all_within, times_row_within, pseudo_remainder_by_within, pseudo_remainder_within, reduction_within}
use Rattle.division_rules.specs.Quotients.{quotient_within}
use Rattle.division_rules.proofs.Steps.{choose}
use Rattle.impose_laws.proofs.Options.{then_holds}
use Rattle.finish_laws.proofs.Parts.{IsSmall, AreSmall}
use Rattle.finish_laws.proofs.Results.{then_follows}
use Rattle.finish_laws.proofs.Small.{sum_small, negative_small, lead_small, product_small, quotient_small}

-- a row whose entries are small
abbrev pub IsSmallRow : Row Polynomial → Type 0
IsSmallRow f = IsSmall f.first × AreSmall f.cofactors

-- rows of which each later one is, and the last
abbrev pub AreSmallRows : LaterRows Polynomial → Type 0
AreSmallRows rows = EachRow IsSmallRow rows.later × IfRow IsSmallRow rows.last

module _ (p n w : ℕ) where
  abbrev o : Operations Polynomial
  o = list_operations p n

  times_small : (f g : Polynomial) → IfSome (times_within o w f g) IsSmall
  times_small f g = choose (λ x. IfSome x IsSmall) (fits w f g) (Some (product_of p f g)) None (λ fit. product_small p w f g fit) (λ e. tt)

  cross_small : (l m f g : Polynomial) → IfSome (cross_within o w l m f g) IsSmall
  cross_small l m f g = then_follows IsSmall IsSmall (times_within o w l f) (λ x. and_then (times_within o w m g) (λ y. Some (o.plus x (o.minus y)))) (times_small l f) (λ x small_x. then_follows IsSmall IsSmall (times_within o w m g) (λ y. Some (o.plus x (o.minus y))) (times_small m g) (λ y small_y. sum_small p x (negative_of p y) small_x (negative_small p y small_y)))

  -- of each pair of entries
  cross_all_small : (l m : Polynomial) (cs ds : List Polynomial) → IfSome (cross_all_within o w l m cs ds) AreSmall
  cross_all_small l m [] ds = tt
  cross_all_small l m (c ∷ cs) [] = tt
  cross_all_small l m (c ∷ cs) (d ∷ ds) = then_follows IsSmall AreSmall (cross_within o w l m c d) (λ x. and_then (cross_all_within o w l m cs ds) (λ xs. Some (x ∷ xs))) (cross_small l m c d) (λ x small_x. then_follows AreSmall AreSmall (cross_all_within o w l m cs ds) (λ xs. Some (x ∷ xs)) (cross_all_small l m cs ds) (λ xs small_xs. (small_x, small_xs)))

  -- a row of small parts
  row_small : (x : Option Polynomial) (xs : Option (List Polynomial)) → IfSome x IsSmall → IfSome xs AreSmall → IfSome (row_within o w x xs) IsSmallRow
  row_small x xs small each = then_follows IsSmall IsSmallRow x (λ f. and_then xs (λ cs. Some (record { first = f; cofactors = cs }))) small (λ f small_f. then_follows AreSmall IsSmallRow xs (λ cs. Some (record { first = f; cofactors = cs })) each (λ cs small_cs. (small_f, small_cs)))

  -- an elimination is made of products that fit
  elimination_small : (v : ℕ) (f g : Row Polynomial) → IfSome (elimination_within o w v f g) IsSmallRow
  elimination_small v f g = row_small (cross_within o w (lead o v g.first) (shifted_lead o v f.first g.first) f.first g.first) (cross_all_within o w (lead o v g.first) (shifted_lead o v f.first g.first) f.cofactors g.cofactors) (cross_small (lead o v g.first) (shifted_lead o v f.first g.first) f.first g.first) (cross_all_small (lead o v g.first) (shifted_lead o v f.first g.first) f.cofactors g.cofactors)

  sparse_remainder_small : (v : ℕ) (g : Row Polynomial) (k : ℕ) (f : Row Polynomial) → IsSmallRow f → IfSome (sparse_remainder_by_within o w v g k f) IsSmallRow
  sparse_remainder_small v g zero f small = small
  sparse_remainder_small v g (suc k) f small = choose (λ x. IfSome x IsSmallRow) (is_reduced_by o v g f) (Some f) (and_then (elimination_within o w v f g) (λ h. sparse_remainder_by_within o w v g k h)) (λ e. small) (λ e. then_follows IsSmallRow IsSmallRow (elimination_within o w v f g) (λ h. sparse_remainder_by_within o w v g k h) (elimination_small v f g) (λ h small_h. sparse_remainder_small v g k h small_h))

  -- so are reductions of what is small
  pub reduction_small : (chain : List (Row Polynomial)) (f : Row Polynomial) → IsSmallRow f → IfSome (reduction_within o w chain f) IsSmallRow
  reduction_small [] f small = small
  reduction_small (t ∷ chain) f small = then_follows IsSmallRow IsSmallRow (reduction_within o w chain f) (λ g. sparse_remainder_within o w (o.views.main t.first) g t) (reduction_small chain f small) (λ g small_g. sparse_remainder_small (o.views.main t.first) t (turns o (o.views.main t.first) g.first t.first) g small_g)

  pub times_all_small : (l : Polynomial) (cs : List Polynomial) → IfSome (times_all_within o w l cs) AreSmall
  times_all_small l [] = tt
  times_all_small l (c ∷ cs) = then_follows IsSmall AreSmall (times_within o w l c) (λ x. and_then (times_all_within o w l cs) (λ xs. Some (x ∷ xs))) (times_small l c) (λ x small_x. then_follows AreSmall AreSmall (times_all_within o w l cs) (λ xs. Some (x ∷ xs)) (times_all_small l cs) (λ xs small_xs. (small_x, small_xs)))

  times_row_small : (l : Polynomial) (f : Row Polynomial) → IfSome (times_row_within o w l f) IsSmallRow
  times_row_small l f = row_small (times_within o w l f.first) (times_all_within o w l f.cofactors) (times_small l f.first) (times_all_small l f.cofactors)

  turn_small : (v : ℕ) (f g : Row Polynomial) → IfSome (elim (is_reduced_by o v g f) [ true ↦ times_row_within o w (lead o v g.first) f | false ↦ elimination_within o w v f g ]) IsSmallRow
  turn_small v f g = choose (λ x. IfSome x IsSmallRow) (is_reduced_by o v g f) (times_row_within o w (lead o v g.first) f) (elimination_within o w v f g) (λ e. times_row_small (lead o v g.first) f) (λ e. elimination_small v f g)

  pseudo_remainder_small : (v : ℕ) (g : Row Polynomial) (k : ℕ) (f : Row Polynomial) → IsSmallRow f → IfSome (pseudo_remainder_by_within o w v g k f) IsSmallRow
  pseudo_remainder_small v g zero f small = small
  pseudo_remainder_small v g (suc k) f small = then_follows IsSmallRow IsSmallRow (elim (is_reduced_by o v g f) [ true ↦ times_row_within o w (lead o v g.first) f | false ↦ elimination_within o w v f g ]) (λ h. pseudo_remainder_by_within o w v g k h) (turn_small v f g) (λ h small_h. pseudo_remainder_small v g k h small_h)

  -- a pseudo-remainder has a turn at least
  undivided_small : (v : ℕ) (chain : List (Row Polynomial)) (f g : Row Polynomial) → IfSome (undivided_within o w v chain f g) IsSmallRow
  undivided_small v chain f g = then_follows IsSmallRow IsSmallRow (pseudo_remainder_within o w v f g) (λ h. reduction_within o w chain h) (then_follows IsSmallRow IsSmallRow (elim (is_reduced_by o v g f) [ true ↦ times_row_within o w (lead o v g.first) f | false ↦ elimination_within o w v f g ]) (λ h. pseudo_remainder_by_within o w v g (degree_in v f.first - degree_in v g.first) h) (turn_small v f g) (λ h small_h. pseudo_remainder_small v g (degree_in v f.first - degree_in v g.first) h small_h)) (λ h small_h. reduction_small chain h small_h)

  -- quotients within the width are small
  quotients_small : (b : Polynomial) (cs : List Polynomial) → IfSome (quotients o w b cs) AreSmall
  quotients_small b [] = tt
  quotients_small b (c ∷ cs) = go (quotient_within p w c b) refl (quotients o w b cs) (quotients_small b cs)
    where
      go : (x : Option Polynomial) → quotient_within p w c b ≡ x → (ys : Option (List Polynomial)) → IfSome ys AreSmall → IfSome (both x ys) AreSmall
      go None e ys small = tt
      go (Some x) e None small = tt
      go (Some x) e (Some ys) small = (quotient_small p w c b x e, small)

  -- and else the row stays
  divided_small : (b : Polynomial) (s : Row Polynomial) → IsSmallRow s → IsSmallRow (unwrap_or (divided o w b s) s)
  divided_small b s small = go (quotient_within p w s.first b) refl (quotients o w b s.cofactors) (quotients_small b s.cofactors)
    where
      go : (x : Option Polynomial) → quotient_within p w s.first b ≡ x → (ys : Option (List Polynomial)) → IfSome ys AreSmall → IsSmallRow (unwrap_or (row_of x ys) s)
      go None e ys each = small
      go (Some x) e None each = small
      go (Some x) e (Some ys) each = (quotient_small p w s.first b x e, each)

  onward_small : (v : ℕ) (further : TurnBefore o → Row Polynomial → Row Polynomial → Option (LaterRows Polynomial)) → ((m : TurnBefore o) (f g : Row Polynomial) → IfSome (further m f g) AreSmallRows) → (f g s : Row Polynomial) (q b : Polynomial) → IsSmallRow s → IfSome (rows_onward o w v further f g s q b) AreSmallRows
  onward_small v further each f g s q b small =
      let h = unwrap_or (divided o w b s) s in
      choose (λ x. IfSome x AreSmallRows) (eqb (degree_in v h.first) 0) (Some (record { later = h ∷ []; last = None })) (and_then (further (Some (q, fall o v f g)) g h) (λ rows. Some (with_row h rows))) (λ e. ((divided_small b s small, tt), tt)) (λ e. then_follows AreSmallRows AreSmallRows (further (Some (q, fall o v f g)) g h) (λ rows. Some (with_row h rows)) (each (Some (q, fall o v f g)) g h) (λ rows small_rows. ((divided_small b s small, small_rows.0), small_rows.1)))

  rows_from_small : (v : ℕ) (chain : List (Row Polynomial)) (k : ℕ) (m : TurnBefore o) (f g : Row Polynomial) → IfSome (rows_from_within o w v chain k m f g) AreSmallRows
  rows_from_small v chain zero m f g = (tt, tt)
  rows_from_small v chain (suc k) m f g = then_follows IsSmallRow AreSmallRows (undivided_within o w v chain f g) by_row (undivided_small v chain f g) (λ s small_s. choose (λ x. IfSome x AreSmallRows) (is_zero s.first) (Some (record { later = []; last = Some s })) (divided_rows s) (λ e. (tt, small_s)) (λ e. then_holds AreSmallRows (psi_within o w m (lead o v f.first)) (by_psi s) (λ q made_q. then_holds AreSmallRows (beta_within o w m (lead o v f.first) q (fall o v f g)) (by_beta s q) (λ b made_b. onward_small v (λ l x y. rows_from_within o w v chain k l x y) (λ l x y. rows_from_small v chain k l x y) f g s q b small_s))))
    where
      by_beta : Row Polynomial → Polynomial → Polynomial → Option (LaterRows Polynomial)
      by_beta s q b = rows_onward o w v (λ l x y. rows_from_within o w v chain k l x y) f g s q b

      by_psi : Row Polynomial → Polynomial → Option (LaterRows Polynomial)
      by_psi s q = and_then (beta_within o w m (lead o v f.first) q (fall o v f g)) (by_beta s q)

      divided_rows : Row Polynomial → Option (LaterRows Polynomial)
      divided_rows s = and_then (psi_within o w m (lead o v f.first)) (by_psi s)

      by_row : Row Polynomial → Option (LaterRows Polynomial)
      by_row s = elim (is_zero s.first) [ true ↦ Some (record { later = []; last = Some s }) | false ↦ divided_rows s ]

  -- so remainder rows are small, whatever they start with
  pub rows_small : (v : ℕ) (chain : List (Row Polynomial)) (t c : Row Polynomial) → IfSome (remainder_rows_within o w v chain t c) AreSmallRows
  rows_small v chain t c = rows_from_small v chain (suc (degree_in v c.first)) None t c

  -- and so are their leads
  pub leads_small : (v : ℕ) (later : List (Row Polynomial)) → EachRow IsSmallRow later → AllByRecursion IsSmall (leads o v later)
  leads_small v [] small = tt
  leads_small v (h ∷ later) small = (lead_small v h.first small.0.0, leads_small v later small.1)

  -- and the last of them
  pub last_small : (g : Row Polynomial) (later : List (Row Polynomial)) → IsSmallRow g → EachRow IsSmallRow later → IsSmallRow (last_row g later)
  last_small g [] small each = small
  last_small g (h ∷ later) small each = last_small h later each.0 each.1
