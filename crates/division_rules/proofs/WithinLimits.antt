-- Where each product fits the width, the steps within it are those without a limit.
use Rattle.std.proofs.Common.{◌≡◌, ℕ, zero, suc, ◌-◌, Bool, true, false, eqb, List, [], ◌∷◌, map, Option, Some, None, IfSome, refl, subst, unwrap_or}
use Rattle.division_rules.specs.Operations.{Operations, lead, shifted_lead, power}
use Rattle.division_rules.specs.Rows.{Row, cross, cross_all, elimination, is_reduced_by, sparse_remainder_by, sparse_remainder, turns, times_row, pseudo_remainder_by, pseudo_remainder, reduction}
use Rattle.division_rules.specs.Within.{and_then, times_within, cross_within, cross_all_within, row_within, elimination_within, sparse_remainder_by_within, sparse_remainder_within, times_all_within, times_row_within, pseudo_remainder_by_within, pseudo_remainder_within, reduction_within, power_of_within}
use Rattle.division_rules.specs.RemainderRows.{LaterRows, with_row, divided, TurnBefore, psi, beta, fall, undivided, rows_from, remainder_rows}
use Rattle.division_rules.specs.RemainderRowsWithin.{psi_within, beta_within, undivided_within, rows_onward, rows_from_within, remainder_rows_within}

-- what is there is y
abbrev pub Gives : {B : Type 0} → Option B → B → Type 0
Gives a y = IfSome a (λ x. x ≡ y)

-- the second step gives what it gives without a limit
pub gives-then : {B C : Type 0} (a : Option B) (x : B) (f : B → Option C) (g : B → C) → Gives a x → ((z : B) → Gives (f z) (g z)) → Gives (and_then a f) (g x)
gives-then None x f g h k = tt
gives-then (Some z) x f g h k = subst (λ y. Gives (f z) (g y)) h (k z)

-- and so does a choice between two steps
pub gives-choice : {B : Type 0} (b : Bool) (x y : Option B) (first second : B) → Gives x first → Gives y second → Gives (elim b [ true ↦ x | false ↦ y ]) (elim b [ true ↦ first | false ↦ second ])
gives-choice true x y first second h k = h
gives-choice false x y first second h k = k

module _ {A : Type 0} (o : Operations A) (w : ℕ) where
  -- products
  pub gives-times : (a b : A) → Gives (times_within o w a b) (o.times a b)
  gives-times a b = go (o.views.fits w a b)
    where
      go : (fits : Bool) → Gives (elim fits [ true ↦ Some (o.times a b) | false ↦ None ]) (o.times a b)
      go true = refl
      go false = tt

  -- l f - m g
  pub gives-cross : (l m f g : A) → Gives (cross_within o w l m f g) (cross o l m f g)
  gives-cross l m f g = gives-then (times_within o w l f) (o.times l f) (λ x. and_then (times_within o w m g) (λ y. Some (o.plus x (o.minus y)))) (λ x. o.plus x (o.minus (o.times m g))) (gives-times l f) (λ x. gives-then (times_within o w m g) (o.times m g) (λ y. Some (o.plus x (o.minus y))) (λ y. o.plus x (o.minus y)) (gives-times m g) (λ y. refl))

  -- the same of lists
  pub gives-cross_all : (l m : A) (cs ds : List A) → Gives (cross_all_within o w l m cs ds) (cross_all o l m cs ds)
  gives-cross_all l m [] ds = refl
  gives-cross_all l m (c ∷ cs) [] = refl
  gives-cross_all l m (c ∷ cs) (d ∷ ds) = gives-then (cross_within o w l m c d) (cross o l m c d) (λ x. and_then (cross_all_within o w l m cs ds) (λ xs. Some (x ∷ xs))) (λ x. x ∷ cross_all o l m cs ds) (gives-cross l m c d) (λ x. gives-then (cross_all_within o w l m cs ds) (cross_all o l m cs ds) (λ xs. Some (x ∷ xs)) (λ xs. x ∷ xs) (gives-cross_all l m cs ds) (λ xs. refl))

  -- a row from its parts
  pub gives-row : (x : Option A) (xs : Option (List A)) (first : A) (cofactors : List A) → Gives x first → Gives xs cofactors → Gives (row_within o w x xs) (record { first = first; cofactors = cofactors })
  gives-row x xs first cofactors h k = gives-then x first (λ f. and_then xs (λ cs. Some (record { first = f; cofactors = cs }))) (λ f. record { first = f; cofactors = cofactors }) h (λ f. gives-then xs cofactors (λ cs. Some (record { first = f; cofactors = cs })) (λ cs. record { first = f; cofactors = cs }) k (λ cs. refl))

  -- an elimination
  pub gives-elimination : (v : ℕ) (f g : Row A) → Gives (elimination_within o w v f g) (elimination o v f g)
  gives-elimination v f g = gives-row (cross_within o w l m f.first g.first) (cross_all_within o w l m f.cofactors g.cofactors) (cross o l m f.first g.first) (cross_all o l m f.cofactors g.cofactors) (gives-cross l m f.first g.first) (gives-cross_all l m f.cofactors g.cofactors)
    where
      l : A
      l = lead o v g.first

      m : A
      m = shifted_lead o v f.first g.first

  -- the sparse remainder
  pub gives-sparse_remainder_by : (v : ℕ) (g : Row A) (k : ℕ) (f : Row A) → Gives (sparse_remainder_by_within o w v g k f) (sparse_remainder_by o v g k f)
  gives-sparse_remainder_by v g zero f = refl
  gives-sparse_remainder_by v g (suc k) f = gives-choice (is_reduced_by o v g f) (Some f) (and_then (elimination_within o w v f g) (λ h. sparse_remainder_by_within o w v g k h)) f (sparse_remainder_by o v g k (elimination o v f g)) refl (gives-then (elimination_within o w v f g) (elimination o v f g) (λ h. sparse_remainder_by_within o w v g k h) (λ h. sparse_remainder_by o v g k h) (gives-elimination v f g) (λ h. gives-sparse_remainder_by v g k h))

  -- with the turns that bound the eliminations
  pub gives-sparse_remainder : (v : ℕ) (f g : Row A) → Gives (sparse_remainder_within o w v f g) (sparse_remainder o v f g)
  gives-sparse_remainder v f g = gives-sparse_remainder_by v g (turns o v f.first g.first) f

  -- a row times l
  pub gives-times_all : (l : A) (cs : List A) → Gives (times_all_within o w l cs) (map (o.times l) cs)
  gives-times_all l [] = refl
  gives-times_all l (c ∷ cs) = gives-then (times_within o w l c) (o.times l c) (λ x. and_then (times_all_within o w l cs) (λ xs. Some (x ∷ xs))) (λ x. x ∷ map (o.times l) cs) (gives-times l c) (λ x. gives-then (times_all_within o w l cs) (map (o.times l) cs) (λ xs. Some (x ∷ xs)) (λ xs. x ∷ xs) (gives-times_all l cs) (λ xs. refl))

  -- each entry of a row
  pub gives-times_row : (l : A) (f : Row A) → Gives (times_row_within o w l f) (times_row o l f)
  gives-times_row l f = gives-row (times_within o w l f.first) (times_all_within o w l f.cofactors) (o.times l f.first) (map (o.times l) f.cofactors) (gives-times l f.first) (gives-times_all l f.cofactors)

  -- the pseudo-remainder
  pub gives-pseudo_remainder_by : (v : ℕ) (g : Row A) (k : ℕ) (f : Row A) → Gives (pseudo_remainder_by_within o w v g k f) (pseudo_remainder_by o v g k f)
  gives-pseudo_remainder_by v g zero f = refl
  gives-pseudo_remainder_by v g (suc k) f = gives-then (elim (is_reduced_by o v g f) [ true ↦ times_row_within o w l f | false ↦ elimination_within o w v f g ]) (elim (is_reduced_by o v g f) [ true ↦ times_row o l f | false ↦ elimination o v f g ]) (λ h. pseudo_remainder_by_within o w v g k h) (λ h. pseudo_remainder_by o v g k h) (gives-choice (is_reduced_by o v g f) (times_row_within o w l f) (elimination_within o w v f g) (times_row o l f) (elimination o v f g) (gives-times_row l f) (gives-elimination v f g)) (λ h. gives-pseudo_remainder_by v g k h)
    where
      l : A
      l = lead o v g.first

  -- with one turn more than the degrees differ
  pub gives-pseudo_remainder : (v : ℕ) (f g : Row A) → Gives (pseudo_remainder_within o w v f g) (pseudo_remainder o v f g)
  gives-pseudo_remainder v f g = gives-pseudo_remainder_by v g (turns o v f.first g.first) f

  -- the reduction by a chain
  pub gives-reduction : (chain : List (Row A)) (f : Row A) → Gives (reduction_within o w chain f) (reduction o chain f)
  gives-reduction [] f = refl
  gives-reduction (t ∷ chain) f = gives-then (reduction_within o w chain f) (reduction o chain f) (λ g. sparse_remainder_within o w (o.views.main t.first) g t) (λ g. sparse_remainder o (o.views.main t.first) g t) (gives-reduction chain f) (λ g. gives-sparse_remainder (o.views.main t.first) g t)

  -- powers
  pub gives-power_of : (a : A) (e : ℕ) → Gives (power_of_within o w a e) (power o a e)
  gives-power_of a zero = refl
  gives-power_of a (suc zero) = refl
  gives-power_of a (suc (suc e)) = gives-then (power_of_within o w a (suc e)) (power o a (suc e)) (λ x. times_within o w x a) (λ x. o.times x a) (gives-power_of a (suc e)) (λ x. gives-times x a)

  -- psi and beta, with quotients within the same width
  pub gives-psi : (m : TurnBefore o) (l : A) → Gives (psi_within o w m l) (psi o w m l)
  gives-psi None l = refl
  gives-psi (Some m) l = gives-then (power_of_within o w (o.minus l) m.1) (power o (o.minus l) m.1) (λ top. and_then (power_of_within o w m.0 (m.1 - 1)) (λ low. Some (unwrap_or (o.views.quotient w top low) top))) (λ top. unwrap_or (o.views.quotient w top (power o m.0 (m.1 - 1))) top) (gives-power_of (o.minus l) m.1) (λ top. gives-then (power_of_within o w m.0 (m.1 - 1)) (power o m.0 (m.1 - 1)) (λ low. Some (unwrap_or (o.views.quotient w top low) top)) (λ low. unwrap_or (o.views.quotient w top low) top) (gives-power_of m.0 (m.1 - 1)) (λ low. refl))

  -- beta
  pub gives-beta : (m : TurnBefore o) (l q : A) (d : ℕ) → Gives (beta_within o w m l q d) (beta o m l q d)
  gives-beta None l q d = refl
  gives-beta (Some m) l q d = gives-then (power_of_within o w q d) (power o q d) (λ x. times_within o w (o.minus l) x) (λ x. o.times (o.minus l) x) (gives-power_of q d) (λ x. gives-times (o.minus l) x)

  -- the row before its division
  pub gives-undivided : (v : ℕ) (chain : List (Row A)) (f g : Row A) → Gives (undivided_within o w v chain f g) (undivided o v chain f g)
  gives-undivided v chain f g = gives-then (pseudo_remainder_within o w v f g) (pseudo_remainder o v f g) (λ h. reduction_within o w chain h) (λ h. reduction o chain h) (gives-pseudo_remainder v f g) (λ h. gives-reduction chain h)

  -- the rows from an undivided row on, without a limit
  abbrev pub onward : ℕ → (TurnBefore o → Row A → Row A → LaterRows A) → Row A → Row A → Row A → A → A → LaterRows A
  onward v further f g s q b =
      let h = unwrap_or (divided o w b s) s in
      elim (eqb (o.views.degree v h.first) 0) [
        | true ↦ record { later = h ∷ []; last = None }
        | false ↦ with_row h (further (Some (q, fall o v f g)) g h)
      ]

  -- and they are what the rows within the width are, where the further rows are
  pub gives-onward : (v : ℕ) (limited : TurnBefore o → Row A → Row A → Option (LaterRows A)) (further : TurnBefore o → Row A → Row A → LaterRows A) → ((m : TurnBefore o) (f g : Row A) → Gives (limited m f g) (further m f g)) → (f g s : Row A) (q b : A) → Gives (rows_onward o w v limited f g s q b) (onward v further f g s q b)
  gives-onward v limited further k f g s q b =
      let h = unwrap_or (divided o w b s) s in
      gives-choice (eqb (o.views.degree v h.first) 0) (Some (record { later = h ∷ []; last = None })) (and_then (limited (Some (q, fall o v f g)) g h) (λ rows. Some (with_row h rows))) (record { later = h ∷ []; last = None }) (with_row h (further (Some (q, fall o v f g)) g h)) refl (gives-then (limited (Some (q, fall o v f g)) g h) (further (Some (q, fall o v f g)) g h) (λ rows. Some (with_row h rows)) (with_row h) (k (Some (q, fall o v f g)) g h) (λ rows. refl))

  -- remainder rows, with quotients within the same width
  pub gives-rows_from : (v : ℕ) (chain : List (Row A)) (k : ℕ) (m : TurnBefore o) (f g : Row A) → Gives (rows_from_within o w v chain k m f g) (rows_from o w v chain k m f g)
  gives-rows_from v chain zero m f g = refl
  gives-rows_from v chain (suc k) m f g = gives-then (undivided_within o w v chain f g) (undivided o v chain f g) limited_turn turn (gives-undivided v chain f g) (λ s. gives-choice (o.views.is_nil s.first) (Some (record { later = []; last = Some s })) (limited_onward s) (record { later = []; last = Some s }) (onward v further f g s q (beta o m l q (fall o v f g))) refl (gives-then (psi_within o w m l) q (λ y. and_then (beta_within o w m l y (fall o v f g)) (λ b. rows_onward o w v limited f g s y b)) (λ y. onward v further f g s y (beta o m l y (fall o v f g))) (gives-psi m l) (λ y. gives-then (beta_within o w m l y (fall o v f g)) (beta o m l y (fall o v f g)) (λ b. rows_onward o w v limited f g s y b) (λ b. onward v further f g s y b) (gives-beta m l y (fall o v f g)) (λ b. gives-onward v limited further (λ n x y. gives-rows_from v chain k n x y) f g s y b))))
    where
      l : A
      l = lead o v f.first

      q : A
      q = psi o w m l

      limited : TurnBefore o → Row A → Row A → Option (LaterRows A)
      limited n x y = rows_from_within o w v chain k n x y

      further : TurnBefore o → Row A → Row A → LaterRows A
      further n x y = rows_from o w v chain k n x y

      limited_onward : Row A → Option (LaterRows A)
      limited_onward s = and_then (psi_within o w m l) (λ y. and_then (beta_within o w m l y (fall o v f g)) (λ b. rows_onward o w v limited f g s y b))

      limited_turn : Row A → Option (LaterRows A)
      limited_turn s = elim (o.views.is_nil s.first) [ true ↦ Some (record { later = []; last = Some s }) | false ↦ limited_onward s ]

      turn : Row A → LaterRows A
      turn s = elim (o.views.is_nil s.first) [ true ↦ record { later = []; last = Some s } | false ↦ onward v further f g s q (beta o m l q (fall o v f g)) ]

  -- the remainder rows of t and c
  pub gives-remainder_rows : (v : ℕ) (chain : List (Row A)) (t c : Row A) → Gives (remainder_rows_within o w v chain t c) (remainder_rows o w v chain t c)
  gives-remainder_rows v chain t c = gives-rows_from v chain (suc (o.views.degree v c.first)) None t c
