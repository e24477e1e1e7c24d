-- Remainder rows: the subresultant remainder sequence of Brown and Traub, with cofactors.
use Rattle.std.specs.Prelude.{ℕ, zero, suc, ◌-◌, true, false, eqb, List, [], ◌∷◌, map, Option, Some, None, unwrap_or}
use Rattle.division_rules.specs.Operations.{Operations, lead, power, sign}
use Rattle.division_rules.specs.Rows.{Row, pseudo_remainder, reduction}

-- the rows after the first two, and the zero row where they end with one
pub record LaterRows (A : Type 0) : Type 0 where
  pub later : List (Row A)
  pub last : Option (Row A)

-- one row more in front
abbrev pub with_row : {A : Type 0} → Row A → LaterRows A → LaterRows A
with_row f rows = record { later = f ∷ rows.later; last = rows.last }

-- a list with x in front, where there are both
abbrev pub both : {A : Type 0} → Option A → Option (List A) → Option (List A)
both None ys = None
both (Some x) None = None
both (Some x) (Some ys) = Some (x ∷ ys)

-- the row of a first entry and cofactors, where there are both
abbrev pub row_of : {A : Type 0} → Option A → Option (List A) → Option (Row A)
row_of None ys = None
row_of (Some x) None = None
row_of (Some x) (Some ys) = Some (record { first = x; cofactors = ys })

module _ {A : Type 0} (o : Operations A) where
  -- the quotients by b, where each has one
  abbrev pub quotients : ℕ → A → List A → Option (List A)
  quotients w b [] = Some []
  quotients w b (c ∷ cs) = both (o.views.quotient w c b) (quotients w b cs)

  -- the row divided by b, where each entry has a quotient
  abbrev pub divided : ℕ → A → Row A → Option (Row A)
  divided w b f = row_of (o.views.quotient w f.first b) (quotients w b f.cofactors)

  -- psi and the fall of degree of the turn before, if there was one
  abbrev pub TurnBefore : Type 0
  TurnBefore = Option (A × ℕ)

  -- psi, for the lead l of the previous row: -1 at first; else the quotient of (-l)^d by the power
  -- d - 1 of the psi before, for the fall d of the turn before, or (-l)^d where there is none
  abbrev pub psi : ℕ → TurnBefore → A → A
  psi w None l = o.minus o.one
  psi w (Some m) l =
      unwrap_or (o.views.quotient w (power o (o.minus l) m.1) (power o m.0 (m.1 - 1)))
      (power o (o.minus l) m.1)

  -- beta, for the lead l of the previous row, the new psi and the fall d of degree: (-1)^(d + 1) at
  -- first, else -l psi^d
  abbrev pub beta : TurnBefore → A → A → ℕ → A
  beta None l q d = sign o (suc d)
  beta (Some m) l q d = o.times (o.minus l) (power o q d)

  -- by how much the degree in v falls from f to g
  abbrev pub fall : ℕ → Row A → Row A → ℕ
  fall v f g = o.views.degree v f.first - o.views.degree v g.first

  -- psi and beta of the turn in which g follows f
  abbrev pub next_psi : ℕ → ℕ → TurnBefore → Row A → A
  next_psi w v m f = psi w m (lead o v f.first)

  abbrev pub next_beta : ℕ → ℕ → TurnBefore → Row A → Row A → A
  next_beta w v m f g = beta m (lead o v f.first) (next_psi w v m f) (fall v f g)

  -- the row after f and g, before its division by beta
  abbrev pub undivided : ℕ → List (Row A) → Row A → Row A → Row A
  undivided v chain f g = reduction o chain (pseudo_remainder o v f g)

  -- the row after f and g, divided by beta where each entry has a quotient
  abbrev pub next_row : ℕ → ℕ → List (Row A) → TurnBefore → Row A → Row A → Row A
  next_row w v chain m f g =
      unwrap_or (divided w (next_beta w v m f g) (undivided v chain f g)) (undivided v chain f g)

  -- the rows after f and g, in at most k turns
  abbrev pub rows_from : ℕ → ℕ → List (Row A) → ℕ → TurnBefore → Row A → Row A → LaterRows A
  rows_from w v chain zero m f g = record { later = []; last = None }
  rows_from w v chain (suc k) m f g =
      let s = undivided v chain f g in
      let h = next_row w v chain m f g in
      elim (o.views.is_nil s.first) [
        | true ↦ record { later = []; last = Some s }
        | false ↦ elim (eqb (o.views.degree v h.first) 0) [
          | true ↦ record { later = h ∷ []; last = None }
          | false ↦ with_row h (rows_from w v chain k (Some (next_psi w v m f, fall v f g)) g h)
        ]
      ]

  -- the remainder rows of t and c in v below the chain: those after t and c
  abbrev pub remainder_rows : ℕ → ℕ → List (Row A) → Row A → Row A → LaterRows A
  remainder_rows w v chain t c = rows_from w v chain (suc (o.views.degree v c.first)) None t c

  -- the leads of rows
  abbrev pub leads : ℕ → List (Row A) → List A
  leads v rows = map (λ h. lead o v h.first) rows
