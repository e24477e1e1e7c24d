-- What holds at each turn of remainder rows, and what a pseudo-remainder has left to do.
use Rattle.std.specs.Prelude.{◌≡◌, ◌≢◌, ℕ, zero, suc, ◌<◌, ◌≤◌, true, false, List, [], ◌∷◌, Option, Some, None}
use Rattle.polynomials.specs.Rings.{Ring}
use Rattle.division_rules.specs.Operations.{Views, Operations}
use Rattle.division_rules.specs.Rows.{Row, elimination, is_reduced_by, times_row}
use Rattle.division_rules.specs.Laws.{Laws}
use Rattle.division_rules.specs.Chains.{EachRow, IsChain, IsReduced, IsFree}

-- the last of the rows later, or g where there is none
abbrev pub last_row : {A : Type 0} → Row A → List (Row A) → Row A
last_row g [] = g
last_row g (h ∷ later) = last_row h later

module _ {A : Type 0} (o : Operations A) where
  -- of k turns, those that are left once no elimination by g is
  abbrev pub turns_left : ℕ → Row A → ℕ → Row A → ℕ
  turns_left v g zero f = zero
  turns_left v g (suc k) f =
      elim (is_reduced_by o v g f) [ true ↦ suc k | false ↦ turns_left v g k (elimination o v f g) ]

  -- each entry k times multiplied by l
  abbrev pub times_row_often : A → ℕ → Row A → Row A
  times_row_often l zero f = f
  times_row_often l (suc k) f = times_row_often l k (times_row o l f)

  -- the degrees in v fall from g along the rows later, and each is at least 1, but where no zero
  -- row follows that of the last row is 0
  abbrev pub DegreesFall : ℕ → Row A → List (Row A) → Option (Row A) → Type 0
  DegreesFall v g [] None = o.views.degree v g.first ≡ 0
  DegreesFall v g [] (Some z) = (1 ≤ o.views.degree v g.first) × (z.first ≡ o.nil)
  DegreesFall v g (h ∷ later) last =
      (o.views.degree v h.first < o.views.degree v g.first)
      × (1 ≤ o.views.degree v g.first)
      × DegreesFall v h later last

module _ {A : Type 0} (r : Ring A) (s : Views A) (laws : Laws A r s) where
  -- a chain below v: v is no main variable of it, and no member has v
  pub record IsBase (v : ℕ) (chain : List (Row A)) : Type 0 where
    pub increasing : IsChain r s laws chain
    pub apart : EachRow (λ t. v ≢ s.main t.first) chain
    pub free : IsFree r s laws v chain

  -- psi of the turn before is not 0, and has no v
  abbrev pub IsTurnBefore : ℕ → Option (A × ℕ) → Type 0
  IsTurnBefore v None = Unit {0}
  IsTurnBefore v (Some m) = (m.0 ≢ r.nil) × laws.Under v 1 m.0

  -- g follows f among the rows in v: neither is 0, the degree falls, and g is reduced by the chain
  pub record IsTurn (v : ℕ) (chain : List (Row A)) (m : Option (A × ℕ)) (f g : Row A) : Type 0 where
    pub before : f.first ≢ r.nil
    pub after : g.first ≢ r.nil
    pub falls : s.degree v g.first < s.degree v f.first
    pub reduced : IsReduced r s laws chain g.first
    pub memory : IsTurnBefore v m
