-- The cofactor of the first generator along remainder rows: its degree and its lead.
use Rattle.std.specs.Prelude.{◌≡◌, ℕ, ◌+◌, List, [], ◌∷◌, get_or, Option, Some, None}
use Rattle.division_rules.specs.Operations.{Operations, lead, power}
use Rattle.division_rules.specs.Rows.{Row}
use Rattle.division_rules.specs.RemainderRows.{divided, TurnBefore, fall, next_psi, next_beta, undivided}
use Rattle.division_rules.specs.Points.{product_of_all, AreInitials}

module _ {A : Type 0} (o : Operations A) where
  -- the cofactor of the first generator
  abbrev pub first_cofactor : Row A → A
  first_cofactor f = get_or f.cofactors 0 o.nil

  -- what divided a row: b where it has the quotient, and 1 elsewhere
  abbrev pub divisor_used : Option (Row A) → A → A
  divisor_used None b = o.one
  divisor_used (Some h) b = b

  -- what the row after f and g is divided by: beta, or 1
  abbrev pub next_divisor : ℕ → ℕ → List (Row A) → TurnBefore o → Row A → Row A → A
  next_divisor w v chain m f g =
      divisor_used (divided o w (next_beta o w v m f g) (undivided o v chain f g))
      (next_beta o w v m f g)

  -- for the row h after f and g, divided by u: the degree of its first cofactor passes that of g's
  -- by the fall d of the degrees from f to g, and u times its lead is minus a product of initials
  -- of the chain, the lead of f, the power d of the lead of g, and the lead of g's first cofactor
  pub record IsCofactorStep (v : ℕ) (chain : List (Row A)) (u : A) (f g h : Row A) : Type 0 where
    pub degrees :
        o.views.degree v (first_cofactor h) ≡ o.views.degree v (first_cofactor g) + fall o v f g
    pub factors : List A
    pub initials : AreInitials o chain factors
    pub cofactor_lead :
        o.times u (lead o v (first_cofactor h))
        ≡ o.minus
        (o.times (product_of_all o factors)
        (o.times (lead o v f.first)
        (o.times (power o (lead o v g.first) (fall o v f g)) (lead o v (first_cofactor g)))))

  -- each row after f and g is such a step, and the degrees of the zero row's first cofactor and of
  -- the row before it have the sum total
  abbrev pub AreCofactorSteps :
      ℕ → ℕ → List (Row A) → ℕ → TurnBefore o → Row A → Row A → List (Row A) → Option (Row A)
      → Type 0
  AreCofactorSteps w v chain total m f g [] None = Unit {0}
  AreCofactorSteps w v chain total m f g [] (Some z) =
      IsCofactorStep v chain o.one f g z
      × (o.views.degree v (first_cofactor z) + o.views.degree v g.first ≡ total)
  AreCofactorSteps w v chain total m f g (h ∷ later) last =
      IsCofactorStep v chain (next_divisor w v chain m f g) f g h
      × AreCofactorSteps w v chain total (Some (next_psi o w v m f, fall o v f g)) g h later last
