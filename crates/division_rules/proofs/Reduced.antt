-- What is reduced stays as it is; a pseudo-remainder is a sparse one with multiplications after it.
use Rattle.std.proofs.Common.{◌≡◌, ℕ, ◌-◌, Bool, true, false, ◌||◌, ltb, List, [], ◌∷◌, refl, ap, ◌∙◌}
use Rattle.std.proofs.lemmas.Bool.{lt-ltb}
use Rattle.division_rules.specs.Rows.{Row, elimination, is_reduced_by, sparse_remainder_by, sparse_remainder, reduction}
use Rattle.division_rules.specs.Chains.{IsReduced}
use Rattle.division_rules.proofs.Settings.{ViewedRing, operations}
use Rattle.division_rules.proofs.Bounds.{degree_below}

module _ {A : Type 0} (P : ViewedRing A) where
  open P.ring use {◌⊗◌}
  open P.views use {is_nil, degree, main}
  open P.laws use {Under}

  -- no elimination is left where the degree is below that of g
  pub stops_under : (v : ℕ) (g f : Row A) → Under v (degree v g.first) f.first → is_reduced_by (operations P) v g f ≡ true
  stops_under v g f h = go (is_nil f.first) refl
    where
      go : (b : Bool) → is_nil f.first ≡ b → (b || ltb (degree v f.first) (degree v g.first)) ≡ true
      go true e = refl
      go false e = lt-ltb (degree v f.first) (degree v g.first) (degree_below P v (degree v g.first) f.first h (P.laws.nonzero_by_test f.first e))

  -- what is reduced by g is its own sparse remainder
  pub sparse_remainder-same : (v : ℕ) (f g : Row A) → Under v (degree v g.first) f.first → sparse_remainder (operations P) v f g ≡ f
  sparse_remainder-same v f g h = ap (λ b. elim b [ true ↦ f | false ↦ sparse_remainder_by (operations P) v g (degree v f.first - degree v g.first) (elimination (operations P) v f g) ]) (stops_under v g f h)

  -- what is reduced by a chain is its own reduction
  pub reduction-same : (chain : List (Row A)) (f : Row A) → IsReduced P.ring P.views P.laws chain f.first → reduction (operations P) chain f ≡ f
  reduction-same [] f h = refl
  reduction-same (t ∷ chain) f h = ap (λ x. sparse_remainder (operations P) (main t.first) x t) (reduction-same chain f h.1) ∙ sparse_remainder-same (main t.first) f t h.0
