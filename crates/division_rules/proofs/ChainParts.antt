-- Parts of a chain, and the first turn of remainder rows below a member.
use Rattle.std.proofs.Common.{◌≡◌, ◌≢◌, ℕ, ◌<◌, ◌≤◌, List, [], ◌∷◌, ◌++◌, None, ap, ◌∙◌, arith}
use Rattle.division_rules.specs.Rows.{Row}
use Rattle.division_rules.specs.Chains.{EachRow, IsBelow, IsChain, IsReduced}
use Rattle.division_rules.specs.Turns.{IsTurn}
use Rattle.division_rules.proofs.Settings.{ViewedRing}

-- what holds of each of two lists of rows, one after the other
pub EachRow-append : {A : Type 0} (Q : Row A → Type 0) (c d : List (Row A)) → EachRow Q (c ++ d) → EachRow Q c × EachRow Q d
EachRow-append Q [] d h = (tt, h)
EachRow-append Q (t ∷ c) d h =
    let rest = EachRow-append Q c d h.1 in
    ((h.0, rest.0), rest.1)

module _ {A : Type 0} (P : ViewedRing A) where
  open P.views use {degree, main}

  -- members before t lie below t
  pub members_below : (c : List (Row A)) (t : Row A) (d : List (Row A)) → IsChain P.ring P.views P.laws (c ++ t ∷ d) → EachRow (λ u. IsBelow P.ring P.views P.laws u t) c
  members_below [] t d h = tt
  members_below (u ∷ c) t d h = ((EachRow-append (IsBelow P.ring P.views P.laws u) c (t ∷ d) h.1).1.0, members_below c t d h.2)

  -- what has v is not 0
  pub not_nil_degree : (v : ℕ) (f : A) → 1 ≤ degree v f → f ≢ P.ring.nil
  not_nil_degree v f high null =
      let low : degree v f ≡ 0 = ap (degree v) null ∙ P.laws.degree-nil v in
      omega (arith, high, low)

  -- t and c, of lesser degree in v and reduced, make the first turn
  pub first_turn : (v : ℕ) (chain : List (Row A)) (t c : Row A) → 1 ≤ degree v c.first → degree v c.first < degree v t.first → IsReduced P.ring P.views P.laws chain c.first → IsTurn P.ring P.views P.laws v chain None t c
  first_turn v chain t c high less reduced = record {
    before = not_nil_degree v t.first (omega (arith, high, less));
    after = not_nil_degree v c.first high;
    falls = less;
    reduced = reduced;
    memory = tt;
  }
