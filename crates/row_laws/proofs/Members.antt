-- Members of triangular sets, and those below them.
use Rattle.std.proofs.Common.{◌≡◌, ◌≢◌, ℕ, suc, ◌<◌, ◌≤◌, Bool, true, false, List, [], ◌∷◌, ◌++◌, map, Option, Some, None, refl, sym, ap, ◌∙◌, subst, arith}
use Rattle.std.proofs.lemmas.Bool.{eqb-true, ltb-true, ltb-false, lt-ltb, le-ltb}
use Rattle.std.proofs.lemmas.Option.{same_Some}
use Rattle.polynomials.specs.Polynomials.{Polynomial}
use Rattle.polynomials.specs.Views.{main_var, lead_in_main, initial_of}
use Rattle.polynomials.proofs.MainVariables.{degree_in_main_var}
use Rattle.zero_sets.specs.Domains.{Tables, value_at}
use Rattle.zero_sets.specs.ZeroSets.{InZeroSet, AreNonZero, IsTriangularFrom, is_variable, member_in, is_variable_below, members_below}
use Rattle.zero_sets.proofs.CertificateLemmas.{InZeroSet-members_below}
use Rattle.zero_sets.proofs.TriangularSets.{below_triangular}
use Rattle.division_rules.specs.Rows.{plain}
use Rattle.division_rules.specs.Triangular.{HasLessDegree}
use Rattle.row_laws.specs.Words.{AreBelow, IsReducedBy}
use Rattle.row_laws.specs.Members.{IsMember, MembersArePlaced, MembersAreSplit, ReducedByWhole, MembersStartRemainderRows, PointsAtMembers}

-- none of them is below v
pub none_below : (v u : ℕ) (chain : List Polynomial) → v ≤ u → IsTriangularFrom u chain → members_below v chain ≡ []
none_below v u [] less h = refl
none_below v u (t ∷ chain) less (m, main, up_to, later) = ap (λ b. elim b [ true ↦ t ∷ members_below v chain | false ↦ members_below v chain ]) (ap (is_variable_below v) main ∙ le-ltb m v (omega (arith, less, up_to))) ∙ none_below v (suc m) chain (omega (arith, less, up_to)) later

-- the member for v has at least the first main variable
member_from : (v u : ℕ) (chain : List Polynomial) (t : Polynomial) → IsTriangularFrom u chain → member_in v chain ≡ Some t → u ≤ v
member_from v u [] t h there = cc
member_from v u (s ∷ chain) t (m, main, up_to, later) there = go (is_variable v (main_var s)) refl there (member_from v (suc m) chain t later)
  where
    go : (b : Bool) → is_variable v (main_var s) ≡ b → elim b [ true ↦ Some s | false ↦ member_in v chain ] ≡ Some t → (member_in v chain ≡ Some t → suc m ≤ v) → u ≤ v
    go true e found further = let same = eqb-true m v (sym (ap (is_variable v) main) ∙ e) in omega (arith, same, up_to)
    go false e found further = let above = further found in omega (arith, above, up_to)

-- the member is placed behind those below it
placed : (v u : ℕ) (chain : List Polynomial) (t : Polynomial) → IsTriangularFrom u chain → member_in v chain ≡ Some t → IsMember v chain t
placed v u [] t h there = cc
placed v u (s ∷ chain) t (m, main, up_to, later) there = go (is_variable v (main_var s)) refl there (placed v (suc m) chain t later)
  where
    go : (b : Bool) → is_variable v (main_var s) ≡ b → elim b [ true ↦ Some s | false ↦ member_in v chain ] ≡ Some t → (member_in v chain ≡ Some t → IsMember v chain t) → IsMember v (s ∷ chain) t
    go true e found further = record {
      main = ap main_var (sym (same_Some s t found)) ∙ main ∙ ap Some same;
      more = chain;
      parts = ap (λ x. x ∷ chain) (same_Some s t found) ∙ ap (λ xs. xs ++ t ∷ chain) (sym (ap (λ b. elim b [ true ↦ s ∷ members_below v chain | false ↦ members_below v chain ]) (ap (is_variable_below v) main ∙ le-ltb m v (omega (arith, same))) ∙ none_below v (suc m) chain (omega (arith, same)) later));
    }
      where
        same : m ≡ v
        same = eqb-true m v (sym (ap (is_variable v) main) ∙ e)
    go false e found further = record {
      main = rest.main;
      more = rest.more;
      parts = ap (λ xs. s ∷ xs) rest.parts ∙ ap (λ b. elim b [ true ↦ s ∷ members_below v chain | false ↦ members_below v chain ] ++ t ∷ rest.more) (sym (ap (is_variable_below v) main ∙ lt-ltb m v less));
    }
      where
        rest : IsMember v chain t
        rest = further found

        less : m < v
        less = let above = member_from v (suc m) chain t later found in omega (arith, above)

module _ (v : ℕ) where
  -- those below v are
  pub members_are_below : (chain : List Polynomial) → AreBelow v (members_below v chain)
  members_are_below [] = tt
  members_are_below (t ∷ chain) = go (is_variable_below v (main_var t)) refl (members_are_below chain)
    where
      go : (b : Bool) → is_variable_below v (main_var t) ≡ b → AreBelow v (members_below v chain) → AreBelow v (elim b [ true ↦ t ∷ members_below v chain | false ↦ members_below v chain ])
      go true e later = (e, later)
      go false e later = later

  -- what is reduced by all is reduced by those below v
  pub members_reduce : (c : Polynomial) (chain : List Polynomial) → IsReducedBy c chain → IsReducedBy c (members_below v chain)
  members_reduce c [] h = tt
  members_reduce c (t ∷ chain) h = go (is_variable_below v (main_var t)) (members_reduce c chain h.1)
    where
      go : (b : Bool) → IsReducedBy c (members_below v chain) → IsReducedBy c (elim b [ true ↦ t ∷ members_below v chain | false ↦ members_below v chain ])
      go true later = (h.0, later)
      go false later = later

  -- and by the member for v
  member_reduces : (c : Polynomial) (chain : List Polynomial) (t : Polynomial) → IsReducedBy c chain → member_in v chain ≡ Some t → HasLessDegree c (plain t)
  member_reduces c [] t h there = cc
  member_reduces c (s ∷ chain) t h there = go (is_variable v (main_var s)) there (member_reduces c chain t h.1)
    where
      go : (b : Bool) → elim b [ true ↦ Some s | false ↦ member_in v chain ] ≡ Some t → (member_in v chain ≡ Some t → HasLessDegree c (plain t)) → HasLessDegree c (plain t)
      go true found further = subst (λ x. HasLessDegree c (plain x)) (same_Some s t found) h.0
      go false found further = further found

  module _ (r : Tables) (xs : List ℕ) where
    -- initials that aren't zero
    pub members_initials : (chain : List Polynomial) → AreNonZero r xs (map initial_of chain) → AreNonZero r xs (map initial_of (members_below v chain))
    members_initials [] h = tt
    members_initials (t ∷ chain) h = go (is_variable_below v (main_var t)) (members_initials chain h.1)
      where
        go : (b : Bool) → AreNonZero r xs (map initial_of (members_below v chain)) → AreNonZero r xs (map initial_of (elim b [ true ↦ t ∷ members_below v chain | false ↦ members_below v chain ]))
        go true later = (h.0, later)
        go false later = later

    -- the member is zero, and its initial isn't
    member_at : (chain : List Polynomial) (t : Polynomial) → InZeroSet r xs chain → AreNonZero r xs (map initial_of chain) → member_in v chain ≡ Some t → (value_at r xs t ≡ r.nil) × (value_at r xs (initial_of t) ≢ r.nil)
    member_at [] t zeros others there = cc
    member_at (s ∷ chain) t zeros others there = go (is_variable v (main_var s)) there (member_at chain t zeros.1 others.1)
      where
        go : (b : Bool) → elim b [ true ↦ Some s | false ↦ member_in v chain ] ≡ Some t → (member_in v chain ≡ Some t → (value_at r xs t ≡ r.nil) × (value_at r xs (initial_of t) ≢ r.nil)) → (value_at r xs t ≡ r.nil) × (value_at r xs (initial_of t) ≢ r.nil)
        go true found further = subst (λ x. (value_at r xs x ≡ r.nil) × (value_at r xs (initial_of x) ≢ r.nil)) (same_Some s t found) (zeros.0, others.0)
        go false found further = further found

-- a main variable below u is below v
below_more : (u v : ℕ) (o : Option ℕ) → u ≤ v → is_variable_below u o ≡ true → is_variable_below v o ≡ true
below_more u v None up e = cc
below_more u v (Some x) up e = let less = ltb-true x u e in lt-ltb x v (omega (arith, less, up))

-- the members below v of some below u and others
below_append : (u v : ℕ) (fs gs : List Polynomial) → u ≤ v → AreBelow u fs → members_below v (fs ++ gs) ≡ fs ++ members_below v gs
below_append u v [] gs up below = refl
below_append u v (f ∷ fs) gs up below = ap (λ b. elim b [ true ↦ f ∷ members_below v (fs ++ gs) | false ↦ members_below v (fs ++ gs) ]) (below_more u v (main_var f) up below.0) ∙ ap (λ hs. f ∷ hs) (below_append u v fs gs up below.1)

-- the laws
pub members_are_split : MembersAreSplit
members_are_split u v chain t less triangular there =
    let place : IsMember u chain t = placed u 0 chain t triangular there in
    (members_below v place.more, ap (members_below v) place.parts ∙ below_append u v (members_below u chain) (t ∷ place.more) (omega (arith, less)) (members_are_below u chain) ∙ ap (λ b. members_below u chain ++ elim b [ true ↦ t ∷ members_below v place.more | false ↦ members_below v place.more ]) (ap (is_variable_below v) place.main ∙ lt-ltb u v less))

pub reduced_by_whole : ReducedByWhole
reduced_by_whole u [] f reduced lacks = tt
reduced_by_whole u (t ∷ chain) f reduced lacks = go (is_variable_below u (main_var t)) refl reduced (λ by. reduced_by_whole u chain f by lacks.1)
  where
    go : (b : Bool) → is_variable_below u (main_var t) ≡ b → IsReducedBy f (elim b [ true ↦ t ∷ members_below u chain | false ↦ members_below u chain ]) → (IsReducedBy f (members_below u chain) → IsReducedBy f chain) → IsReducedBy f (t ∷ chain)
    go true e by rest = (by.0, rest by.1)
    go false e by rest = (
      λ x main.
          let from : u ≤ x = ltb-false x u (sym (ap (is_variable_below u) main) ∙ e) in
          let none = lacks.0 x main from in
          let some = degree_in_main_var x t main in
          omega (arith, none, some),
      rest by,
    )

pub members_are_placed : MembersArePlaced
members_are_placed v chain t triangular there = placed v 0 chain t triangular there

pub members_start_remainder_rows : MembersStartRemainderRows
members_start_remainder_rows v chain t c triangular there reduced occurs = record {
  triangular = below_triangular 0 v chain triangular;
  below = members_are_below v chain;
  reduced = members_reduce v c chain reduced;
  occurs = occurs;
  falls = member_reduces v c chain t reduced there v (placed v 0 chain t triangular there).main;
}

pub points_at_members : PointsAtMembers
points_at_members v r xs chain t triangular there inside = record {
  below = (InZeroSet-members_below r xs v chain inside.0, members_initials v r xs chain inside.1);
  zero = at_t.0;
  lead = subst (λ o. value_at r xs (lead_in_main t o) ≢ r.nil) (placed v 0 chain t triangular there).main at_t.1;
}
  where
    at_t : (value_at r xs t ≡ r.nil) × (value_at r xs (initial_of t) ≢ r.nil)
    at_t = member_at v r xs chain t inside.0 inside.1 there
