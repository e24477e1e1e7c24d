-- Variables that remainder rows don't have.
use Rattle.std.proofs.Common.{◌≡◌, ◌≢◌, ℕ, ◌-◌, List, [], ◌∷◌, map, Some, None, sym, ap, subst}
use Rattle.division_rules.specs.Operations.{lead, shifted_lead}
use Rattle.division_rules.specs.Rows.{Row, cross_all, elimination, turns, times_row, pseudo_remainder, reduction}
use Rattle.division_rules.specs.Chains.{EachRow, IfRow, IsFree}
use Rattle.division_rules.specs.RemainderRows.{quotients, divided, TurnBefore, next_beta, undivided, next_row, rows_from}
use Rattle.division_rules.specs.Turns.{IsBase, IsTurn}
use Rattle.division_rules.proofs.Settings.{ViewedRing, operations}
use Rattle.division_rules.proofs.Bounds.{under-scale, under-cross, under-factor, under-shift_other}
use Rattle.division_rules.proofs.Steps.{pseudo_remainder_by-keeps, elimination-other, reduction-keeps, reduction-other, Keeps, EachRow-zip}
use Rattle.division_rules.proofs.Identity.{both-some, row_of-some}
use Rattle.division_rules.proofs.Turns.{next_row_is, next_row-under, next_beta_free_nonzero}
use Rattle.division_rules.proofs.RowsShape.{rows_each}

-- Q holds of each of a list
abbrev pub EachOf : {A : Type 0} → (A → Type 0) → List A → Type 0
EachOf Q [] = Unit {0}
EachOf Q (x ∷ xs) = Q x × EachOf Q xs

module _ {A : Type 0} (P : ViewedRing A) where
  open P.ring use {◌⊕◌, ◌⊗◌, nil, one, neg}
  open P.views use {degree, main}
  open P.laws use {Under}

  -- a pseudo-remainder by what has no x keeps bounds in x
  pub pseudo_remainder-other : (x d v : ℕ) (f g : Row A) → x ≢ v → Under x 1 g.first → Under x d f.first → Under x d (pseudo_remainder (operations P) v f g).first
  pseudo_remainder-other x d v f g other free h = pseudo_remainder_by-keeps P (λ t. Under x d t.first) v g (λ t e i. elimination-other P x d v t g other free i) (λ t e i. under-scale P x d (lead (operations P) v g.first) t.first (P.laws.under-coefficient x 1 v (degree v g.first) g.first free) i) (turns (operations P) v f.first g.first) f h

  -- no entry of the row has x
  abbrev pub AllFree : ℕ → Row A → Type 0
  AllFree x f = Under x 1 f.first × EachOf (Under x 1) f.cofactors

  free_crossed : (x : ℕ) (l m : A) → Under x 1 l → Under x 1 m → (cs ds : List A) → EachOf (Under x 1) cs → EachOf (Under x 1) ds → EachOf (Under x 1) (cross_all (operations P) l m cs ds)
  free_crossed x l m hl hm [] ds hc hd = tt
  free_crossed x l m hl hm (c ∷ cs) [] hc hd = tt
  free_crossed x l m hl hm (c ∷ cs) (d ∷ ds) hc hd = (under-cross P x 1 l m c d (under-scale P x 1 l c hl hc.0) (under-scale P x 1 m d hm hd.0), free_crossed x l m hl hm cs ds hc.1 hd.1)

  free_multiplied : (x : ℕ) (l : A) → Under x 1 l → (cs : List A) → EachOf (Under x 1) cs → EachOf (Under x 1) (map (◌⊗◌ l) cs)
  free_multiplied x l hl [] hc = tt
  free_multiplied x l hl (c ∷ cs) hc = (under-scale P x 1 l c hl hc.0, free_multiplied x l hl cs hc.1)

  -- eliminations, multiples, remainders and reductions keep that
  pub free-elimination : (x v : ℕ) (f g : Row A) → x ≢ v → AllFree x f → AllFree x g → AllFree x (elimination (operations P) v f g)
  free-elimination x v f g other hf hg = (elimination-other P x 1 v f g other hg.0 hf.0, free_crossed x l m (P.laws.under-coefficient x 1 v (degree v g.first) g.first hg.0) (under-shift_other P x v (degree v f.first - degree v g.first) 1 (lead (operations P) v f.first) other (P.laws.under-coefficient x 1 v (degree v f.first) f.first hf.0)) f.cofactors g.cofactors hf.1 hg.1)
    where
      l : A
      l = lead (operations P) v g.first

      m : A
      m = shifted_lead (operations P) v f.first g.first

  -- multiples by what has no x
  pub free-times_row : (x : ℕ) (l : A) (f : Row A) → Under x 1 l → AllFree x f → AllFree x (times_row (operations P) l f)
  free-times_row x l f hl hf = (under-scale P x 1 l f.first hl hf.0, free_multiplied x l hl f.cofactors hf.1)

  -- pseudo-remainders
  pub free-pseudo_remainder : (x v : ℕ) (f g : Row A) → x ≢ v → AllFree x f → AllFree x g → AllFree x (pseudo_remainder (operations P) v f g)
  free-pseudo_remainder x v f g other hf hg = pseudo_remainder_by-keeps P (AllFree x) v g (λ t e i. free-elimination x v t g other i hg) (λ t e i. free-times_row x (lead (operations P) v g.first) t (P.laws.under-coefficient x 1 v (degree v g.first) g.first hg.0) i) (turns (operations P) v f.first g.first) f hf

  -- reductions by a chain without x
  pub free-reduction : (x : ℕ) (chain : List (Row A)) → EachRow (λ t. x ≢ main t.first) chain → EachRow (AllFree x) chain → (f : Row A) → AllFree x f → AllFree x (reduction (operations P) chain f)
  free-reduction x chain apart free = reduction-keeps P (AllFree x) chain (EachRow-zip (λ t. x ≢ main t.first) (AllFree x) (Keeps P (AllFree x)) chain (λ t other ht f e hf. free-elimination x (main t.first) f t other hf ht) apart free)

  -- so do quotients
  pub free-quotients : (x w : ℕ) (b : A) → b ≢ nil → (cs qs : List A) → quotients (operations P) w b cs ≡ Some qs → EachOf (Under x 1) cs → EachOf (Under x 1) qs
  free-quotients x w b some [] qs e h = subst (EachOf (Under x 1)) (ap (λ a. elim a [ None ↦ [] | Some xs ↦ xs ]) e) tt
  free-quotients x w b some (c ∷ cs) qs e h =
      let parts = both-some (P.views.quotient w c b) (quotients (operations P) w b cs) qs e in
      subst (EachOf (Under x 1)) (sym parts.4) (under-factor P x 1 parts.0 b some (subst (Under x 1) (sym (P.laws.quotient-sound w c b parts.0 parts.2)) h.0), free-quotients x w b some cs parts.1 parts.3 h.1)

  -- and quotients of rows by what is not 0
  pub free-divided : (x w : ℕ) (b : A) (f h : Row A) → b ≢ nil → divided (operations P) w b f ≡ Some h → AllFree x f → AllFree x h
  free-divided x w b f h some e hf =
      let parts = row_of-some (P.views.quotient w f.first b) (quotients (operations P) w b f.cofactors) h e in
      (under-factor P x 1 h.first b some (subst (Under x 1) (sym (P.laws.quotient-sound w f.first b h.first parts.0)) hf.0), free-quotients x w b some f.cofactors h.cofactors parts.1 hf.1)

module _ {A : Type 0} (P : ViewedRing A) (w v : ℕ) (chain : List (Row A)) (base : IsBase P.ring P.views P.laws v chain) (x : ℕ) (other : x ≢ v) (apart : EachRow (λ t. x ≢ P.views.main t.first) chain) where
  open P.laws use {Under}

  -- the next row has no x where the two before it and the chain have none
  pub next_row-free : IsFree P.ring P.views P.laws x chain → (m : TurnBefore (operations P)) (f g : Row A) → IsTurn P.ring P.views P.laws v chain m f g → Under x 1 f.first → Under x 1 g.first → Under x 1 (next_row (operations P) w v chain m f g).first
  next_row-free free m f g turn hf hg = next_row-under P w v chain base m f g turn x 1 (reduction-other P x 1 chain apart free (pseudo_remainder (operations P) v f g) (pseudo_remainder-other P x 1 v f g other hg hf))

  -- and no entry of a remainder row has x where no entry of the first two and of the chain has
  pub rows_free : EachRow (AllFree P x) chain → (k : ℕ) (m : TurnBefore (operations P)) (f g : Row A) → IsTurn P.ring P.views P.laws v chain m f g → AllFree P x f → AllFree P x g → EachRow (AllFree P x) (rows_from (operations P) w v chain k m f g).later × IfRow (AllFree P x) (rows_from (operations P) w v chain k m f g).last
  rows_free free k m f g turn hf hg = rows_each P w v chain base (AllFree P x) (AllFree P x) (λ n y z. AllFree P x y × AllFree P x z) (λ n y z t i null. before y z i) (λ n y z t i some.
      let next : AllFree P x (next_row (operations P) w v chain n y z) = next_row_is P w v chain base n y z t (AllFree P x) (λ h e there. free-divided P x w (next_beta (operations P) w v n y z) (undivided (operations P) v chain y z) h (next_beta_free_nonzero P w v chain base n y z t).0 there (before y z i)) (before y z i) in
      (next, (i.1, next))) k m f g turn (hf, hg)
    where
      before : (y z : Row A) → AllFree P x y × AllFree P x z → AllFree P x (undivided (operations P) v chain y z)
      before y z i = free-reduction P x chain apart free (pseudo_remainder (operations P) v y z) (free-pseudo_remainder P x v y z other i.0 i.1)
