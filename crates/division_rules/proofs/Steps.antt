-- Elimination, remainders and reduction: induction over their steps, and the degrees at the end.
use Rattle.std.proofs.Common.{◌≡◌, ◌≢◌, ℕ, zero, suc, ◌+◌, ◌-◌, ◌<◌, ◌≤◌, Bool, true, false, ◌||◌, ltb, List, [], ◌∷◌, refl, sym, subst, arith}
use Rattle.std.proofs.lemmas.Bool.{ltb-true, ltb-false}
use Rattle.polynomials.proofs.RingLaws.{times_comm}
use Rattle.division_rules.specs.Operations.{lead, shifted_lead}
use Rattle.division_rules.specs.Rows.{Row, elimination, is_reduced_by, sparse_remainder_by, sparse_remainder, turns, times_row, pseudo_remainder_by, pseudo_remainder, reduction}
use Rattle.division_rules.specs.Chains.{EachRow, IsChain, IsBelow, IsLessInMain, IsReduced, IsFree}
use Rattle.division_rules.proofs.Settings.{ViewedRing, operations}
use Rattle.division_rules.proofs.Bounds.{degree_below, under-scale, under-cross, under-shift_other, eliminated-under}

-- what holds of both branches of a test holds of the test
pub choose : {B : Type 0} (Q : B → Type 0) (b : Bool) (x y : B) → (b ≡ true → Q x) → (b ≡ false → Q y) → Q (elim b [ true ↦ x | false ↦ y ])
choose Q true x y first second = first refl
choose Q false x y first second = second refl

-- what follows for one row follows for each
pub EachRow-map : {A : Type 0} (Q R : Row A → Type 0) (chain : List (Row A)) → ((t : Row A) → Q t → R t) → EachRow Q chain → EachRow R chain
EachRow-map Q R [] f h = tt
EachRow-map Q R (t ∷ chain) f h = (f t h.0, EachRow-map Q R chain f h.1)

-- what follows from two facts of one row follows from both of each
pub EachRow-zip : {A : Type 0} (Q R S : Row A → Type 0) (chain : List (Row A)) → ((t : Row A) → Q t → R t → S t) → EachRow Q chain → EachRow R chain → EachRow S chain
EachRow-zip Q R S [] f h k = tt
EachRow-zip Q R S (t ∷ chain) f h k = (f t h.0 k.0, EachRow-zip Q R S chain f h.1 k.1)

module _ {A : Type 0} (P : ViewedRing A) where
  open P.ring use {◌⊕◌, ◌⊗◌, nil, one, neg}
  open P.views use {is_nil, degree, main}
  open P.laws use {Under}

  -- where no elimination is left, the degree is below that of g
  pub stopped : (v : ℕ) (g f : Row A) → is_reduced_by (operations P) v g f ≡ true → Under v (degree v g.first) f.first
  stopped v g f = go (is_nil f.first) refl
    where
      go : (b : Bool) → is_nil f.first ≡ b → (b || ltb (degree v f.first) (degree v g.first)) ≡ true → Under v (degree v g.first) f.first
      go true e h = subst (Under v (degree v g.first)) (sym (P.laws.nil_by_test f.first e)) (P.laws.under-nil v (degree v g.first))
      go false e h = P.laws.under-more v (suc (degree v f.first)) (degree v g.first) f.first (ltb-true (degree v f.first) (degree v g.first) h) (P.laws.degree-under v f.first)

  -- where one is left, f is not 0 and its degree is at least that of g
  pub going_on : (v : ℕ) (g f : Row A) → is_reduced_by (operations P) v g f ≡ false → (f.first ≢ nil) × (degree v g.first ≤ degree v f.first)
  going_on v g f = go (is_nil f.first) refl
    where
      go : (b : Bool) → is_nil f.first ≡ b → (b || ltb (degree v f.first) (degree v g.first)) ≡ false → (f.first ≢ nil) × (degree v g.first ≤ degree v f.first)
      go true e h = cc
      go false e h = (P.laws.nonzero_by_test f.first e, ltb-false (degree v f.first) (degree v g.first) h)

  module _ (Q : Row A → Type 0) (v : ℕ) (g : Row A) (step : (f : Row A) → is_reduced_by (operations P) v g f ≡ false → Q f → Q (elimination (operations P) v f g)) where
    -- what each elimination by g keeps, the sparse remainder keeps
    pub sparse_remainder_by-keeps : (k : ℕ) (f : Row A) → Q f → Q (sparse_remainder_by (operations P) v g k f)
    sparse_remainder_by-keeps zero f h = h
    sparse_remainder_by-keeps (suc k) f h = choose Q (is_reduced_by (operations P) v g f) f (sparse_remainder_by (operations P) v g k (elimination (operations P) v f g)) (λ e. h) (λ e. sparse_remainder_by-keeps k (elimination (operations P) v f g) (step f e h))

    -- and what multiplication by the lead keeps too, the pseudo-remainder
    pub pseudo_remainder_by-keeps : (scale : (f : Row A) → is_reduced_by (operations P) v g f ≡ true → Q f → Q (times_row (operations P) (lead (operations P) v g.first) f)) (k : ℕ) (f : Row A) → Q f → Q (pseudo_remainder_by (operations P) v g k f)
    pseudo_remainder_by-keeps scale zero f h = h
    pseudo_remainder_by-keeps scale (suc k) f h = pseudo_remainder_by-keeps scale k (elim (is_reduced_by (operations P) v g f) [ true ↦ times_row (operations P) (lead (operations P) v g.first) f | false ↦ elimination (operations P) v f g ]) (choose Q (is_reduced_by (operations P) v g f) (times_row (operations P) (lead (operations P) v g.first) f) (elimination (operations P) v f g) (λ e. scale f e h) (λ e. step f e h))

  -- Q is kept by each elimination by t in its main variable
  abbrev pub Keeps : (Row A → Type 0) → Row A → Type 0
  Keeps Q t = (f : Row A) → is_reduced_by (operations P) (main t.first) t f ≡ false → Q f → Q (elimination (operations P) (main t.first) f t)

  -- what eliminations by each member keep, the reduction keeps
  pub reduction-keeps : (Q : Row A → Type 0) (chain : List (Row A)) → EachRow (Keeps Q) chain → (f : Row A) → Q f → Q (reduction (operations P) chain f)
  reduction-keeps Q [] steps f h = h
  reduction-keeps Q (t ∷ chain) steps f h = sparse_remainder_by-keeps Q (main t.first) t steps.0 (turns (operations P) (main t.first) (reduction (operations P) chain f).first t.first) (reduction (operations P) chain f) (reduction-keeps Q chain steps.1 f h)

  -- an elimination lowers a bound on the degree
  pub elimination-under : (v k : ℕ) (g f : Row A) → is_reduced_by (operations P) v g f ≡ false → Under v (suc k) f.first → Under v k (elimination (operations P) v f g).first
  elimination-under v k g f e h =
      let on = going_on v g f e in
      let less : degree v f.first < suc k = degree_below P v (suc k) f.first h on.0 in
      P.laws.under-more v (degree v f.first) k (elimination (operations P) v f g).first (omega arith) (eliminated-under P v f.first g.first on.1)

  -- with enough turns the degree of the sparse remainder is below that of g
  pub sparse_remainder_by-under : (v : ℕ) (g : Row A) (k : ℕ) (f : Row A) → Under v (degree v g.first + k) f.first → Under v (degree v g.first) (sparse_remainder_by (operations P) v g k f).first
  sparse_remainder_by-under v g zero f h = P.laws.under-more v (degree v g.first + 0) (degree v g.first) f.first (omega arith) h
  sparse_remainder_by-under v g (suc k) f h = choose (λ x. Under v (degree v g.first) x.first) (is_reduced_by (operations P) v g f) f (sparse_remainder_by (operations P) v g k (elimination (operations P) v f g)) (stopped v g f) (λ e. sparse_remainder_by-under v g k (elimination (operations P) v f g) (elimination-under v (degree v g.first + k) g f e (P.laws.under-more v (degree v g.first + suc k) (suc (degree v g.first + k)) f.first (omega arith) h)))

  -- and that of the pseudo-remainder
  pub pseudo_remainder_by-under : (v : ℕ) (g : Row A) (k : ℕ) (f : Row A) → Under v (degree v g.first + k) f.first → Under v (degree v g.first) (pseudo_remainder_by (operations P) v g k f).first
  pseudo_remainder_by-under v g zero f h = P.laws.under-more v (degree v g.first + 0) (degree v g.first) f.first (omega arith) h
  pseudo_remainder_by-under v g (suc k) f h = pseudo_remainder_by-under v g k (elim (is_reduced_by (operations P) v g f) [ true ↦ times_row (operations P) l f | false ↦ elimination (operations P) v f g ]) (choose (λ x. Under v (degree v g.first + k) x.first) (is_reduced_by (operations P) v g f) (times_row (operations P) l f) (elimination (operations P) v f g) scaled eliminated)
    where
      l : A
      l = lead (operations P) v g.first

      scaled : is_reduced_by (operations P) v g f ≡ true → Under v (degree v g.first + k) (l ⊗ f.first)
      scaled e = under-scale P v (degree v g.first + k) l f.first (P.laws.coefficient-free v (degree v g.first) g.first) (P.laws.under-more v (degree v g.first) (degree v g.first + k) f.first (omega arith) (stopped v g f e))

      eliminated : is_reduced_by (operations P) v g f ≡ false → Under v (degree v g.first + k) (elimination (operations P) v f g).first
      eliminated e = elimination-under v (degree v g.first + k) g f e (P.laws.under-more v (degree v g.first + suc k) (suc (degree v g.first + k)) f.first (omega arith) h)

  -- the turns of the definitions are enough
  pub turns-enough : (v : ℕ) (f g : A) → Under v (degree v g + turns (operations P) v f g) f
  turns-enough v f g = P.laws.under-more v (suc (degree v f)) (degree v g + turns (operations P) v f g) f (omega arith) (P.laws.degree-under v f)

  -- so the sparse remainder has a degree below that of g
  pub sparse_remainder-under : (v : ℕ) (f g : Row A) → Under v (degree v g.first) (sparse_remainder (operations P) v f g).first
  sparse_remainder-under v f g = sparse_remainder_by-under v g (turns (operations P) v f.first g.first) f (turns-enough v f.first g.first)

  -- and so has the pseudo-remainder
  pub pseudo_remainder-under : (v : ℕ) (f g : Row A) → Under v (degree v g.first) (pseudo_remainder (operations P) v f g).first
  pseudo_remainder-under v f g = pseudo_remainder_by-under v g (turns (operations P) v f.first g.first) f (turns-enough v f.first g.first)

  -- an elimination by what has no x keeps bounds in x
  pub elimination-other : (x d v : ℕ) (f g : Row A) → x ≢ v → Under x 1 g.first → Under x d f.first → Under x d (elimination (operations P) v f g).first
  elimination-other x d v f g other free h = under-cross P x d l m f.first g.first (under-scale P x d l f.first (P.laws.under-coefficient x 1 v (degree v g.first) g.first free) h) (subst (Under x d) (times_comm P.ring g.first m) (under-scale P x d g.first m free (under-shift_other P x v (degree v f.first - degree v g.first) d (lead (operations P) v f.first) other (P.laws.under-coefficient x d v (degree v f.first) f.first h))))
    where
      l : A
      l = lead (operations P) v g.first

      m : A
      m = shifted_lead (operations P) v f.first g.first

  -- a reduction by a chain without x keeps bounds in x
  pub reduction-other : (x d : ℕ) (chain : List (Row A)) → EachRow (λ t. x ≢ main t.first) chain → IsFree P.ring P.views P.laws x chain → (f : Row A) → Under x d f.first → Under x d (reduction (operations P) chain f).first
  reduction-other x d chain apart free = reduction-keeps (λ f. Under x d f.first) chain (EachRow-zip (λ t. x ≢ main t.first) (λ t. Under x 1 t.first) (Keeps (λ f. Under x d f.first)) chain (λ t other none f e h. elimination-other x d (main t.first) f t other none h) apart free)

  -- the reduction by a chain is reduced by it
  pub reduction-reduced : (chain : List (Row A)) → IsChain P.ring P.views P.laws chain → (f : Row A) → IsReduced P.ring P.views P.laws chain (reduction (operations P) chain f).first
  reduction-reduced [] c f = tt
  reduction-reduced (t ∷ chain) c f = (sparse_remainder-under (main t.first) (reduction (operations P) chain f) t, EachRow-zip (IsBelow P.ring P.views P.laws t) (IsLessInMain P.ring P.views P.laws (reduction (operations P) chain f).first) (IsLessInMain P.ring P.views P.laws (reduction (operations P) (t ∷ chain) f).first) chain kept c.1 (reduction-reduced chain c.2 f))
    where
      kept : (u : Row A) → IsBelow P.ring P.views P.laws t u → IsLessInMain P.ring P.views P.laws (reduction (operations P) chain f).first u → IsLessInMain P.ring P.views P.laws (reduction (operations P) (t ∷ chain) f).first u
      kept u below h = sparse_remainder_by-keeps (λ x. IsLessInMain P.ring P.views P.laws x.first u) (main t.first) t (λ x e i. elimination-other (main u.first) (degree (main u.first) u.first) (main t.first) x t (λ same. distinct same) below.1 i) (turns (operations P) (main t.first) (reduction (operations P) chain f).first t.first) (reduction (operations P) chain f) h
        where
          distinct : main u.first ≡ main t.first → ⊥
          distinct same = omega (arith, same, below.0)
