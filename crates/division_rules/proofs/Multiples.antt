-- A polynomial times leads of the divisors is its remainder and a combination of the divisors.
use Rattle.std.proofs.Common.{◌≡◌, inl, inr, ℕ, zero, suc, List, [], ◌∷◌, ◌++◌, length, map, replicate, refl, sym, ap, ◌∙◌}
use Rattle.polynomials.specs.Rings.{power_in}
use Rattle.polynomials.proofs.RingLaws.{one-times, nil-times, nil-plus, plus-nil, times_assoc, times-plus}
use Rattle.polynomials.proofs.Solver.{var, ◌:+◌, ◌:-◌, ◌:*◌, solve}
use Rattle.division_rules.specs.Operations.{lead, shifted_lead, initial}
use Rattle.division_rules.specs.Rows.{Row, first_entries, combined, cross, elimination, is_reduced_by, sparse_remainder, turns, times_row, pseudo_turn, pseudo_remainder_by, reduction}
use Rattle.division_rules.specs.Points.{product_of_all, AreInitials}
use Rattle.division_rules.proofs.Settings.{ViewedRing, operations}
use Rattle.division_rules.proofs.Combinations.{combined-times}
use Rattle.division_rules.proofs.Identity.{length-map_by}
use Rattle.division_rules.proofs.Steps.{choose, sparse_remainder_by-keeps}

module _ {A : Type 0} (P : ViewedRing A) where
  open P.ring use {◌⊕◌, ◌⊗◌, nil, one, neg}

  -- l f is m g and l f - m g
  cross_whole : (l m f g : A) → l ⊗ f ≡ m ⊗ g ⊕ cross (operations P) l m f g
  cross_whole l m f g = solve P.ring (l ∷ m ∷ f ∷ g ∷ []) (var 0 :* var 2) (var 1 :* var 3 :+ (var 0 :* var 2 :- var 1 :* var 3)) refl

  -- a polynomial is 0 times another and itself
  no_multiple : (f g : A) → f ≡ nil ⊗ g ⊕ f
  no_multiple f g = sym (ap (λ x. x ⊕ f) (nil-times P.ring g) ∙ nil-plus P.ring f)

  -- two multiples one after the other: k times the first remainder s is a multiple with the remainder r
  two_multiples : (k m q g s r : A) → k ⊗ s ≡ q ⊗ g ⊕ r → k ⊗ (m ⊗ g ⊕ s) ≡ (k ⊗ m ⊕ q) ⊗ g ⊕ r
  two_multiples k m q g s r e =
      solve P.ring (k ∷ m ∷ g ∷ s ∷ []) (var 0 :* (var 1 :* var 2 :+ var 3)) (var 0 :* var 1 :* var 2 :+ var 0 :* var 3) refl
      ∙ ap (λ x. (k ⊗ m) ⊗ g ⊕ x) e
      ∙ solve P.ring (k ∷ m ∷ q ∷ g ∷ r ∷ []) (var 0 :* var 1 :* var 3 :+ (var 2 :* var 3 :+ var 4)) ((var 0 :* var 1 :+ var 2) :* var 3 :+ var 4) refl

  -- f times the lead of g to the power k is a multiple of g and what k turns make of f
  pub multiple-pseudo_remainder_by : (v : ℕ) (g : Row A) (k : ℕ) (f : Row A) → (q : A) × (power_in P.ring (lead (operations P) v g.first) k ⊗ f.first ≡ q ⊗ g.first ⊕ (pseudo_remainder_by (operations P) v g k f).first)
  multiple-pseudo_remainder_by v g zero f = (nil, one-times P.ring f.first ∙ no_multiple f.first g.first)
  multiple-pseudo_remainder_by v g (suc k) f = with_later (multiple-pseudo_remainder_by v g k step)
    where
      l : A
      l = lead (operations P) v g.first

      step : Row A
      step = pseudo_turn (operations P) v g f

      once : (m : A) × (l ⊗ f.first ≡ m ⊗ g.first ⊕ step.first)
      once = choose (λ (h : Row A). (m : A) × (l ⊗ f.first ≡ m ⊗ g.first ⊕ h.first)) (is_reduced_by (operations P) v g f) (times_row (operations P) l f) (elimination (operations P) v f g) (λ e. (nil, no_multiple (l ⊗ f.first) g.first)) (λ e. (shifted_lead (operations P) v f.first g.first, cross_whole l (shifted_lead (operations P) v f.first g.first) f.first g.first))

      with_later : (q : A) × (power_in P.ring l k ⊗ step.first ≡ q ⊗ g.first ⊕ (pseudo_remainder_by (operations P) v g k step).first) → (q : A) × (power_in P.ring l (suc k) ⊗ f.first ≡ q ⊗ g.first ⊕ (pseudo_remainder_by (operations P) v g k step).first)
      with_later later = (power_in P.ring l k ⊗ once.0 ⊕ later.0, solve P.ring (l ∷ power_in P.ring l k ∷ f.first ∷ []) (var 0 :* var 1 :* var 2) (var 1 :* (var 0 :* var 2)) refl ∙ ap (λ x. power_in P.ring l k ⊗ x) once.1 ∙ two_multiples (power_in P.ring l k) once.0 later.0 g.first step.first (pseudo_remainder_by (operations P) v g k step).first later.1)

  -- some power of the lead does for the sparse remainder
  pub multiple-sparse_remainder : (v : ℕ) (f g : Row A) → (j : ℕ) × (q : A) × (power_in P.ring (lead (operations P) v g.first) j ⊗ f.first ≡ q ⊗ g.first ⊕ (sparse_remainder (operations P) v f g).first)
  multiple-sparse_remainder v f g = sparse_remainder_by-keeps P Q v g (λ h e is. (suc is.0, l ⊗ is.1 ⊕ shifted_lead (operations P) v h.first g.first, times_assoc P.ring l (power_in P.ring l is.0) f.first ∙ ap (λ x. l ⊗ x) is.2 ∙ two_multiples l is.1 (shifted_lead (operations P) v h.first g.first) g.first h.first (elimination (operations P) v h g).first (cross_whole l (shifted_lead (operations P) v h.first g.first) h.first g.first))) (turns (operations P) v f.first g.first) f (0, nil, one-times P.ring f.first ∙ no_multiple f.first g.first)
    where
      l : A
      l = lead (operations P) v g.first

      Q : Row A → Type 0
      Q h = (j : ℕ) × (q : A) × (power_in P.ring l j ⊗ f.first ≡ q ⊗ g.first ⊕ h.first)

  -- one factor j times, and others
  product_with_power : (a : A) (j : ℕ) (js : List A) → product_of_all (operations P) (replicate j a ++ js) ≡ power_in P.ring a j ⊗ product_of_all (operations P) js
  product_with_power a zero js = sym (one-times P.ring (product_of_all (operations P) js))
  product_with_power a (suc j) js = ap (λ x. a ⊗ x) (product_with_power a j js) ∙ sym (times_assoc P.ring a (power_in P.ring a j) (product_of_all (operations P) js))

  -- initials of the others are initials
  initials_later : (t : Row A) (chain : List (Row A)) (js : List A) → AreInitials (operations P) chain js → AreInitials (operations P) (t ∷ chain) js
  initials_later t chain [] are = tt
  initials_later t chain (a ∷ js) are = (inr are.0, initials_later t chain js are.1)

  -- so is that of the first row, j times
  initials_with : (t : Row A) (chain : List (Row A)) (j : ℕ) (js : List A) → AreInitials (operations P) chain js → AreInitials (operations P) (t ∷ chain) (replicate j (initial (operations P) t.first) ++ js)
  initials_with t chain zero js are = initials_later t chain js are
  initials_with t chain (suc j) js are = (inl refl, initials_with t chain j js are)

  -- f times a product of initials of the chain is h and a combination of the chain
  pub record IsDivided (chain : List (Row A)) (f h : A) : Type 0 where
    pub factors : List A
    pub initials : AreInitials (operations P) chain factors
    pub quotients : List A
    pub one_each : length quotients ≡ length chain
    pub identity : product_of_all (operations P) factors ⊗ f ≡ h ⊕ combined (operations P) quotients (first_entries chain)

  -- so is the reduction
  pub divided-reduction : (chain : List (Row A)) (f : Row A) → IsDivided chain f.first (reduction (operations P) chain f).first
  divided-reduction [] f = record {
    factors = [];
    initials = tt;
    quotients = [];
    one_each = refl;
    identity = one-times P.ring f.first ∙ sym (plus-nil P.ring f.first);
  }
  divided-reduction (t ∷ chain) f = with_rest (divided-reduction chain f)
    where
      a : A
      a = initial (operations P) t.first

      reduced : A
      reduced = (reduction (operations P) chain f).first

      remainder : A
      remainder = (reduction (operations P) (t ∷ chain) f).first

      last : (j : ℕ) × (q : A) × (power_in P.ring a j ⊗ reduced ≡ q ⊗ t.first ⊕ remainder)
      last = multiple-sparse_remainder (P.views.main t.first) (reduction (operations P) chain f) t

      scale : A
      scale = power_in P.ring a last.0

      sum : List A → A
      sum qs = combined (operations P) qs (first_entries chain)

      with_rest : IsDivided chain f.first reduced → IsDivided (t ∷ chain) f.first remainder
      with_rest rest = record {
        factors = replicate last.0 a ++ rest.factors;
        initials = initials_with t chain last.0 rest.factors rest.initials;
        quotients = last.1 ∷ map (◌⊗◌ scale) rest.quotients;
        one_each = ap suc (length-map_by (◌⊗◌ scale) rest.quotients ∙ rest.one_each);
        identity =
            ap (λ x. x ⊗ f.first) (product_with_power a last.0 rest.factors)
            ∙ times_assoc P.ring scale (product_of_all (operations P) rest.factors) f.first
            ∙ ap (λ x. scale ⊗ x) rest.identity
            ∙ times-plus P.ring scale reduced (sum rest.quotients)
            ∙ ap (λ x. x ⊕ scale ⊗ sum rest.quotients) last.2
            ∙ solve P.ring (last.1 ⊗ t.first ∷ remainder ∷ scale ⊗ sum rest.quotients ∷ []) (var 0 :+ var 1 :+ var 2) (var 1 :+ (var 0 :+ var 2)) refl
            ∙ ap (λ x. remainder ⊕ (last.1 ⊗ t.first ⊕ x)) (sym (combined-times P.ring P.views scale rest.quotients (first_entries chain)));
      }
