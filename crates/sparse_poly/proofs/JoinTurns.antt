-- What one turn of joining sorted terms keeps.
use Rattle.std.proofs.Common.{◌≡◌, ◌≢◌, ◌<◌, ◌≤◌, ◌+◌, ◌%◌, ℕ, List, [], ◌∷◌, ◌++◌, length, get_or, drop, ap, sym, ◌∙◌, subst, append_assoc, append-nil}
use Rattle.std.proofs.Math.Nat.{mod-lt, mod-eq_of_lt}
use Rattle.std.proofs.Math.ListN.{drop_of_length-le}
use Rattle.polynomials.specs.Monomials.{Monomial}
use Rattle.polynomials.specs.Polynomials.{Term, term, with_first, collected}
use Rattle.polynomials.proofs.FirstTerms.{with_first_nonzero}
use Rattle.sparse_poly.specs.Falling.{AreResidues, HaveVariables, IsFalling}
use Rattle.sparse_poly.proofs.Places.{drop_item}
use Rattle.sparse_poly.proofs.Collecting.{collected-same, collected-first, falling_below, below_from_other}

-- the open term m s and the terms from the place k on: small, of n exponents, in falling order, and
-- collected to what is to come after out
abbrev pub Joining : ℕ → ℕ → List Term → List Term → Monomial → ℕ → List Term → Type 0
Joining p n all out m s later =
    AreResidues p (term m s ∷ later) × HaveVariables n (term m s ∷ later) × IsFalling (term m s ∷ later) × (out ++ collected p (term m s ∷ later) ≡ all)

module _ (p n : ℕ) (positive : 0 < p) (all out : List Term) (m : Monomial) (s : ℕ) where
  -- a term of the open monomial is added to it
  join_equal : (t : Term) (later : List Term) (sum : ℕ) → t.0 ≡ m → sum ≡ (s + t.1) % p → Joining p n all out m s (t ∷ later) → Joining p n all out m sum later
  join_equal t later sum same is h = (
    (subst (λ x. x < p) (sym is) (mod-lt (s + t.1) positive), h.0.1.1),
    (h.1.0, h.1.1.1),
    (h.2.0.1, h.2.1.1),
    ap (λ c. out ++ collected p (term m c ∷ later)) is
        ∙ (ap (λ f. out ++ f) (sym (ap (λ l. collected p (term m s ∷ term l t.1 ∷ later)) same ∙ collected-same p n positive m s t.1 later (h.1.0, (h.1.0, h.1.1.1))))
        ∙ h.3),
  )

  -- what the open term and terms of less monomials are collected to
  opened : (t : Term) (later : List Term) → t.0 ≢ m → Joining p n all out m s (t ∷ later) → collected p (term m s ∷ t ∷ later) ≡ with_first (term m s) (collected p (t ∷ later))
  opened t later other h = collected-first p n positive m s (t ∷ later) h.0.0 h.1 (falling_below m t later (below_from_other m t.0 h.2.0.0 other) h.2.1)

  -- a term of another monomial closes it: a sum of 0 is dropped
  join_other_zero : (t : Term) (later : List Term) → t.0 ≢ m → s ≡ 0 → Joining p n all out m s (t ∷ later) → Joining p n all out t.0 t.1 later
  join_other_zero t later other none h = (
    h.0.1,
    h.1.1,
    h.2.1,
    ap (λ f. out ++ f) (sym (opened t later other h ∙ ap (λ c. with_first (term m c) (collected p (t ∷ later))) none)) ∙ h.3,
  )

  -- and another sum is kept
  join_other : (t : Term) (later : List Term) → t.0 ≢ m → s ≢ 0 → Joining p n all out m s (t ∷ later) → Joining p n all (out ++ term m s ∷ []) t.0 t.1 later
  join_other t later other some h = (
    h.0.1,
    h.1.1,
    h.2.1,
    append_assoc out (term m s ∷ []) (collected p (t ∷ later))
        ∙ (ap (λ f. out ++ f) (sym (opened t later other h ∙ with_first_nonzero m s (collected p (t ∷ later)) some)) ∙ h.3),
  )

  -- without terms to come
  closed : Joining p n all out m s [] → out ++ with_first (term m s) [] ≡ all
  closed h = ap (λ c. out ++ with_first (term m c) []) (sym (mod-eq_of_lt h.0.0)) ∙ h.3

  -- a last sum of 0 is dropped
  join_end_zero : s ≡ 0 → Joining p n all out m s [] → out ≡ all
  join_end_zero none h = sym (append-nil out) ∙ (ap (λ c. out ++ with_first (term m c) []) (sym none) ∙ closed h)

  -- and another is kept
  join_end : s ≢ 0 → Joining p n all out m s [] → out ++ term m s ∷ [] ≡ all
  join_end some h = ap (λ f. out ++ f) (sym (with_first_nonzero m s [] some)) ∙ closed h

  -- the same at the places of a list
  module _ (rest : List Term) (k : ℕ) (t : Term) (below : k < length rest) (at : t ≡ get_or rest k t) (h : Joining p n all out m s (drop k rest)) where
    at_item : Joining p n all out m s (t ∷ drop (k + 1) rest)
    at_item = subst (Joining p n all out m s) (drop_item rest k t below at) h

    -- its coefficient is a residue
    pub item_small : t.1 < p
    item_small = at_item.0.1.0

    -- a term of the open monomial
    pub turn_same : (sum : ℕ) → t.0 ≡ m → sum ≡ (s + t.1) % p → Joining p n all out m sum (drop (k + 1) rest)
    turn_same sum same is = join_equal t (drop (k + 1) rest) sum same is at_item

    -- a term of another, after an open sum of 0
    pub turn_other_zero : t.0 ≢ m → s ≡ 0 → Joining p n all out t.0 t.1 (drop (k + 1) rest)
    turn_other_zero other none = join_other_zero t (drop (k + 1) rest) other none at_item

    -- and after one other than 0, which is kept
    pub turn_other : t.0 ≢ m → s ≢ 0 → Joining p n all (out ++ term m s ∷ []) t.0 t.1 (drop (k + 1) rest)
    turn_other other some = join_other t (drop (k + 1) rest) other some at_item

  module _ (rest : List Term) (k : ℕ) (end : length rest ≤ k) (h : Joining p n all out m s (drop k rest)) where
    at_end : Joining p n all out m s []
    at_end = subst (Joining p n all out m s) (drop_of_length-le rest end) h

    -- at the end with an open sum of 0
    pub end_zero : s ≡ 0 → out ≡ all
    end_zero none = join_end_zero none at_end

    -- and with another, which is kept
    pub end_some : s ≢ 0 → out ++ term m s ∷ [] ≡ all
    end_some some = join_end some at_end
