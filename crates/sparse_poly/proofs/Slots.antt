-- Slots of a box: a product of two terms that is added, and the polynomial that they hold.
use Rattle.std.proofs.Common.{◌≡◌, ℕ, zero, suc, ◌+◌, ◌%◌, ◌<◌, ◌≤◌, List, [], ◌∷◌, ◌++◌, length, get_or, set, sym, ap, ◌∙◌, subst, append-nil, arith}
use Rattle.std.proofs.Math.Nat.{mod-lt}
use Rattle.std.specs.declared.cmp.Ordering.TheVariants.{Less}
use Rattle.polynomials.specs.Monomials.{Monomial, monomial_order}
use Rattle.polynomials.specs.Polynomials.{Term, term, Polynomial, IsPolynomial, with_first}
use Rattle.polynomials.specs.Rings.{Ring, natural_in, weighted_sum}
use Rattle.polynomials.proofs.RingLaws.{plus_comm, plus_assoc, nil-times, plus-times, plus_cancel_right}
use Rattle.polynomials.proofs.NaturalsInRings.{natural_in-add}
use Rattle.polynomials.proofs.WeightedSums.{weighted_sum-append, weighted_sum-single}
use Rattle.polynomials.proofs.Monomialwise.{EachMonomial, EachMonomial-append, EachMonomial-implied}
use Rattle.polynomials.proofs.Residues.{residues}
use Rattle.polynomials.proofs.SamePolynomials.{SameSums, SameSums-trans, SameSums-sym, SameSums-refl}
use Rattle.polynomials.proofs.SameSumsLemmas.{weighted_sum-set, SameSums-append, SameSums-append_comm, SameSums-zero, SameSums-reduced}
use Rattle.sparse_poly.specs.Boxes.{from_slots}
use Rattle.sparse_poly.proofs.BoxPlaces.{IsAt, lower_place}

-- from the place k on, what isn't 0 has the monomial of its place
abbrev pub StandInOrder : ℕ → List ℕ → ℕ → List Term → Type 0
StandInOrder n sides k [] = Unit {0}
StandInOrder n sides k (slot ∷ slots) =
    (0 < slot.1 → IsAt n sides k slot.0) × StandInOrder n sides (suc k) slots

-- a coefficient of its monomial or 0 has the weight that it has beside that monomial
weight_of_slot : {A : Type 0} (r : Ring A) (h : Monomial → A) (slot : Term) (m : Monomial) → (0 < slot.1 → slot.0 ≡ m) → r.◌⊗◌ (natural_in r slot.1) (h slot.0) ≡ r.◌⊗◌ (natural_in r slot.1) (h m)
weight_of_slot r h (l, zero) m same = nil-times r (h l) ∙ sym (nil-times r (h m))
weight_of_slot r h (l, suc c) m same = ap (λ x. r.◌⊗◌ (natural_in r (suc c)) (h x)) (same (omega arith))

-- a term added to its slot is added to the sums
pub added_to_slot : (p i x : ℕ) (slots : List Term) (slot : Term) (m : Monomial) → i < length slots → slot ≡ get_or slots i slot → (0 < slot.1 → slot.0 ≡ m) → SameSums p (set slots i (term m (slot.1 + x))) (slots ++ term m x ∷ [])
added_to_slot p i x slots slot m below at same = record { at = λ positive h. sums (residues p positive) h }
  where
    sums : {A : Type 0} (r : Ring A) (h : Monomial → A) → weighted_sum r h (set slots i (term m (slot.1 + x))) ≡ weighted_sum r h (slots ++ term m x ∷ [])
    sums r h =
        let old = r.◌⊗◌ (natural_in r slot.1) (h slot.0) in
        let new = r.◌⊗◌ (natural_in r x) (h m) in
        let all = weighted_sum r h slots in
        let there : r.◌⊗◌ (natural_in r slot.1) (h m) ≡ old = sym (weight_of_slot r h slot m same) in
        let sum : r.◌⊗◌ (natural_in r (slot.1 + x)) (h m) ≡ r.◌⊕◌ old new
        = ap (λ w. r.◌⊗◌ w (h m)) (natural_in-add r slot.1 x) ∙ plus-times r (natural_in r slot.1) (natural_in r x) (h m) ∙ ap (λ w. r.◌⊕◌ w new) there in
        plus_cancel_right r old (weighted_sum r h (set slots i (term m (slot.1 + x)))) (r.◌⊕◌ all new)
        (ap (λ (t : Term). r.◌⊕◌ (weighted_sum r h (set slots i (term m (slot.1 + x)))) (r.◌⊗◌ (natural_in r t.1) (h t.0))) at
        ∙ weighted_sum-set r h slots i (term m (slot.1 + x)) slot below
        ∙ ap (λ w. r.◌⊕◌ all w) (sum ∙ plus_comm r old new) ∙ sym (plus_assoc r all new old))
        ∙ sym (weighted_sum-append r h slots (term m x ∷ []) ∙ ap (λ w. r.◌⊕◌ all w) (weighted_sum-single r h (term m x)))

-- a polynomial and a term below it
pub IsPolynomial-push : (p n : ℕ) (f : Polynomial) (t : Term) → IsPolynomial p n f → EachMonomial (λ m. monomial_order t.0 m ≡ Less) f → length t.0 ≡ n → 0 < t.1 → t.1 < p → IsPolynomial p n (f ++ t ∷ [])
IsPolynomial-push p n [] t i below l some small = (l, some, small, tt, tt)
IsPolynomial-push p n (u ∷ []) t i below l some small = (i.0, i.1, i.2, below.0, (l, some, small, tt, tt))
IsPolynomial-push p n (u ∷ v ∷ f) t i below l some small =
    (i.0, i.1, i.2, i.3, IsPolynomial-push p n (v ∷ f) t i.4 below.1 l some small)

-- a monomial of the box from the place k on
abbrev IsFrom : ℕ → List ℕ → ℕ → Monomial → Type 0
IsFrom n sides k m = (j : ℕ) × (k ≤ j) × IsAt n sides j m

-- a number with a remainder isn't 0
some_of_remainder : (x p : ℕ) → 0 < p → 0 < x % p → 0 < x
some_of_remainder zero p positive e = absurd (omega arith)
some_of_remainder (suc x) p positive e = omega arith

-- what stands after the next place stands after this one
later_slots : (n : ℕ) (sides : List ℕ) (k : ℕ) (f : List Term) → EachMonomial (IsFrom n sides (suc k)) f → EachMonomial (IsFrom n sides k) f
later_slots n sides k f each =
    EachMonomial-implied (IsFrom n sides (suc k)) (IsFrom n sides k) (λ m from. (from.0, omega (arith, from.1), from.2)) f each

-- one slot more, below the others
one_more_slot : (p n : ℕ) (sides : List ℕ) (k c : ℕ) (s : Term) (f : Polynomial) → c < p → (0 < c → IsAt n sides k s.0) → EachMonomial (IsFrom n sides (suc k)) f → IsPolynomial p n f → EachMonomial (IsFrom n sides k) (f ++ with_first (term s.0 c) []) × IsPolynomial p n (f ++ with_first (term s.0 c) [])
one_more_slot p n sides k zero s f small at each i =
    subst (λ (l : List Term). EachMonomial (IsFrom n sides k) l × IsPolynomial p n l) (sym (append-nil f)) (later_slots n sides k f each, i)
one_more_slot p n sides k (suc c) s f small at each i =
    let is : IsAt n sides k s.0 = at (omega arith) in (
      EachMonomial-append (IsFrom n sides k) f (term s.0 (suc c) ∷ []) (later_slots n sides k f each) ((k, omega arith, is), tt),
      IsPolynomial-push p n f (term s.0 (suc c)) i
          (EachMonomial-implied (IsFrom n sides (suc k)) (λ m. monomial_order s.0 m ≡ Less) (below is) f each)
          is.variables (omega arith) small,
    )
  where
    below : IsAt n sides k s.0 → (m : Monomial) → IsFrom n sides (suc k) m → monomial_order s.0 m ≡ Less
    below is m from =
        let place = is.place in
        let higher = from.2.place in
        lower_place sides s.0 m (is.variables ∙ sym from.2.variables) is.inside from.2.inside (omega (arith, from.1))

-- what the slots hold falls, and stands where it is counted
pub slots_fall : (p n : ℕ) (sides : List ℕ) (k : ℕ) (slots : List Term) → 0 < p → StandInOrder n sides k slots → EachMonomial (IsFrom n sides k) (from_slots p slots) × IsPolynomial p n (from_slots p slots)
slots_fall p n sides k [] positive order = (tt, tt)
slots_fall p n sides k (s ∷ slots) positive order =
    let rest = slots_fall p n sides (suc k) slots positive order.1 in
    one_more_slot p n sides k (s.1 % p) s (from_slots p slots) (mod-lt s.1 positive) (λ some. order.0 (some_of_remainder s.1 p positive some)) rest.0 rest.1

-- and has the sums of the slots
pub slots_sums : (p : ℕ) (slots : List Term) → SameSums p (from_slots p slots) slots
slots_sums p [] = SameSums-refl p []
slots_sums p (s ∷ slots) =
    SameSums-trans p (from_slots p slots ++ with_first (term s.0 (s.1 % p)) []) (slots ++ s ∷ []) (s ∷ slots)
    (SameSums-append p (from_slots p slots) (with_first (term s.0 (s.1 % p)) []) slots (s ∷ [])
    (slots_sums p slots)
    (SameSums-trans p (with_first (term s.0 (s.1 % p)) []) (term s.0 (s.1 % p) ∷ []) (s ∷ []) (kept (s.1 % p)) (SameSums-reduced p s.0 s.1 [])))
    (SameSums-append_comm p slots (s ∷ []))
  where
    kept : (c : ℕ) → SameSums p (with_first (term s.0 c) []) (term s.0 c ∷ [])
    kept zero = SameSums-sym p (term s.0 0 ∷ []) [] (SameSums-zero p s.0 [])
    kept (suc c) = SameSums-refl p (term s.0 (suc c) ∷ [])
