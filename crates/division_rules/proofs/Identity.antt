-- Each step keeps the identity of a row: it is the combination of its cofactors and the generators.
use Rattle.std.proofs.Common.{◌≡◌, ◌≢◌, ℕ, suc, ◌+◌, List, [], ◌∷◌, ◌++◌, length, map, replicate, Option, Some, None, refl, sym, ap, ap₂, subst, ◌∙◌, length-append, append_assoc, arith}
use Rattle.std.proofs.lemmas.List.{length-replicate}
use Rattle.std.proofs.lemmas.Option.{same_Some}
use Rattle.polynomials.proofs.RingLaws.{times_comm, times_cancel_left, nil-plus, plus-nil, one-times}
use Rattle.division_rules.specs.Operations.{lead, shifted_lead}
use Rattle.division_rules.specs.Rows.{Row, combined, cross_rows, elimination, sparse_remainder, turns, times_row, pseudo_remainder, reduction}
use Rattle.division_rules.specs.Units.{IsCombinationOf, unit_rows, entrywise_sum}
use Rattle.division_rules.specs.RemainderRows.{both, row_of, quotients, divided}
use Rattle.division_rules.specs.Chains.{EachRow}
use Rattle.division_rules.proofs.Settings.{ViewedRing, operations}
use Rattle.division_rules.proofs.Combinations.{length-entrywise_sum, combined-entrywise_sum, combined-times, combined-cross_all, length-cross_all, combined-zeros, combined-append}
use Rattle.division_rules.proofs.Steps.{sparse_remainder_by-keeps, pseudo_remainder_by-keeps, reduction-keeps, Keeps, EachRow-map}

-- a list that is there has its head and its tail there
pub both-some : {A : Type 0} (a : Option A) (ys : Option (List A)) (qs : List A) → both a ys ≡ Some qs → (q : A) × (rest : List A) × (a ≡ Some q) × (ys ≡ Some rest) × (qs ≡ q ∷ rest)
both-some None ys qs e = cc
both-some (Some x) None qs e = cc
both-some (Some x) (Some ys) qs e = (x, ys, refl, refl, sym (same_Some (x ∷ ys) qs e))

-- a row that is there has its entries there
pub row_of-some : {A : Type 0} (a : Option A) (ys : Option (List A)) (h : Row A) → row_of a ys ≡ Some h → (a ≡ Some h.first) × (ys ≡ Some h.cofactors)
row_of-some None ys h e = cc
row_of-some (Some x) None h e = cc
row_of-some (Some x) (Some ys) h e =
    let same = same_Some (record { first = x; cofactors = ys }) h e in
    (ap (λ (t : Row _). Some t.first) same, ap (λ (t : Row _). Some t.cofactors) same)

-- a list keeps its length where each element is replaced
pub length-map_by : {A B : Type 0} (f : A → B) (xs : List A) → length (map f xs) ≡ length xs
length-map_by f [] = refl
length-map_by f (x ∷ xs) = ap suc (length-map_by f xs)

module _ {A : Type 0} (P : ViewedRing A) where
  open P.ring use {◌⊕◌, ◌⊗◌, nil, one, neg}
  open P.views use {main}

  module _ (gs : List A) where
    -- combinations of the generators
    abbrev Holds : Row A → Type 0
    Holds f = IsCombinationOf (operations P) gs f

    -- l f - m g of two rows
    pub combination-cross_rows : (l m : A) (f g : Row A) → Holds f → Holds g → Holds (cross_rows (operations P) l m f g)
    combination-cross_rows l m f g hf hg = record {
      one_each = length-cross_all P.ring P.views l m f.cofactors g.cofactors same ∙ hf.one_each;
      identity = ap₂ (λ x y. l ⊗ x ⊕ neg (m ⊗ y)) hf.identity hg.identity ∙ sym (combined-cross_all P.ring P.views l m f.cofactors g.cofactors gs same);
    }
      where
        same : length f.cofactors ≡ length g.cofactors
        same = hf.one_each ∙ sym hg.one_each

    -- a multiple of a row
    pub combination-times_row : (l : A) (f : Row A) → Holds f → Holds (times_row (operations P) l f)
    combination-times_row l f h = record {
      one_each = length-map_by (◌⊗◌ l) f.cofactors ∙ h.one_each;
      identity = ap (λ x. l ⊗ x) h.identity ∙ sym (combined-times P.ring P.views l f.cofactors gs);
    }

    -- an elimination
    pub combination-elimination : (v : ℕ) (f g : Row A) → Holds f → Holds g → Holds (elimination (operations P) v f g)
    combination-elimination v f g = combination-cross_rows (lead (operations P) v g.first) (shifted_lead (operations P) v f.first g.first) f g

    -- the remainders
    pub combination-sparse_remainder : (v : ℕ) (f g : Row A) → Holds f → Holds g → Holds (sparse_remainder (operations P) v f g)
    combination-sparse_remainder v f g hf hg = sparse_remainder_by-keeps P Holds v g (λ x e h. combination-elimination v x g h hg) (turns (operations P) v f.first g.first) f hf

    -- the pseudo-remainder
    pub combination-pseudo_remainder : (v : ℕ) (f g : Row A) → Holds f → Holds g → Holds (pseudo_remainder (operations P) v f g)
    combination-pseudo_remainder v f g hf hg = pseudo_remainder_by-keeps P Holds v g (λ x e h. combination-elimination v x g h hg) (λ x e h. combination-times_row (lead (operations P) v g.first) x h) (turns (operations P) v f.first g.first) f hf

    -- the reduction by a chain of such rows
    pub combination-reduction : (chain : List (Row A)) → EachRow Holds chain → (f : Row A) → Holds f → Holds (reduction (operations P) chain f)
    combination-reduction chain each = reduction-keeps P Holds chain (EachRow-map Holds (Keeps P Holds) chain (λ t ht f e h. combination-elimination (main t.first) f t h ht) each)

    -- quotients by b, times b, are what was divided
    pub quotients-times : (w : ℕ) (b : A) (cs qs : List A) → quotients (operations P) w b cs ≡ Some qs → map (◌⊗◌ b) qs ≡ cs
    quotients-times w b [] qs e = ap (map (◌⊗◌ b)) (sym (same_Some [] qs e))
    quotients-times w b (c ∷ cs) qs e =
        let parts = both-some (P.views.quotient w c b) (quotients (operations P) w b cs) qs e in
        ap (map (◌⊗◌ b)) parts.4 ∙ ap₂ ◌∷◌ (times_comm P.ring b parts.0 ∙ P.laws.quotient-sound w c b parts.0 parts.2) (quotients-times w b cs parts.1 parts.3)

    -- a row divided by what is not 0
    pub combination-divided : (w : ℕ) (b : A) (f h : Row A) → b ≢ nil → divided (operations P) w b f ≡ Some h → Holds f → Holds h
    combination-divided w b f h some e hf = record {
      one_each = sym (length-map_by (◌⊗◌ b) h.cofactors) ∙ ap length cofactors_are ∙ hf.one_each;
      identity = times_cancel_left P.ring P.laws.integral b h.first (combined (operations P) h.cofactors gs) some (first_is ∙ hf.identity ∙ ap (λ cs. combined (operations P) cs gs) (sym cofactors_are) ∙ combined-times P.ring P.views b h.cofactors gs);
    }
      where
        parts : (P.views.quotient w f.first b ≡ Some h.first) × (quotients (operations P) w b f.cofactors ≡ Some h.cofactors)
        parts = row_of-some (P.views.quotient w f.first b) (quotients (operations P) w b f.cofactors) h e

        first_is : b ⊗ h.first ≡ f.first
        first_is = times_comm P.ring b h.first ∙ P.laws.quotient-sound w f.first b h.first parts.0

        cofactors_are : map (◌⊗◌ b) h.cofactors ≡ f.cofactors
        cofactors_are = quotients-times w b f.cofactors h.cofactors parts.1

  -- a times a row, and the combination with the cofactors es added
  pub combination-composed : (gs : List A) (f : Row A) (a z : A) (es : List A) → IsCombinationOf (operations P) gs f → length es ≡ length gs → z ≡ a ⊗ f.first ⊕ combined (operations P) es gs → IsCombinationOf (operations P) gs (record { first = z; cofactors = entrywise_sum (operations P) (map (◌⊗◌ a) f.cofactors) es })
  combination-composed gs f a z es h lengths e = record {
    one_each = length-entrywise_sum P.ring P.views (map (◌⊗◌ a) f.cofactors) es same ∙ multiplied.one_each;
    identity = e ∙ ap (λ y. y ⊕ combined (operations P) es gs) multiplied.identity ∙ sym (combined-entrywise_sum P.ring P.views (map (◌⊗◌ a) f.cofactors) es gs same);
  }
    where
      multiplied : IsCombinationOf (operations P) gs (times_row (operations P) a f)
      multiplied = combination-times_row gs a f h

      same : length (map (◌⊗◌ a) f.cofactors) ≡ length es
      same = multiplied.one_each ∙ sym lengths

  -- each generator as a row is a combination of all, with itself alone
  pub combination-unit_rows : (before fs : List A) → EachRow (IsCombinationOf (operations P) (before ++ fs)) (unit_rows (operations P) (length before) fs)
  combination-unit_rows before [] = tt
  combination-unit_rows before (f ∷ fs) = (record { one_each = lengths; identity = sym itself }, subst (λ gs. EachRow (IsCombinationOf (operations P) gs) (unit_rows (operations P) (suc (length before)) fs)) (append_assoc before (f ∷ []) fs) (subst (λ n. EachRow (IsCombinationOf (operations P) ((before ++ f ∷ []) ++ fs)) (unit_rows (operations P) n fs)) one_more (combination-unit_rows (before ++ f ∷ []) fs)))
    where
      zeros : (n : ℕ) → length (replicate n nil) ≡ n
      zeros n = length-replicate n nil

      lengths : length (replicate (length before) nil ++ one ∷ replicate (length fs) nil) ≡ length (before ++ f ∷ fs)
      lengths = length-append (replicate (length before) nil) (one ∷ replicate (length fs) nil) ∙ ap₂ (λ a b. a + suc b) (zeros (length before)) (zeros (length fs)) ∙ sym (length-append before (f ∷ fs))

      one_more : length (before ++ f ∷ []) ≡ suc (length before)
      one_more = length-append before (f ∷ []) ∙ omega arith

      itself : combined (operations P) (replicate (length before) nil ++ one ∷ replicate (length fs) nil) (before ++ f ∷ fs) ≡ f
      itself = combined-append P.ring P.views (replicate (length before) nil) (one ∷ replicate (length fs) nil) before (f ∷ fs) (zeros (length before)) ∙ ap₂ (λ x y. x ⊕ (one ⊗ f ⊕ y)) (combined-zeros P.ring P.views (length before) before) (combined-zeros P.ring P.views (length fs) fs) ∙ nil-plus P.ring (one ⊗ f ⊕ nil) ∙ plus-nil P.ring (one ⊗ f) ∙ one-times P.ring f
