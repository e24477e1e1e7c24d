-- Rows with cofactors at a point where their generators are zero.
use Rattle.std.proofs.Common.{◌≡◌, List, [], ◌∷◌, length, get_or, sym, ap, ap₂, ◌∙◌}
use Rattle.polynomials.proofs.RingLaws.{nil-plus, plus-nil, times-nil}
use Rattle.division_rules.specs.Rows.{Row, combined}
use Rattle.division_rules.specs.Units.{IsCombinationOf}
use Rattle.division_rules.specs.Cofactors.{first_cofactor}
use Rattle.division_rules.proofs.Settings.{ViewedRing, operations, Evaluation, IsZero}
use Rattle.division_rules.proofs.RowsFree.{EachOf}

module _ {A B : Type 0} (P : ViewedRing A) (E : Evaluation P B) where
  open E.values use {◌⊕◌, ◌⊗◌, nil}
  open E use {val}

  -- a combination of what is zero is zero
  pub combined_zero : (cs gs : List A) → EachOf (IsZero P E) gs → IsZero P E (combined (operations P) cs gs)
  combined_zero [] gs zeros = E.is_value.val-nil
  combined_zero (c ∷ cs) [] zeros = E.is_value.val-nil
  combined_zero (c ∷ cs) (g ∷ gs) zeros = E.is_value.val-plus (P.ring.◌⊗◌ c g) (combined (operations P) cs gs) ∙ ap₂ ◌⊕◌ (E.is_value.val-times c g ∙ ap (λ x. val c ⊗ x) zeros.0 ∙ times-nil E.values (val c)) (combined_zero cs gs zeros.1) ∙ nil-plus E.values nil

  -- so a row is zero where its generators are, whatever the leads of other rows are
  pub combination_zero : (gs : List A) (f : Row A) → IsCombinationOf (operations P) gs f → EachOf (IsZero P E) gs → IsZero P E f.first
  combination_zero gs f h zeros = ap val h.identity ∙ combined_zero f.cofactors gs zeros

  -- where all generators but the first are zero, the value of a row is that of its first cofactor times
  -- that of the first generator
  pub val-first_product : (c : A) (gs : List A) (f : Row A) → IsCombinationOf (operations P) (c ∷ gs) f → EachOf (IsZero P E) gs → val f.first ≡ val (first_cofactor (operations P) f) ⊗ val c
  val-first_product c gs f h zeros = ap val h.identity ∙ go f.cofactors h.one_each
    where
      go : (cs : List A) → length cs ≡ length (c ∷ gs) → val (combined (operations P) cs (c ∷ gs)) ≡ val (get_or cs 0 P.ring.nil) ⊗ val c
      go [] same = cc
      go (d ∷ cs) same = E.is_value.val-plus (P.ring.◌⊗◌ d c) (combined (operations P) cs gs) ∙ ap₂ ◌⊕◌ (E.is_value.val-times d c) (combined_zero cs gs zeros) ∙ plus-nil E.values (val d ⊗ val c)

  -- so in a zero row that product is zero
  pub first_product_zero : (c : A) (gs : List A) (z : Row A) → IsCombinationOf (operations P) (c ∷ gs) z → EachOf (IsZero P E) gs → z.first ≡ P.ring.nil → val (first_cofactor (operations P) z) ⊗ val c ≡ nil
  first_product_zero c gs z h zeros null = sym (val-first_product c gs z h zeros) ∙ ap val null ∙ E.is_value.val-nil
