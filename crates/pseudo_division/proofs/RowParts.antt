-- A row of results, by its first entry and its cofactors.
use Rattle.std.proofs.Common.{◌≡◌, ℕ, List, Option, Some, None, sym, ap, ap₂, ◌∙◌}
use Rattle.division_rules.specs.Operations.{Operations, lead, shifted_lead}
use Rattle.division_rules.specs.Rows.{Row}
use Rattle.division_rules.specs.Within.{times_within, cross_within, cross_all_within, row_within, elimination_within, times_all_within, times_row_within}

module _ {A : Type 0} (o : Operations A) (w : ℕ) where
  -- a row by its parts
  pub row_without_first : (x : Option A) (xs : Option (List A)) → x ≡ None → None ≡ row_within o w x xs
  row_without_first x xs e = ap (λ y. row_within o w y xs) (sym e)

  pub row_without_cofactors : (x : Option A) (xs : Option (List A)) (f : A) → x ≡ Some f → xs ≡ None → None ≡ row_within o w x xs
  row_without_cofactors x xs f e d = ap₂ (row_within o w) (sym e) (sym d)

  pub row_with_both : (x : Option A) (xs : Option (List A)) (f : A) (cs : List A) → x ≡ Some f → xs ≡ Some cs → Some (record { first = f; cofactors = cs }) ≡ row_within o w x xs
  row_with_both x xs f cs e d = ap₂ (row_within o w) (sym e) (sym d)

  -- an elimination, by the leads and the entries
  pub elimination_within-parts : (v : ℕ) (f g : Row A) (a b : A) (cs ds : List A) (l m : A) → record { first = a; cofactors = cs } ≡ f → record { first = b; cofactors = ds } ≡ g → l ≡ lead o v b → m ≡ shifted_lead o v a b → row_within o w (cross_within o w l m a b) (cross_all_within o w l m cs ds) ≡ elimination_within o w v f g
  elimination_within-parts v f g a b cs ds l m f_is g_is l_is m_is =
      ap₂ (λ x y. row_within o w (cross_within o w x y a b) (cross_all_within o w x y cs ds)) l_is m_is
      ∙ ap₂ (elimination_within o w v) f_is g_is

  -- a multiple, by the entries
  pub times_row_within-parts : (l : A) (f : Row A) (a : A) (cs : List A) → record { first = a; cofactors = cs } ≡ f → row_within o w (times_within o w l a) (times_all_within o w l cs) ≡ times_row_within o w l f
  times_row_within-parts l f a cs f_is = ap (times_row_within o w l) f_is
