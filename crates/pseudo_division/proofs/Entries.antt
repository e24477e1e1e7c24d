-- Differences and products of each entry, from the first on.
use Rattle.std.proofs.Common.{◌≡◌, ◌+◌, ℕ, List, [], ◌∷◌, ◌++◌, drop, Some, None, ap, ap₂, ◌∙◌}
use Rattle.std.specs.List.{slice_get}
use Rattle.item_lists.proofs.Places.{drop_at}
use Rattle.division_rules.specs.Operations.{Operations}
use Rattle.division_rules.specs.Within.{and_then, times_within, cross_within, cross_all_within, times_all_within}
use Rattle.pseudo_division.proofs.Lists.{in_front, IsMade, made_more, made_none}

module _ {A : Type 0} (o : Operations A) (w : ℕ) (l : A) (cs : List A) (i : ℕ) (c : A) (at_c : slice_get cs i ≡ Some c) (made : List A) where
  -- what is to come of products begins with that of the entry at i
  products_there : IsMade (times_all_within o w l cs) made (times_all_within o w l (drop i cs)) → IsMade (times_all_within o w l cs) made (in_front (times_within o w l c) (times_all_within o w l (drop (i + 1) cs)))
  products_there h = h ∙ ap (λ xs. and_then (times_all_within o w l xs) (λ zs. Some (made ++ zs))) (drop_at cs i c at_c)

  pub times_all_more : (x : A) → times_within o w l c ≡ Some x → IsMade (times_all_within o w l cs) made (times_all_within o w l (drop i cs)) → IsMade (times_all_within o w l cs) (made ++ x ∷ []) (times_all_within o w l (drop (i + 1) cs))
  times_all_more x e h = made_more (times_all_within o w l cs) made (times_within o w l c) (times_all_within o w l (drop (i + 1) cs)) x e (products_there h)

  pub times_all_none : times_within o w l c ≡ None → IsMade (times_all_within o w l cs) made (times_all_within o w l (drop i cs)) → times_all_within o w l cs ≡ None
  times_all_none e h = made_none (times_all_within o w l cs) made (times_within o w l c) (times_all_within o w l (drop (i + 1) cs)) e (products_there h)

  module _ (m : A) (ds : List A) (d : A) (at_d : slice_get ds i ≡ Some d) where
    -- what is to come of differences begins with that of the entries at i
    differences_there : IsMade (cross_all_within o w l m cs ds) made (cross_all_within o w l m (drop i cs) (drop i ds)) → IsMade (cross_all_within o w l m cs ds) made (in_front (cross_within o w l m c d) (cross_all_within o w l m (drop (i + 1) cs) (drop (i + 1) ds)))
    differences_there h = h ∙ ap₂ (λ xs ys. and_then (cross_all_within o w l m xs ys) (λ zs. Some (made ++ zs))) (drop_at cs i c at_c) (drop_at ds i d at_d)

    pub cross_all_more : (x : A) → cross_within o w l m c d ≡ Some x → IsMade (cross_all_within o w l m cs ds) made (cross_all_within o w l m (drop i cs) (drop i ds)) → IsMade (cross_all_within o w l m cs ds) (made ++ x ∷ []) (cross_all_within o w l m (drop (i + 1) cs) (drop (i + 1) ds))
    cross_all_more x e h = made_more (cross_all_within o w l m cs ds) made (cross_within o w l m c d) (cross_all_within o w l m (drop (i + 1) cs) (drop (i + 1) ds)) x e (differences_there h)

    pub cross_all_none : cross_within o w l m c d ≡ None → IsMade (cross_all_within o w l m cs ds) made (cross_all_within o w l m (drop i cs) (drop i ds)) → cross_all_within o w l m cs ds ≡ None
    cross_all_none e h = made_none (cross_all_within o w l m cs ds) made (cross_within o w l m c d) (cross_all_within o w l m (drop (i + 1) cs) (drop (i + 1) ds)) e (differences_there h)
