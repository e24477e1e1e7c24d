-- Quotients of each entry, from the first on.
use Rattle.std.proofs.Common.{◌≡◌, ◌+◌, ℕ, List, [], ◌∷◌, ◌++◌, drop, Option, Some, None, refl, ap, ◌∙◌}
use Rattle.std.specs.List.{slice_get}
use Rattle.division_rules.specs.Operations.{Operations}
use Rattle.division_rules.specs.Within.{and_then}
use Rattle.division_rules.specs.RemainderRows.{both, quotients}
use Rattle.pseudo_division.proofs.Lists.{drop_at, in_front, IsMade, made_more, made_none}

both_in_front : {A : Type 0} (x : Option A) (xs : Option (List A)) → both x xs ≡ in_front x xs
both_in_front None xs = refl
both_in_front (Some x) None = refl
both_in_front (Some x) (Some xs) = refl

module _ {A : Type 0} (o : Operations A) (w : ℕ) (b : A) (cs : List A) (i : ℕ) (c : A) (at : slice_get cs i ≡ Some c) (made : List A) where
  -- what is to come begins with the quotient of the entry at i
  quotients_there : IsMade (quotients o w b cs) made (quotients o w b (drop i cs)) → IsMade (quotients o w b cs) made (in_front (o.views.quotient w c b) (quotients o w b (drop (i + 1) cs)))
  quotients_there h =
      h
      ∙ ap (λ xs. and_then (quotients o w b xs) (λ zs. Some (made ++ zs))) (drop_at cs i c at)
      ∙ ap (λ xs. and_then xs (λ zs. Some (made ++ zs))) (both_in_front (o.views.quotient w c b) (quotients o w b (drop (i + 1) cs)))

  -- one more quotient
  pub quotients_more : (x : A) → o.views.quotient w c b ≡ Some x → IsMade (quotients o w b cs) made (quotients o w b (drop i cs)) → IsMade (quotients o w b cs) (made ++ x ∷ []) (quotients o w b (drop (i + 1) cs))
  quotients_more x e h = made_more (quotients o w b cs) made (o.views.quotient w c b) (quotients o w b (drop (i + 1) cs)) x e (quotients_there h)

  -- an entry without a quotient
  pub quotients_none : o.views.quotient w c b ≡ None → IsMade (quotients o w b cs) made (quotients o w b (drop i cs)) → quotients o w b cs ≡ None
  quotients_none e h = made_none (quotients o w b cs) made (o.views.quotient w c b) (quotients o w b (drop (i + 1) cs)) e (quotients_there h)
