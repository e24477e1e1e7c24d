-- Lists that are made entry by entry, and end where an entry isn't there.
use Rattle.std.proofs.Common.{◌≡◌, List, [], ◌∷◌, ◌++◌, Option, Some, None, refl, sym, ap, ◌∙◌, append_assoc}
pub use Rattle.item_lists.proofs.Places.{drop_at}
pub use Rattle.polynomials.proofs.PolynomialLists.{IsPolynomial-at}
use Rattle.division_rules.specs.Within.{and_then}

module _ {A : Type 0} where
  -- an entry and the later ones, where there are all of them
  abbrev pub in_front : Option A → Option (List A) → Option (List A)
  in_front x xs = and_then x (λ y. and_then xs (λ ys. Some (y ∷ ys)))

  -- the whole is what was made and what is to come
  abbrev pub IsMade : Option (List A) → List A → Option (List A) → Type 0
  IsMade whole made rest = whole ≡ and_then rest (λ xs. Some (made ++ xs))

  -- one more entry
  pub made_more : (whole : Option (List A)) (made : List A) (first : Option A) (rest : Option (List A)) (x : A) → first ≡ Some x → IsMade whole made (in_front first rest) → IsMade whole (made ++ x ∷ []) rest
  made_more whole made first rest x e h = h ∙ (ap (λ y. and_then (in_front y rest) (λ xs. Some (made ++ xs))) e ∙ go rest)
    where
      go : (rest : Option (List A)) → and_then (in_front (Some x) rest) (λ xs. Some (made ++ xs)) ≡ and_then rest (λ xs. Some ((made ++ x ∷ []) ++ xs))
      go None = refl
      go (Some ys) = ap Some (sym (append_assoc made (x ∷ []) ys))

  -- an entry that isn't there
  pub made_none : (whole : Option (List A)) (made : List A) (first : Option A) (rest : Option (List A)) → first ≡ None → IsMade whole made (in_front first rest) → whole ≡ None
  made_none whole made first rest e h = h ∙ ap (λ y. and_then (in_front y rest) (λ xs. Some (made ++ xs))) e
