-- Lists of which some item meets a property.
use Rattle.std.proofs.Common.{◌⊎◌, inl, inr, zero, suc, List, [], ◌∷◌, ◌++◌, refl, sym, subst, arith}
use Rattle.std.proofs.lemmas.List.Elements.{Contains-append_left, Contains-append_right}
use Rattle.std.specs.List.{Any}

module _ {A : Type 0} (P : A → Type 0) where
  -- the first
  pub some_first : (x : A) (xs : List A) → P x → Any P (x ∷ xs)
  some_first x xs holds = (0, x, omega arith, refl, holds)

  -- one of the first list
  pub some_left : (xs ys : List A) → Any P xs → Any P (xs ++ ys)
  some_left xs ys (k, x, below, same, holds) =
      let has = Contains-append_left xs ys x (k, below, same) in
      (has.0, x, has.1, has.2, holds)

  -- one of the second
  pub some_right : (xs ys : List A) → Any P ys → Any P (xs ++ ys)
  some_right xs ys (k, y, below, same, holds) =
      let has = Contains-append_right xs ys y (k, below, same) in
      (has.0, y, has.1, has.2, holds)

  -- of an empty list there is none
  pub some_nowhere : Any P [] → ⊥
  some_nowhere (k, x, below, same, holds) = absurd (omega arith)

  -- of other lists it is the first or one of those after it
  pub some_cases : (x : A) (xs : List A) → Any P (x ∷ xs) → P x ⊎ Any P xs
  some_cases x xs (zero, y, below, same, holds) = inl (subst P (sym same) holds)
  some_cases x xs (suc k, y, below, same, holds) = inr (k, y, omega arith, same, holds)
