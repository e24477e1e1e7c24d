-- Lists of which some items are taken, in order, and members that are looked for.
use Rattle.std.proofs.Common.{◌≡◌, ℕ, ◌+◌, List, [], ◌∷◌, ◌++◌, drop, append_assoc, Some, sym, ap, ◌∙◌}
use Rattle.std.specs.Prelude.{slice_get}
use Rattle.item_lists.proofs.Places.{drop_at}

module _ {X : Type 0} (taken : List X → List X) (all : List X) (xs out : List X) (i : ℕ) where
  -- one more is taken
  pub takes_more : (longer : List X) (x y : X) → slice_get xs i ≡ Some x → taken (x ∷ drop (i + 1) xs) ≡ x ∷ taken (drop (i + 1) xs) → y ≡ x → longer ≡ out ++ y ∷ [] → out ++ taken (drop i xs) ≡ all → longer ++ taken (drop (i + 1) xs) ≡ all
  takes_more longer x y at takes same is whole = ap (λ zs. zs ++ taken (drop (i + 1) xs)) (is ∙ ap (λ z. out ++ z ∷ []) same) ∙ append_assoc out (x ∷ []) (taken (drop (i + 1) xs)) ∙ ap (λ zs. out ++ zs) (sym (ap taken (drop_at xs i x at) ∙ takes)) ∙ whole

  -- or passed over
  pub takes_none : (same_out : List X) (x : X) → slice_get xs i ≡ Some x → taken (x ∷ drop (i + 1) xs) ≡ taken (drop (i + 1) xs) → same_out ≡ out → out ++ taken (drop i xs) ≡ all → same_out ++ taken (drop (i + 1) xs) ≡ all
  takes_none same_out x at passes is whole = ap (λ zs. zs ++ taken (drop (i + 1) xs)) is ∙ ap (λ zs. out ++ zs) (sym (ap taken (drop_at xs i x at) ∙ passes)) ∙ whole

module _ {X Y : Type 0} (look : List X → Y) (xs : List X) (i : ℕ) where
  -- what is looked for from a place on
  pub looks_on : (x : X) (y : Y) → slice_get xs i ≡ Some x → look (x ∷ drop (i + 1) xs) ≡ y → look (drop i xs) ≡ look xs → y ≡ look xs
  looks_on x y at here whole = sym here ∙ sym (ap look (drop_at xs i x at)) ∙ whole
