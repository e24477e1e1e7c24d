-- Lists that are copied item by item.
use Rattle.std.proofs.Common.{◌≡◌, ◌+◌, ℕ, List, [], ◌∷◌, ◌++◌, drop, Some, sym, ap, ◌∙◌, append_assoc}
use Rattle.std.specs.List.{slice_get}
use Rattle.item_lists.proofs.Places.{drop_at}

-- one more copy of an item
pub copied_more : {X : Type 0} (xs out longer : List X) (i : ℕ) (x y : X) → slice_get xs i ≡ Some x → y ≡ x → longer ≡ out ++ y ∷ [] → out ++ drop i xs ≡ xs → longer ++ drop (i + 1) xs ≡ xs
copied_more xs out longer i x y at same is whole =
    ap (λ zs. zs ++ drop (i + 1) xs) is
    ∙ (append_assoc out (y ∷ []) (drop (i + 1) xs)
    ∙ (ap (λ z. out ++ (z ∷ drop (i + 1) xs)) same
    ∙ (ap (λ zs. out ++ zs) (sym (drop_at xs i x at)) ∙ whole)))
