-- Lists that are made item by item, and what holds of each of their items.
use Rattle.std.proofs.Common.{◌≡◌, ℕ, zero, suc, ◌+◌, ◌≤◌, List, [], ◌∷◌, ◌++◌, length, map, take, drop, append_assoc, append-nil, Some, sym, ap, ◌∙◌, arith}
use Rattle.std.specs.List.{slice_get}
use Rattle.std.proofs.Math.ListN.{drop_of_length-le}
use Rattle.item_lists.proofs.Places.{drop_at}

-- one more of the first items
pub take_more : {X : Type 0} (xs : List X) (i : ℕ) (x : X) → slice_get xs i ≡ Some x → take (i + 1) xs ≡ take i xs ++ x ∷ []
take_more xs i x e = ap (λ k. take k xs) (one_more i) ∙ go xs i x e
  where
    one_more : (k : ℕ) → k + 1 ≡ suc k
    one_more k = omega arith

    go : {X : Type 0} (xs : List X) (i : ℕ) (x : X) → slice_get xs i ≡ Some x → take (suc i) xs ≡ take i xs ++ x ∷ []
    go [] i x e = cc
    go (y ∷ xs) zero x e = let same : y ≡ x = cc in ap (λ z. z ∷ []) same
    go (y ∷ xs) (suc i) x e = ap (λ zs. y ∷ zs) (go xs i x e)

module _ {X Y : Type 0} (g : X → Y) (xs : List X) (i : ℕ) (out all : List Y) where
  -- one more is mapped
  pub mapped_more : (x : X) (longer : List Y) → slice_get xs i ≡ Some x → longer ≡ out ++ g x ∷ [] → out ++ map g (drop i xs) ≡ all → longer ++ map g (drop (i + 1) xs) ≡ all
  mapped_more x longer at is whole = ap (λ zs. zs ++ map g (drop (i + 1) xs)) is ∙ append_assoc out (g x ∷ []) (map g (drop (i + 1) xs)) ∙ ap (λ zs. out ++ map g zs) (sym (drop_at xs i x at)) ∙ whole

  -- at the end all are
  pub mapped_all : length xs ≤ i → out ++ map g (drop i xs) ≡ all → out ≡ all
  mapped_all end whole = sym (append-nil out) ∙ sym (ap (λ zs. out ++ map g zs) (drop_of_length-le xs end)) ∙ whole
