-- The item that words begin with is the only one.
use Rattle.std.proofs.Common.{◌≡◌, ℕ, suc, List, [], ◌∷◌, ◌++◌, length, refl, sym, ap₂, subst, inl, inr, arith, length-append}
use Rattle.std.proofs.Math.Seq.{get_or-append_seam}
use Rattle.tri_io.specs.Commands.{Item, flag, single_word, Begins}
use Rattle.tri_io.specs.Texts.{HasNoEquals}

-- a plain name has no part that is
plain_tail : (b : ℕ) (bs : List ℕ) → HasNoEquals (b ∷ bs) → HasNoEquals bs
plain_tail b bs plain = λ k d below. plain (suc k) d (omega arith)

-- what holds an equals sign isn't plain
pub not_plain : (name value : List ℕ) → HasNoEquals (name ++ (61 ∷ value)) → ⊥
not_plain name value plain =
    plain (length name) 0 (omega (arith, length-append name (61 ∷ value))) (get_or-append_seam name 61 value 0)

-- a text falls in one way into a plain name, an equals sign and what follows
parts_same : (m n v w : List ℕ) → HasNoEquals m → HasNoEquals n → m ++ (61 ∷ v) ≡ n ++ (61 ∷ w) → (m ≡ n) × (v ≡ w)
parts_same [] [] v w p q e = (refl, cc)
parts_same [] (b ∷ n) v w p q e =
    let first : 61 ≡ b = cc in absurd (q 0 0 (omega arith) (sym first))
parts_same (a ∷ m) [] v w p q e =
    let first : a ≡ 61 = cc in absurd (p 0 0 (omega arith) first)
parts_same (a ∷ m) (b ∷ n) v w p q e =
    let first : a ≡ b = cc in
    let rest : m ++ (61 ∷ v) ≡ n ++ (61 ∷ w) = cc in
    let tails = parts_same m n v w (plain_tail a m p) (plain_tail b n q) rest in
    (ap₂ ◌∷◌ first tails.0, tails.1)

-- items of one name and one value are one
item_same : (a b : Item) → a.name ≡ b.name → a.value ≡ b.value → a ≡ b
item_same a b name value = let make : List ℕ → List ℕ → Item = λ n v. record { name = n; value = v } in ap₂ make name value

-- an option with its value in one word is no flag
single__not_flag : (a b : Item) → HasNoEquals b.name → single_word a ≡ flag b → ⊥
single__not_flag a b plain e =
    let text : a.name ++ (61 ∷ a.value) ≡ b.name = cc in
    not_plain a.name a.value (let P : List ℕ → Type 0 = λ t. HasNoEquals t in subst P (sym text) plain)

-- words begin with one item of a plain name
pub begins_same : (words : List (List ℕ)) (a b : Item) (r s : List (List ℕ)) → HasNoEquals a.name → HasNoEquals b.name
    → Begins words a r → Begins words b s → (a ≡ b) × (r ≡ s)
begins_same words a b r s p q (inl x) (inl y) =
    let text : a.name ++ (61 ∷ a.value) ≡ b.name ++ (61 ∷ b.value) = cc in
    let parts = parts_same a.name b.name a.value b.value p q text in
    (item_same a b parts.0 parts.1, cc)
begins_same words a b r s p q (inl x) (inr y) = absurd (single__not_flag a b q cc)
begins_same words a b r s p q (inr x) (inl y) = absurd (single__not_flag b a p cc)
begins_same words a b r s p q (inr x) (inr y) =
    let name : a.name ≡ b.name = cc in
    let value : a.value ≡ b.value = cc in
    (item_same a b name value, cc)
