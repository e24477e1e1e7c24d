-- The place of a name among names.
use Rattle.std.proofs.Common.{◌≡◌, ℕ, zero, suc, ◌+◌, Bool, true, false, cond, ◌||◌, List, [], ◌∷◌, drop, map, Option, Some, refl, sym, ap, ◌∙◌, arith, add-one}
use Rattle.std.proofs.lemmas.Cmp.{nat_list_eq_equiv}
use Rattle.std.specs.List.{slice_get, list_any}
use Rattle.std.specs.Option.{is_some}
use Rattle.std.specs.Str.{bytes_eq}
use Rattle.std.proofs.lemmas.Option.{same_Some}
use Rattle.system_text.specs.Factors.{place_of_name}

-- from the place i on, the item at i comes first
pub drop_mapped : {A B : Type 0} (f : A → B) (xs : List A) (i : ℕ) (x : A) → slice_get xs i ≡ Some x → drop i (map f xs) ≡ f x ∷ drop (i + 1) (map f xs)
drop_mapped f [] i x e = cc
drop_mapped f (y ∷ xs) zero x e = ap (λ z. f z ∷ map f xs) (same_Some y x e)
drop_mapped f (y ∷ xs) (suc i) x e =
    let later : suc i + 1 ≡ suc (i + 1) = omega arith in
    rw later (drop_mapped f xs i x e)

-- the name at i is the one
pub place_here : (names : List (List ℕ)) (i : ℕ) (name x : List ℕ) (all : Option ℕ) → drop i names ≡ name ∷ drop (i + 1) names → bytes_eq name x ≡ true → place_of_name i (drop i names) x ≡ all → Some i ≡ all
place_here names i name x all here same whole =
    sym (ap (λ l. place_of_name i l x) here ∙ ap (λ t. cond t (Some i) (place_of_name (suc i) (drop (i + 1) names) x)) same) ∙ whole

-- it is another
pub place_later : (names : List (List ℕ)) (i : ℕ) (name x : List ℕ) (all : Option ℕ) → drop i names ≡ name ∷ drop (i + 1) names → bytes_eq name x ≡ false → place_of_name i (drop i names) x ≡ all → place_of_name (i + 1) (drop (i + 1) names) x ≡ all
place_later names i name x all here other whole =
    ap (λ j. place_of_name j (drop (i + 1) names) x) (add-one i)
    ∙ (sym (ap (λ l. place_of_name i l x) here ∙ ap (λ t. cond t (Some i) (place_of_name (suc i) (drop (i + 1) names) x)) other) ∙ whole)

found_by_test : (i : ℕ) (rest : Bool) (place : Option ℕ) (t u : Bool) → t ≡ u → is_some place ≡ rest → is_some (cond t (Some i) place) ≡ (u || rest)
found_by_test i rest place true u same e = ap (λ b. b || rest) same
found_by_test i rest place false u same e = e ∙ ap (λ b. b || rest) same

-- a name has a place where it is one of them
pub is_some-place_of_name : (i : ℕ) (names : List (List ℕ)) (x : List ℕ) → is_some (place_of_name i names x) ≡ list_any (bytes_eq x) names
is_some-place_of_name i [] x = refl
is_some-place_of_name i (name ∷ names) x =
    found_by_test i (list_any (bytes_eq x) names) (place_of_name (suc i) names x) (bytes_eq name x) (bytes_eq x name) (nat_list_eq_equiv.symm name x) (is_some-place_of_name (suc i) names x)
