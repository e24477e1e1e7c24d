-- Tests whether a list has a number or a text.
use Rattle.std.proofs.Common.{◌≡◌, ℕ, ◌≤◌, true, false, eqb, List, [], ◌∷◌, ◌++◌, refl, ◌∙◌, arith}
use Rattle.std.proofs.lemmas.Bool.{eqb-true, or_from}
use Rattle.std.proofs.lemmas.Cmp.{nat_eq_equiv, nat_list_eq_equiv}
use Rattle.std.proofs.lemmas.List.Elements.{All-from_recursion, All-contains}
use Rattle.std.proofs.lemmas.Map.Views.{Contains-from_any, list_any-from_Contains}
use Rattle.std.specs.List.{AllByRecursion, IsDistinct, list_any}
use Rattle.std.specs.Prelude.{Contains}
use Rattle.std.specs.Str.{bytes_eq}
use Rattle.polynomials.specs.Primes.{field_primes}

-- the test for a number in a list
pub contains_from_test : (xs : List ℕ) (x : ℕ) → list_any (eqb x) xs ≡ true → Contains xs x
contains_from_test xs x = Contains-from_any eqb-true x xs

pub test_from_contains : (xs : List ℕ) (x : ℕ) → Contains xs x → list_any (eqb x) xs ≡ true
test_from_contains xs x = list_any-from_Contains nat_eq_equiv x xs

-- the primes have five digits at most
pub field_primes_small : (p : ℕ) → Contains field_primes p → p ≤ 65537
field_primes_small p h = All-contains (λ q. q ≤ 65537) field_primes p (All-from_recursion (λ q. q ≤ 65537) field_primes (omega arith)) h

-- what holds of each item holds of one among them
pub among : (P : List ℕ → Type 0) (xs : List (List ℕ)) (x : List ℕ) (ys : List (List ℕ)) → AllByRecursion P (xs ++ x ∷ ys) → P x
among P [] x ys h = h.0
among P (y ∷ xs) x ys h = among P xs x ys h.1

-- a text is different from those before it
pub different_from_front : (xs : List (List ℕ)) (x : List ℕ) (ys : List (List ℕ)) → IsDistinct bytes_eq (xs ++ x ∷ ys) → list_any (bytes_eq x) xs ≡ false
unfolding IsDistinct
different_from_front [] x ys h = refl
different_from_front (y ∷ xs) x ys h = or_from (bytes_eq x y) (list_any (bytes_eq x) xs) (nat_list_eq_equiv.symm x y ∙ among (λ z. bytes_eq y z ≡ false) xs x ys h.0) (different_from_front xs x ys h.1)
