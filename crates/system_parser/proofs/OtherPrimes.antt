-- Numbers that are no prime of the table.
use Rattle.std.proofs.Common.{◌≡◌, ℕ, Bool, true, false, cond, ltb, eqb, List, length, Some, None, Err, Result, refl, sym, ap, ◌∙◌}
use Rattle.std.specs.List.{Contains, list_any}
use Rattle.std.specs.Str.Parse.{digits_value}
use Rattle.std.proofs.lemmas.Bool.{false_from_ne_true}
use Rattle.std.proofs.lemmas.Option.{same_Some}
use Rattle.polynomials.specs.Primes.{field_primes}
use Rattle.system_text.specs.Tokens.{Placed, Number}
use Rattle.system_text.specs.Faults.{Fault, fault}
use Rattle.system_text.specs.Limits.{most_digits}
use Rattle.system_text.specs.Heads.{at_end, prime_number}
use Rattle.system_text.proofs.Lookups.{contains_from_test}
use Rattle.system_parser.specs.Numbers.{number_read}

-- what isn't there isn't found
not_found : (ys : List ℕ) (x : ℕ) → (Contains ys x → ⊥) → list_any (eqb x) ys ≡ false
not_found ys x h = false_from_ne_true (list_any (eqb x) ys) (λ e. h (contains_from_test ys x e))

-- the number of a prime line that is no prime of the table
pub other_prime : (t : Placed) (digits : List ℕ) (ts : List Placed) (p : ℕ) → Some p ≡ number_read digits → (Contains field_primes p → ⊥) → prime_number t (Number digits) ts ≡ Err (fault 3 t.first)
other_prime t digits ts p read other = by_length (ltb most_digits (length digits)) refl read
  where
    last_test : (b : Bool) → b ≡ false → cond {A = Result ℕ Fault} b (at_end 2 (digits_value 10 digits) ts) (Err (fault 3 t.first)) ≡ Err (fault 3 t.first)
    last_test b e = ap (λ c. cond {A = Result ℕ Fault} c (at_end 2 (digits_value 10 digits) ts) (Err (fault 3 t.first))) e

    by_length : (b : Bool) → ltb most_digits (length digits) ≡ b → Some p ≡ cond b None (Some (digits_value 10 digits)) → prime_number t (Number digits) ts ≡ Err (fault 3 t.first)
    by_length true e is = cc
    by_length false e is =
        ap (λ c. cond c (Err (fault 9 t.first)) (cond (list_any (eqb (digits_value 10 digits)) field_primes) (at_end 2 (digits_value 10 digits) ts) (Err (fault 3 t.first)))) e
        ∙ last_test (list_any (eqb (digits_value 10 digits)) field_primes) (ap (λ n. list_any (eqb n) field_primes) (sym (same_Some p (digits_value 10 digits) is)) ∙ not_found field_primes p other)
