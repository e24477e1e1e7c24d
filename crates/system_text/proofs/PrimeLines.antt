-- The prime line is read exactly where it spells a prime that is offered.
use Rattle.std.proofs.Common.{◌≡◌, ◌⊎◌, ℕ, ◌+◌, ◌^◌, ◌<◌, ◌≤◌, Bool, true, false, cond, ltb, eqb, List, [], ◌∷◌, length, Ok, Err, refl, ap, ◌∙◌, subst, inl, inr, arith}
use Rattle.std.proofs.Math.Nat.{pow-le-pow_right}
use Rattle.std.proofs.lemmas.Bool.{le-ltb, cases_lt}
use Rattle.std.specs.Prelude.{Contains, codes}
use Rattle.std.specs.List.{AllByRecursion, list_any}
use Rattle.std.specs.Str.Parse.{digits_value}
use Rattle.polynomials.specs.Primes.{field_primes}
use Rattle.system_text.specs.Tokens.{Token, Placed, Name, Number, tokens, unplaced}
use Rattle.system_text.specs.Faults.{fault}
use Rattle.system_text.specs.Limits.{most_digits}
use Rattle.system_text.specs.Heads.{at_end, word_first, prime_number, prime_from, and_then_read, read_prime}
use Rattle.system_text.specs.Systems.{SpellsPrime}
use Rattle.system_text.proofs.CharacterLemmas.{IsFull}
use Rattle.system_text.proofs.TokenTexts.{IsWellSpelled, line_is_well_spelled}
use Rattle.system_text.proofs.Lookups.{contains_from_test, test_from_contains, field_primes_small}
use Rattle.system_text.proofs.Passed.{ok_after_test, both_read}
use Rattle.system_text.proofs.HeadWords.{word_is_spelled, word_is_read}

-- the number of the prime line, as it is read
record IsPrimeNumber (xs : List Token) (p : ℕ) : Type 0 where
  digits : List ℕ
  spelled : xs ≡ Number digits ∷ []
  value : digits_value 10 digits ≡ p
  offered : Contains field_primes p

ends : {A : Type 0} (number : ℕ) (x y : A) (ts : List Placed) → at_end number x ts ≡ Ok y → (x ≡ y) × (unplaced ts ≡ [])
ends number x y [] e = (cc, refl)
ends number x y (t ∷ ts) e = absurd cc

prime_is_spelled : (end : ℕ) (ts : List Placed) (p : ℕ) → prime_from end ts ≡ Ok p → IsPrimeNumber (unplaced ts) p
prime_is_spelled end [] p e = absurd cc
prime_is_spelled end (t ∷ ts) p e = by_token t.token refl e
  where
    offered_then : (b : Bool) (digits : List ℕ) → cond b (at_end 2 (digits_value 10 digits) ts) (Err (fault 3 t.first)) ≡ Ok p → (b ≡ true) × (at_end 2 (digits_value 10 digits) ts ≡ Ok p)
    offered_then true digits k = (refl, k)
    offered_then false digits k = absurd cc

    by_token : (x : Token) → t.token ≡ x → prime_number t x ts ≡ Ok p → IsPrimeNumber (unplaced (t ∷ ts)) p
    by_token (Number digits) d k =
        let few = ok_after_test (ltb most_digits (length digits)) (fault 9 t.first) (cond (list_any (eqb (digits_value 10 digits)) field_primes) (at_end 2 (digits_value 10 digits) ts) (Err (fault 3 t.first))) p k in
        let test = offered_then (list_any (eqb (digits_value 10 digits)) field_primes) digits few.1 in
        let last = ends 2 (digits_value 10 digits) p ts test.1 in
        record {
          digits = digits;
          spelled = rw (d, last.1) refl;
          value = last.0;
          offered = subst (Contains field_primes) last.0 (contains_from_test field_primes (digits_value 10 digits) test.0);
        }
    by_token Token.Plus d k = absurd cc
    by_token _ d k = absurd cc

-- a number of more digits is greater than each prime
few_digits : (digits : List ℕ) → (digits ≡ 48 ∷ []) ⊎ IsFull digits → digits_value 10 digits ≤ 65537 → length digits ≤ most_digits
few_digits digits (inl e) h = rw e (omega arith)
few_digits digits (inr full) h = by_case (cases_lt 18 (length digits))
  where
    by_case : (18 < length digits) ⊎ (length digits ≤ 18) → length digits ≤ 18
    by_case (inl many) =
        let larger : 10 ^ 19 ≤ 10 ^ length digits = pow-le-pow_right {n = 10} (omega arith) {i = 19} {j = length digits} many in
        absurd (omega arith)
    by_case (inr few) = few

prime_is_read : (end : ℕ) (ts : List Placed) (p : ℕ) (digits : List ℕ) → unplaced ts ≡ Number digits ∷ [] → length digits ≤ most_digits → digits_value 10 digits ≡ p → Contains field_primes p → prime_from end ts ≡ Ok p
prime_is_read end [] p digits e few value offered = absurd cc
prime_is_read end (t ∷ u ∷ ts) p digits e few value offered = absurd cc
prime_is_read end (t ∷ []) p digits e few value offered =
    let token : t.token ≡ Number digits = cc in
    let short = le-ltb most_digits (length digits) few in
    let found = test_from_contains field_primes p offered in
    rw token (passed (ltb most_digits (length digits)) (list_any (eqb (digits_value 10 digits)) field_primes) short (ap (λ n. list_any (eqb n) field_primes) value ∙ found))
  where
    passed : (b c : Bool) → b ≡ false → c ≡ true → cond b (Err (fault 9 t.first)) (cond c (Ok (digits_value 10 digits)) (Err (fault 3 t.first))) ≡ Ok p
    passed true c h i = absurd cc
    passed false true h i = ap (λ n. Ok n) value
    passed false false h i = absurd cc

-- a line is read as a prime exactly where it is its prime line
pub prime_line_is_read : (line : List ℕ) (p : ℕ) → SpellsPrime line p → read_prime line ≡ Ok p
prime_line_is_read line p h =
    let after = word_is_read 2 (length line + 1) (codes "prime") (tokens line) (Number h.digits ∷ []) h.spelled in
    let spelled : AllByRecursion IsWellSpelled (Name (codes "prime") ∷ Number h.digits ∷ []) = subst (AllByRecursion IsWellSpelled) h.spelled (line_is_well_spelled line) in
    let small = field_primes_small p h.offered in
    let value = h.value in
    let few = few_digits h.digits spelled.1.0 (omega arith) in
    ap (λ a. and_then_read a (prime_from (length line + 1))) after.1 ∙ prime_is_read (length line + 1) after.0 p h.digits after.2 few h.value h.offered

pub prime_line_is_spelled : (line : List ℕ) (p : ℕ) → read_prime line ≡ Ok p → SpellsPrime line p
prime_line_is_spelled line p e =
    let parts = both_read (word_first 2 (codes "prime") (length line + 1) (tokens line)) (prime_from (length line + 1)) p e in
    let number = prime_is_spelled (length line + 1) parts.between p parts.second in
    record {
      digits = number.digits;
      spelled = word_is_spelled 2 (length line + 1) (codes "prime") (tokens line) parts.between parts.first ∙ ap (λ xs. Name (codes "prime") ∷ xs) number.spelled;
      value = number.value;
      offered = number.offered;
    }
