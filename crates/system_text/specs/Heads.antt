-- How the prime line and the order line are read.
use Rattle.std.specs.Prelude.{ℕ, ◌+◌, ltb, leb, eqb, cond, List, [], ◌∷◌, ◌++◌, length, Result, Ok, Err, codes}
use Rattle.std.specs.List.{list_any}
use Rattle.std.specs.Str.{bytes_eq}
use Rattle.std.specs.Str.Parse.{digits_value}
use Rattle.polynomials.specs.Primes.{field_primes}
use Rattle.system_text.specs.Tokens.{Token, Placed, Name, Number, tokens}
use Rattle.system_text.specs.Faults.{Fault, fault, misplaced}
use Rattle.system_text.specs.Limits.{most_digits}

-- the names that no variable has
abbrev pub reserved_names : List (List ℕ)
reserved_names = codes "prime" ∷ codes "order" ∷ codes "nonzero" ∷ []

-- what is wanted after the tokens of a head line: no further token
abbrev pub at_end : {A : Type 0} → ℕ → A → List Placed → Result A Fault
at_end number x [] = Ok x
at_end number x (t ∷ ts) = Err (misplaced number t)

-- the tokens after this word, which begins the line
abbrev pub after_word : ℕ → List ℕ → Placed → Token → List Placed → Result (List Placed) Fault
after_word number word t (Name x) ts = cond (bytes_eq x word) (Ok ts) (Err (misplaced number t))
after_word number word t _ ts = Err (misplaced number t)

abbrev pub word_first : ℕ → List ℕ → ℕ → List Placed → Result (List Placed) Fault
word_first number word end [] = Err (fault number end)
word_first number word end (t ∷ ts) = after_word number word t t.token ts

-- the number of the prime line, and then its end
abbrev pub prime_number : Placed → Token → List Placed → Result ℕ Fault
prime_number t (Number digits) ts =
    cond (ltb most_digits (length digits)) (Err (fault 9 t.first))
    (cond (list_any (eqb (digits_value 10 digits)) field_primes)
    (at_end 2 (digits_value 10 digits) ts)
    (Err (fault 3 t.first)))
prime_number t _ ts = Err (misplaced 2 t)

abbrev pub prime_from : ℕ → List Placed → Result ℕ Fault
prime_from end [] = Err (fault 2 end)
prime_from end (t ∷ ts) = prime_number t t.token ts

-- the second reading, where the first has a result
abbrev pub and_then_read : {A B : Type 0} → Result A Fault → (A → Result B Fault) → Result B Fault
and_then_read (Ok x) f = f x
and_then_read (Err e) f = Err e

-- the prime of a prime line
abbrev pub read_prime : List ℕ → Result ℕ Fault
read_prime line =
    and_then_read (word_first 2 (codes "prime") (length line + 1) (tokens line))
    (prime_from (length line + 1))

-- one more name of the order line, where at most n may stand in it
abbrev pub with_name : ℕ → List (List ℕ) → Placed → Token → Result (List (List ℕ)) Fault
with_name n names t (Name x) =
    cond (list_any (bytes_eq x) reserved_names) (Err (fault 4 t.first))
    (cond (leb n (length names)) (Err (fault 5 t.first))
    (cond (list_any (bytes_eq x) names) (Err (fault 6 t.first)) (Ok (names ++ x ∷ []))))
with_name n names t _ = Err (misplaced 4 t)

-- the line ends after these names
abbrev pub names_end : ℕ → List (List ℕ) → Result (List (List ℕ)) Fault
names_end end [] = Err (fault 4 end)
names_end end (x ∷ names) = Ok (x ∷ names)

-- the names of the order line, after those that were read
abbrev pub names_from : ℕ → ℕ → List (List ℕ) → List Placed → Result (List (List ℕ)) Fault
names_from n end names [] = names_end end names
names_from n end names (t ∷ ts) = elim (with_name n names t t.token) [
  | Ok more ↦ names_from n end more ts
  | Err e ↦ Err e
]

-- the names of an order line
abbrev pub read_order : ℕ → List ℕ → Result (List (List ℕ)) Fault
read_order n line =
    and_then_read (word_first 4 (codes "order") (length line + 1) (tokens line))
    (names_from n (length line + 1) [])
