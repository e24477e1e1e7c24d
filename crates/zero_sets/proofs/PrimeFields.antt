-- The residues modulo a prime, by their tables, are a finite domain.
use Rattle.std.proofs.Common.{◌≡◌, ◌⊎◌, ℕ, zero, suc, ◌+◌, ◌*◌, ◌%◌, ◌<◌, List, [], ◌∷◌, ◌++◌, map, length, get_or, length-append, refl, sym, ap, ap₂, ◌∙◌, subst, inl, inr, mod-lt, mod-eq_of_lt, zero-mul, arith}
use Rattle.std.proofs.lemmas.List.{get_or_append_left, get_or-append-add}
use Rattle.std.proofs.lemmas.List.FromFn.{length-map-range_with_len, get_or-map-range_with_len}
use Rattle.std.specs.List.{range_with_len, flat_map}
use Rattle.polynomials.specs.Primes.{IsPrime}
use Rattle.polynomials.specs.Rings.{Ring, natural_in}
use Rattle.polynomials.proofs.InverseLemmas.{prime_divides_a_factor}
use Rattle.polynomials.proofs.Residues.{Residue, residues as residue_ring, residues_characteristic}
use Rattle.zero_sets.specs.Domains.{Tables, IsFiniteRing, plus_in, times_in, ones_in}
use Rattle.zero_sets.specs.Residues.{residues, ResiduesAreADomain}

-- m rows from row k on, with n numbers each, of the table of an operation
abbrev rows_from : (ℕ → ℕ → ℕ) → ℕ → ℕ → ℕ → List ℕ
rows_from f n k m = flat_map (λ x. map (f x) (range_with_len 0 n)) (range_with_len k m)

length-rows_from : (f : ℕ → ℕ → ℕ) (n k m : ℕ) → length (rows_from f n k m) ≡ m * n
length-rows_from f n k zero = sym (zero-mul n)
length-rows_from f n k (suc m) =
    let row = length-map-range_with_len (f k) 0 n in
    let rest = length-rows_from f n (k + 1) m in
    let both = length-append (map (f k) (range_with_len 0 n)) (rows_from f n (k + 1) m) in
    omega arith

-- an entry of a table
get_or-rows_from : (f : ℕ → ℕ → ℕ) (n k m x y d : ℕ) → x < m → y < n → get_or (rows_from f n k m) (x * n + y) d ≡ f (k + x) y
get_or-rows_from f n k zero x y d a b = absurd (omega arith)
get_or-rows_from f n k (suc m) zero y d a b =
    ap (λ i. get_or (rows_from f n k (suc m)) i d) (first_row n y)
    ∙ get_or_append_left (map (f k) (range_with_len 0 n)) (rows_from f n (k + 1) m) d y (omega (arith, length-map-range_with_len (f k) 0 n))
    ∙ get_or-map-range_with_len (f k) 0 n y y d b (omega arith)
    ∙ ap (λ z. f z y) (plus_zero k)
  where
    first_row : (n y : ℕ) → 0 * n + y ≡ y
    first_row n y = omega arith

    plus_zero : (k : ℕ) → k ≡ k + 0
    plus_zero k = omega arith
get_or-rows_from f n k (suc m) (suc x) y d a b =
    ap (λ i. get_or (rows_from f n k (suc m)) i d) (later_row n x y (length (map (f k) (range_with_len 0 n))) (length-map-range_with_len (f k) 0 n))
    ∙ get_or-append-add (map (f k) (range_with_len 0 n)) (rows_from f n (k + 1) m) (x * n + y) d
    ∙ get_or-rows_from f n (k + 1) m x y d (omega arith) b
    ∙ ap (λ z. f z y) (one_later k x)
  where
    later_row : (n x y l : ℕ) → l ≡ n → suc x * n + y ≡ l + (x * n + y)
    later_row n x y l e = omega arith

    one_later : (k x : ℕ) → k + 1 + x ≡ k + suc x
    one_later k x = omega arith

module _ (p : ℕ) (prime : IsPrime p) where
  abbrev r : Tables
  r = residues p

  positive : 0 < p
  positive = omega (arith, prime.many)

  abbrev ring : Ring (Residue p)
  ring = residue_ring p positive

  sum_entry : (x y : ℕ) → x < p → y < p → plus_in r x y ≡ (x + y) % p
  sum_entry x y a b = get_or-rows_from (λ x y. (x + y) % p) p 0 p x y 0 a b ∙ ap (λ z. (z + y) % p) (zero_plus x)
    where
      zero_plus : (x : ℕ) → 0 + x ≡ x
      zero_plus x = omega arith

  product_entry : (x y : ℕ) → x < p → y < p → times_in r x y ≡ x * y % p
  product_entry x y a b = get_or-rows_from (λ x y. x * y % p) p 0 p x y 0 a b ∙ ap (λ z. z * y % p) (zero_plus x)
    where
      zero_plus : (x : ℕ) → 0 + x ≡ x
      zero_plus x = omega arith

  -- the tables compute as the ring of residues does
  sums : (x y : Residue p) → plus_in r x.0 y.0 ≡ (ring.◌⊕◌ x y).0
  sums x y = sum_entry x.0 y.0 x.1 y.1

  products : (x y : Residue p) → times_in r x.0 y.0 ≡ (ring.◌⊗◌ x y).0
  products x y = product_entry x.0 y.0 x.1 y.1

  ones : (n : ℕ) → ones_in r n ≡ (natural_in ring n).0
  ones zero = refl
  ones (suc n) = ap₂ (plus_in r) (sym (mod-eq_of_lt prime.many)) (ones n) ∙ sums ring.one (natural_in ring n)

  factor : (x y : ℕ) → x < p → y < p → times_in r x y ≡ 0 → (x ≡ 0) ⊎ (y ≡ 0)
  factor x y a b e = elim (prime_divides_a_factor p x y prime (sym (product_entry x y a b) ∙ e)) [
    | inl left ↦ inl (sym (mod-eq_of_lt a) ∙ left)
    | inr right ↦ inr (sym (mod-eq_of_lt b) ∙ right)
  ]

  finite_ring : IsFiniteRing p (residues p)
  finite_ring = record {
    many = prime.many;
    sum_count = length-rows_from (λ x y. (x + y) % p) p 0 p;
    product_count = length-rows_from (λ x y. x * y % p) p 0 p;
    nil_below = positive;
    one_below = prime.many;
    sum_below = λ x y a b. subst (λ z. z < p) (sym (sum_entry x y a b)) (mod-lt (x + y) positive);
    product_below = λ x y a b. subst (λ z. z < p) (sym (product_entry x y a b)) (mod-lt (x * y) positive);
    add_comm = λ x y a b. sums (x, a) (y, b) ∙ ap (λ u. u.0) (ring.add_comm (x, a) (y, b)) ∙ sym (sums (y, b) (x, a));
    add_assoc = λ x y z a b c. ap (λ s. plus_in r s z) (sums (x, a) (y, b)) ∙ sums (ring.◌⊕◌ (x, a) (y, b)) (z, c) ∙ ap (λ u. u.0) (ring.add_assoc (x, a) (y, b) (z, c)) ∙ sym (ap (plus_in r x) (sums (y, b) (z, c)) ∙ sums (x, a) (ring.◌⊕◌ (y, b) (z, c)));
    nil-add = λ x a. sums ring.nil (x, a) ∙ ap (λ u. u.0) (ring.nil-add (x, a));
    negative = λ x a. ((ring.neg (x, a)).0, (ring.neg (x, a)).1, sums (ring.neg (x, a)) (x, a) ∙ ap (λ u. u.0) (ring.neg-add (x, a)));
    mul_comm = λ x y a b. products (x, a) (y, b) ∙ ap (λ u. u.0) (ring.mul_comm (x, a) (y, b)) ∙ sym (products (y, b) (x, a));
    mul_assoc = λ x y z a b c. ap (λ s. times_in r s z) (products (x, a) (y, b)) ∙ products (ring.◌⊗◌ (x, a) (y, b)) (z, c) ∙ ap (λ u. u.0) (ring.mul_assoc (x, a) (y, b) (z, c)) ∙ sym (ap (times_in r x) (products (y, b) (z, c)) ∙ products (x, a) (ring.◌⊗◌ (y, b) (z, c)));
    one-mul = λ x a. ap (λ s. times_in r s x) (sym (mod-eq_of_lt prime.many)) ∙ products ring.one (x, a) ∙ ap (λ u. u.0) (ring.one-mul (x, a));
    mul-add = λ x y z a b c. ap (times_in r x) (sums (y, b) (z, c)) ∙ products (x, a) (ring.◌⊕◌ (y, b) (z, c)) ∙ ap (λ u. u.0) (ring.mul-add (x, a) (y, b) (z, c)) ∙ sym (ap₂ (plus_in r) (products (x, a) (y, b)) (products (x, a) (z, c)) ∙ sums (ring.◌⊗◌ (x, a) (y, b)) (ring.◌⊗◌ (x, a) (z, c)));
    one_not_nil = λ e. cc;
    characteristic = ones p ∙ ap (λ u. u.0) (residues_characteristic p positive);
  }

-- each prime field is a finite domain
pub residues_are_a_domain : ResiduesAreADomain
residues_are_a_domain p prime = record { ring = finite_ring p prime; integral = factor p prime }
