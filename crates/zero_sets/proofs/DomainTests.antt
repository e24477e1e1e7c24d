-- A test by computation that tables are those of a finite domain.
use Rattle.std.proofs.Common.{◌≡◌, ◌⊎◌, ℕ, zero, suc, ◌*◌, ◌<◌, Bool, true, false, not, eqb, ltb, leb, ◌&&◌, ◌||◌, length, ap, ◌∙◌, inl, inr, arith}
use Rattle.std.proofs.lemmas.Bool.{and_parts, or_cases, not-true, eqb-true, eqb-false, ltb-true, leb-true, cases_eq}
use Rattle.zero_sets.specs.Domains.{Tables, IsFiniteDomain, plus_in, times_in, ones_in}

-- each number below n passes
abbrev pub each_below : ℕ → (ℕ → Bool) → Bool
each_below zero test = true
each_below (suc n) test = test n && each_below n test

-- some number below n passes
abbrev pub some_below : ℕ → (ℕ → Bool) → Bool
some_below zero test = false
some_below (suc n) test = test n || some_below n test

each_below_at : (n : ℕ) (test : ℕ → Bool) → each_below n test ≡ true → (k : ℕ) → k < n → test k ≡ true
each_below_at zero test h k below = absurd (omega arith)
each_below_at (suc n) test h k below =
    let both = and_parts (test n) (each_below n test) h in
    elim (cases_eq k n) [
      | inl same ↦ ap test same ∙ both.0
      | inr other ↦ each_below_at n test both.1 k (omega arith)
    ]

some_below_at : (n : ℕ) (test : ℕ → Bool) → some_below n test ≡ true → (k : ℕ) × (k < n) × (test k ≡ true)
some_below_at zero test h = cc
some_below_at (suc n) test h = elim (or_cases (test n) (some_below n test) h) [
  | inl here ↦ (n, omega arith, here)
  | inr later ↦
      let found = some_below_at n test later in
      let below = found.1 in
      (found.0, omega arith, found.2)
]

module _ (p : ℕ) (r : Tables) where
  -- a law of one, two or three elements
  abbrev each : (ℕ → Bool) → Bool
  each test = each_below r.size test

  abbrev each_two : (ℕ → ℕ → Bool) → Bool
  each_two test = each (λ x. each (test x))

  abbrev each_three : (ℕ → ℕ → ℕ → Bool) → Bool
  each_three test = each (λ x. each_two (test x))

  at_one : (test : ℕ → Bool) → each test ≡ true → (x : ℕ) → x < r.size → test x ≡ true
  at_one test h x below = each_below_at r.size test h x below

  at_two : (test : ℕ → ℕ → Bool) → each_two test ≡ true → (x y : ℕ) → x < r.size → y < r.size → test x y ≡ true
  at_two test h x y a b = at_one (test x) (at_one (λ z. each (test z)) h x a) y b

  at_three : (test : ℕ → ℕ → ℕ → Bool) → each_three test ≡ true → (x y z : ℕ) → x < r.size → y < r.size → z < r.size → test x y z ≡ true
  at_three test h x y z a b c = at_two (test x) (at_one (λ w. each_two (test w)) h x a) y z b c

  -- the tests, one a law
  pub record PassesTests : Type 0 where
    pub many : leb 2 r.size ≡ true
    pub sum_count : eqb (length r.sums) (r.size * r.size) ≡ true
    pub product_count : eqb (length r.products) (r.size * r.size) ≡ true
    pub nil_below : ltb r.nil r.size ≡ true
    pub one_below : ltb r.one r.size ≡ true
    pub sum_below : each_two (λ x y. ltb (plus_in r x y) r.size) ≡ true
    pub product_below : each_two (λ x y. ltb (times_in r x y) r.size) ≡ true
    pub add_comm : each_two (λ x y. eqb (plus_in r x y) (plus_in r y x)) ≡ true
    pub add_assoc : each_three (λ x y z. eqb (plus_in r (plus_in r x y) z) (plus_in r x (plus_in r y z))) ≡ true
    pub nil-add : each (λ x. eqb (plus_in r r.nil x) x) ≡ true
    pub negative : each (λ x. some_below r.size (λ y. eqb (plus_in r y x) r.nil)) ≡ true
    pub mul_comm : each_two (λ x y. eqb (times_in r x y) (times_in r y x)) ≡ true
    pub mul_assoc : each_three (λ x y z. eqb (times_in r (times_in r x y) z) (times_in r x (times_in r y z))) ≡ true
    pub one-mul : each (λ x. eqb (times_in r r.one x) x) ≡ true
    pub mul-add : each_three (λ x y z. eqb (times_in r x (plus_in r y z)) (plus_in r (times_in r x y) (times_in r x z))) ≡ true
    pub one_not_nil : eqb r.one r.nil ≡ false
    pub characteristic : eqb (ones_in r p) r.nil ≡ true
    pub integral : each_two (λ x y. not (eqb (times_in r x y) r.nil) || (eqb x r.nil || eqb y r.nil)) ≡ true

  factor_is_nil : (x y : ℕ) → (not (eqb (times_in r x y) r.nil) || (eqb x r.nil || eqb y r.nil)) ≡ true → times_in r x y ≡ r.nil → (x ≡ r.nil) ⊎ (y ≡ r.nil)
  factor_is_nil x y h e = elim (or_cases (not (eqb (times_in r x y) r.nil)) (eqb x r.nil || eqb y r.nil) h) [
    | inl other ↦ absurd (eqb-false (times_in r x y) r.nil (not-true (eqb (times_in r x y) r.nil) other) e)
    | inr factor ↦ elim (or_cases (eqb x r.nil) (eqb y r.nil) factor) [
      | inl left ↦ inl (eqb-true x r.nil left)
      | inr right ↦ inr (eqb-true y r.nil right)
    ]
  ]

  negative_at : (x : ℕ) → some_below r.size (λ y. eqb (plus_in r y x) r.nil) ≡ true → (y : ℕ) × (y < r.size) × (plus_in r y x ≡ r.nil)
  negative_at x h =
      let found = some_below_at r.size (λ y. eqb (plus_in r y x) r.nil) h in
      (found.0, found.1, eqb-true (plus_in r found.0 x) r.nil found.2)

  -- tables that pass are those of a finite domain
  pub domain_from_tests : PassesTests → IsFiniteDomain p r
  domain_from_tests t = record {
    ring = record {
      many = leb-true 2 r.size t.many;
      sum_count = eqb-true _ _ t.sum_count;
      product_count = eqb-true _ _ t.product_count;
      nil_below = ltb-true _ _ t.nil_below;
      one_below = ltb-true _ _ t.one_below;
      sum_below = λ x y a b. ltb-true _ _ (at_two _ t.sum_below x y a b);
      product_below = λ x y a b. ltb-true _ _ (at_two _ t.product_below x y a b);
      add_comm = λ x y a b. eqb-true _ _ (at_two _ t.add_comm x y a b);
      add_assoc = λ x y z a b c. eqb-true _ _ (at_three _ t.add_assoc x y z a b c);
      nil-add = λ x a. eqb-true _ _ (at_one _ t.nil-add x a);
      negative = λ x a. negative_at x (at_one _ t.negative x a);
      mul_comm = λ x y a b. eqb-true _ _ (at_two _ t.mul_comm x y a b);
      mul_assoc = λ x y z a b c. eqb-true _ _ (at_three _ t.mul_assoc x y z a b c);
      one-mul = λ x a. eqb-true _ _ (at_one _ t.one-mul x a);
      mul-add = λ x y z a b c. eqb-true _ _ (at_three _ t.mul-add x y z a b c);
      one_not_nil = λ e. eqb-false r.one r.nil t.one_not_nil e;
      characteristic = eqb-true _ _ t.characteristic;
    };
    integral = λ x y a b e. factor_is_nil x y (at_two _ t.integral x y a b) e;
  }
