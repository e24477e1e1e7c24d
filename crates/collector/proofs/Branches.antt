-- The paths that a walk meets after a path and what is below it.
use Rattle.std.proofs.Common.{◌≡◌, ℕ, suc, ◌+◌, ◌-◌, ◌<◌, ◌≤◌, List, [], ◌∷◌, ◌++◌, length, sym, ap, ◌∙◌, arith, append_assoc, append-nil, length-append}
use Rattle.std.specs.List.{AllByRecursion}
use Rattle.split_paths.specs.Walk.{numbered_paths}
use Rattle.collector.specs.Branches.{later_below}

-- one level more: first the later children there
later_down : (front is ns : List ℕ) (i n : ℕ) → length is ≡ length ns
    → later_below front (is ++ i ∷ []) (ns ++ n ∷ [])
    ≡ numbered_paths (front ++ is) (i + 1) (n - i) ++ later_below front is ns
later_down front [] [] i n same =
    ap (λ (q : List ℕ). numbered_paths q (i + 1) (n - i)) (sym (append-nil front))
    ∙ sym (append-nil (numbered_paths (front ++ []) (i + 1) (n - i)))
later_down front [] (m ∷ ns) i n same = absurd (omega arith)
later_down front (j ∷ is) [] i n same = absurd (omega arith)
later_down front (j ∷ is) (m ∷ ns) i n same =
    let shorter : length is ≡ length ns = omega arith in
    ap (λ (qs : List (List ℕ)). qs ++ numbered_paths front (j + 1) (m - j)) (later_down (front ++ j ∷ []) is ns i n shorter)
    ∙ (append_assoc
    (numbered_paths ((front ++ j ∷ []) ++ is) (i + 1) (n - i))
    (later_below (front ++ j ∷ []) is ns)
    (numbered_paths front (j + 1) (m - j))
    ∙ ap
    (λ (q : List ℕ). numbered_paths q (i + 1) (n - i) ++ (later_below (front ++ j ∷ []) is ns ++ numbered_paths front (j + 1) (m - j)))
    (append_assoc front (j ∷ []) is))

numbered_first : (q : List ℕ) (j n m : ℕ) → n ≡ suc m
    → numbered_paths q j n ≡ (q ++ j ∷ []) ∷ numbered_paths q (j + 1) m
numbered_first q j n m is = ap (numbered_paths q j) is

-- the first of so many children, and then the others
pub down : (q ns : List ℕ) (n : ℕ) → length q ≡ length ns → 0 < n
    → (q ++ 1 ∷ []) ∷ later_below [] (q ++ 1 ∷ []) (ns ++ n ∷ [])
    ≡ numbered_paths q 1 n ++ later_below [] q ns
down q ns n same some =
    let one : n ≡ suc (n - 1) = omega arith in
    ap (λ (qs : List (List ℕ)). (q ++ 1 ∷ []) ∷ qs) (later_down [] q ns 1 n same)
    ∙ ap (λ (qs : List (List ℕ)). qs ++ later_below [] q ns) (sym (numbered_first q 1 n (n - 1) one))

same_fronts : (q ms : List ℕ) (i n : ℕ) → length (q ++ i ∷ []) ≡ length (ms ++ n ∷ []) → length q ≡ length ms
same_fronts q ms i n same = omega (arith, length-append q (i ∷ []), length-append ms (n ∷ []))

-- the next child, where there is one
pub next_child : (is ns q ms : List ℕ) (i n : ℕ) → is ≡ q ++ i ∷ [] → ns ≡ ms ++ n ∷ []
    → length is ≡ length ns → i < n
    → later_below [] is ns ≡ (q ++ (i + 1) ∷ []) ∷ later_below [] (q ++ (i + 1) ∷ []) (ms ++ n ∷ [])
next_child is ns q ms i n is_q ns_ms same more =
    let fronts : length q ≡ length ms = same_fronts q ms i n (rw (← is_q, ← ns_ms) same) in
    let one : n - i ≡ suc (n - (i + 1)) = omega arith in
    rw (is_q, ns_ms)
    (later_down [] q ms i n fronts
    ∙ (ap (λ (qs : List (List ℕ)). qs ++ later_below [] q ms) (numbered_first q (i + 1) (n - i) (n - (i + 1)) one)
    ∙ ap (λ (qs : List (List ℕ)). (q ++ (i + 1) ∷ []) ∷ qs) (sym (later_down [] q ms (i + 1) n fronts))))

-- after the last child nothing comes at its level
pub last_child : (is ns q ms : List ℕ) (i n : ℕ) → is ≡ q ++ i ∷ [] → ns ≡ ms ++ n ∷ []
    → length is ≡ length ns → n ≤ i
    → (later_below [] is ns ≡ later_below [] q ms) × (length q ≡ length ms)
last_child is ns q ms i n is_q ns_ms same none =
    let fronts : length q ≡ length ms = same_fronts q ms i n (rw (← is_q, ← ns_ms) same) in
    let end : n - i ≡ 0 = omega arith in (
      rw (is_q, ns_ms)
          (later_down [] q ms i n fronts
          ∙ ap (λ (k : ℕ). numbered_paths q (i + 1) k ++ later_below [] q ms) end),
      fronts,
    )

-- numbers from 1 on, but for the last
pub front_from_one : (q : List ℕ) (i : ℕ) → AllByRecursion (λ j. 1 ≤ j) (q ++ i ∷ [])
    → AllByRecursion (λ j. 1 ≤ j) q
front_from_one [] i all = tt
front_from_one (j ∷ q) i all = (all.0, front_from_one q i all.1)
