-- The order, the equality and the greatest variable of monomials of four words.
use Rattle.std.proofs.Common.{◌≡◌, ℕ, ◌+◌, ◌^◌, ◌<◌, true, eqb, ◌&&◌, [], ◌∷◌, ◌++◌, length, Some, None, refl, sym, ◌∙◌, ap, ap₂, arith}
use Rattle.std.specs.Ordering.{nat_cmp, ordering_then}
use Rattle.std.specs.declared.cmp.Ordering.{Ordering}
use Rattle.std.specs.declared.cmp.Ordering.TheVariants.{Less, Equal, Greater}
use Rattle.std.proofs.lemmas.Bool.{eqb-true, eq-eqb, and_parts, and_from}
use Rattle.std.proofs.lemmas.Bool.Decides.{same_from_decides}
use Rattle.polynomials.specs.Monomials.{Monomial, monomial_order, same_monomial, greatest_variable, greatest_of}
use Rattle.polynomials.specs.Equalities.{same_monomial_decides}
use Rattle.polynomials.specs.MonomialOrders.{nat_cmp_same, nat_cmp-refl}
use Rattle.mono_words.specs.Words.{exponents}
use Rattle.mono_words.specs.FourWords.{four_words, AreWords, word_of}
use Rattle.mono_words.proofs.Lanes.{length-exponents, same_word}
use Rattle.mono_words.proofs.WordOrder.{order-exponents}

-- three answers in turn, in either grouping
then_assoc : (o q r : Ordering) → ordering_then o (ordering_then q r) ≡ ordering_then (ordering_then o q) r
then_assoc Less q r = refl
then_assoc Equal q r = refl
then_assoc Greater q r = refl

then_equal : (o : Ordering) → o ≡ ordering_then o Equal
then_equal Less = refl
then_equal Equal = refl
then_equal Greater = refl

-- the upper variables decide first
monomial_order-append : (k l m n : Monomial) → length k ≡ length m → monomial_order (k ++ l) (m ++ n) ≡ ordering_then (monomial_order l n) (monomial_order k m)
monomial_order-append [] l [] n same = then_equal (monomial_order l n)
monomial_order-append [] l (e ∷ m) n same = absurd (omega arith)
monomial_order-append (d ∷ k) l [] n same = absurd (omega arith)
monomial_order-append (d ∷ k) l (e ∷ m) n same =
    ap (λ o. ordering_then o (nat_cmp d e)) (monomial_order-append k l m n (omega arith))
    ∙ sym (then_assoc (monomial_order l n) (monomial_order k m) (nat_cmp d e))

-- one word below the others
order_of_lowest : (a e : ℕ) (l n : Monomial) → a < 65536 ^ 4 → e < 65536 ^ 4 → monomial_order (exponents 4 a ++ l) (exponents 4 e ++ n) ≡ ordering_then (monomial_order l n) (nat_cmp a e)
order_of_lowest a e l n small below =
    monomial_order-append (exponents 4 a) l (exponents 4 e) n (length-exponents 4 a ∙ sym (length-exponents 4 e))
    ∙ ap (ordering_then (monomial_order l n)) (order-exponents 4 a e small below)

-- the order of four words, the fourth first
order-four_words : (a b c d e f g h : ℕ) → AreWords a b c d → AreWords e f g h → monomial_order (four_words a b c d) (four_words e f g h) ≡ ordering_then (nat_cmp d h) (ordering_then (nat_cmp c g) (ordering_then (nat_cmp b f) (nat_cmp a e)))
unfolding four_words
order-four_words a b c d e f g h small below =
    order_of_lowest a e _ _ small.first below.first
    ∙ ap (λ o. ordering_then o (nat_cmp a e))
    (order_of_lowest b f _ _ small.second below.second
    ∙ ap (λ o. ordering_then o (nat_cmp b f))
    (order_of_lowest c g _ _ small.third below.third
    ∙ ap (λ o. ordering_then o (nat_cmp c g)) (order-exponents 4 d h small.fourth below.fourth)))
    ∙ (sym (then_assoc (ordering_then (nat_cmp d h) (nat_cmp c g)) (nat_cmp b f) (nat_cmp a e))
    ∙ sym (then_assoc (nat_cmp d h) (nat_cmp c g) (ordering_then (nat_cmp b f) (nat_cmp a e))))

-- numbers that differ decide
then_other : (a e : ℕ) (o : Ordering) → (a ≡ e → ⊥) → ordering_then (nat_cmp a e) o ≡ nat_cmp a e
then_other a e o other = go (nat_cmp a e) (λ tie. other (nat_cmp_same a e tie))
  where
    go : (q : Ordering) → (q ≡ Equal → ⊥) → ordering_then q o ≡ q
    go Less some = refl
    go Equal some = absurd (some refl)
    go Greater some = refl

-- equal ones leave it to what comes after
then_same : (a e : ℕ) (o : Ordering) → a ≡ e → ordering_then (nat_cmp a e) o ≡ o
then_same a e o same =
    ap (λ x. ordering_then (nat_cmp a x) o) (sym same) ∙ ap (λ q. ordering_then q o) (nat_cmp-refl a)

module _ (a b c d e f g h : ℕ) (small : AreWords a b c d) (below : AreWords e f g h) where
  abbrev order : Ordering
  order = monomial_order (four_words a b c d) (four_words e f g h)

  pub by_fourth : (d ≡ h → ⊥) → nat_cmp d h ≡ order
  by_fourth other = sym (order-four_words a b c d e f g h small below ∙ then_other d h _ other)

  -- equal fourth words leave it to the others
  past_fourth : d ≡ h → order ≡ ordering_then (nat_cmp c g) (ordering_then (nat_cmp b f) (nat_cmp a e))
  past_fourth same = order-four_words a b c d e f g h small below ∙ then_same d h _ same

  pub by_third : d ≡ h → (c ≡ g → ⊥) → nat_cmp c g ≡ order
  by_third same other = sym (past_fourth same ∙ then_other c g _ other)

  -- and equal third words to the first two
  past_third : d ≡ h → c ≡ g → order ≡ ordering_then (nat_cmp b f) (nat_cmp a e)
  past_third same third = past_fourth same ∙ then_same c g _ third

  pub by_second : d ≡ h → c ≡ g → (b ≡ f → ⊥) → nat_cmp b f ≡ order
  by_second same third other = sym (past_third same third ∙ then_other b f _ other)

  pub by_first : d ≡ h → c ≡ g → b ≡ f → nat_cmp a e ≡ order
  by_first same third second = sym (past_third same third ∙ then_same b f _ second)

-- monomials that are equal have equal words
words_same : (i a e : ℕ) (l m : Monomial) → l ≡ m → word_of i l ≡ exponents 4 a → word_of i m ≡ exponents 4 e → a < 65536 ^ 4 → e < 65536 ^ 4 → a ≡ e
words_same i a e l m same first second small below =
    same_word 4 a e small below (sym first ∙ ap (word_of i) same ∙ second)

-- the words are equal exactly where the monomials are
pub same-four_words : (a b c d e f g h : ℕ) → AreWords a b c d → AreWords e f g h → (((eqb a e && eqb b f) && eqb c g) && eqb d h) ≡ same_monomial (four_words a b c d) (four_words e f g h)
unfolding four_words exponents
same-four_words a b c d e f g h small below =
    same_from_decides (((eqb a e && eqb b f) && eqb c g) && eqb d h) (same_monomial (four_words a b c d) (four_words e f g h)) (
      (λ i.
          let upper = and_parts ((eqb a e && eqb b f) && eqb c g) (eqb d h) i in
          let middle = and_parts (eqb a e && eqb b f) (eqb c g) upper.0 in
          let lower = and_parts (eqb a e) (eqb b f) middle.0 in
          ap₂ (λ (x y : ℕ). four_words x y c d) (eqb-true a e lower.0) (eqb-true b f lower.1)
          ∙ ap₂ (λ (x y : ℕ). four_words e f x y) (eqb-true c g middle.1) (eqb-true d h upper.1)),
      (λ same.
          let equal : (i x y : ℕ) → word_of i (four_words a b c d) ≡ exponents 4 x → word_of i (four_words e f g h) ≡ exponents 4 y → x < 65536 ^ 4 → y < 65536 ^ 4 → eqb x y ≡ true
          = λ i x y first second less more. eq-eqb x y (words_same i x y (four_words a b c d) (four_words e f g h) same first second less more) in
          and_from ((eqb a e && eqb b f) && eqb c g) (eqb d h)
          (and_from (eqb a e && eqb b f) (eqb c g)
          (and_from (eqb a e) (eqb b f) (equal 0 a e refl refl small.first below.first) (equal 1 b f refl refl small.second below.second))
          (equal 2 c g refl refl small.third below.third))
          (equal 3 d h refl refl small.fourth below.fourth)),
    )
    (same_monomial_decides (four_words a b c d) (four_words e f g h))

-- a variable of the upper list
above : (l m : Monomial) (v : ℕ) → greatest_variable m ≡ Some v → greatest_variable (l ++ m) ≡ Some (length l + v)
above [] m v some = some ∙ ap Some (omega arith)
above (e ∷ l) m v some = ap (greatest_of e) (above l m v some) ∙ ap Some (omega arith)

-- or none of it
below : (l m : Monomial) → greatest_variable m ≡ None → greatest_variable (l ++ m) ≡ greatest_variable l
below [] m none = none
below (e ∷ l) m none = ap (greatest_of e) (below l m none)

pub greatest_of_fourth : (a b c d v : ℕ) → greatest_variable (exponents 4 d) ≡ Some v → greatest_variable (four_words a b c d) ≡ Some (12 + v)
unfolding four_words exponents
greatest_of_fourth a b c d v some = above (exponents 4 a ++ (exponents 4 b ++ exponents 4 c)) (exponents 4 d) v some

pub greatest_of_third : (a b c d v : ℕ) → greatest_variable (exponents 4 d) ≡ None → greatest_variable (exponents 4 c) ≡ Some v → greatest_variable (four_words a b c d) ≡ Some (8 + v)
unfolding four_words exponents
greatest_of_third a b c d v fourth some =
    above (exponents 4 a ++ exponents 4 b) (exponents 4 c ++ exponents 4 d) v (below (exponents 4 c) (exponents 4 d) fourth ∙ some)

pub greatest_of_second : (a b c d v : ℕ) → greatest_variable (exponents 4 d) ≡ None → greatest_variable (exponents 4 c) ≡ None → greatest_variable (exponents 4 b) ≡ Some v → greatest_variable (four_words a b c d) ≡ Some (4 + v)
unfolding four_words exponents
greatest_of_second a b c d v fourth third some =
    let upper : greatest_variable (exponents 4 c ++ exponents 4 d) ≡ None = below (exponents 4 c) (exponents 4 d) fourth ∙ third in
    above (exponents 4 a) (exponents 4 b ++ (exponents 4 c ++ exponents 4 d)) v (below (exponents 4 b) (exponents 4 c ++ exponents 4 d) upper ∙ some)

pub greatest_of_first : (a b c d : ℕ) → greatest_variable (exponents 4 d) ≡ None → greatest_variable (exponents 4 c) ≡ None → greatest_variable (exponents 4 b) ≡ None → greatest_variable (four_words a b c d) ≡ greatest_variable (exponents 4 a)
unfolding four_words
greatest_of_first a b c d fourth third second =
    let upper : greatest_variable (exponents 4 c ++ exponents 4 d) ≡ None = below (exponents 4 c) (exponents 4 d) fourth ∙ third in
    let middle : greatest_variable (exponents 4 b ++ (exponents 4 c ++ exponents 4 d)) ≡ None = below (exponents 4 b) (exponents 4 c ++ exponents 4 d) upper ∙ second in
    below (exponents 4 a) (exponents 4 b ++ (exponents 4 c ++ exponents 4 d)) middle
