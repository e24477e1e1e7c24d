-- A term is written as its coefficient and its powers, or as its powers alone.
use Rattle.std.proofs.Common.{◌≡◌, ◌≢◌, ◌∙◌, ◌↔◌, IsTrue, ℕ, zero, suc, ◌<◌, ◌≤◌, Bool, true, false, List, [], ◌∷◌, ◌++◌, length, replicate, refl, sym, subst, ap, ap₂, get_or, append_assoc, arith}
use Rattle.std.proofs.lemmas.Bool.{eq-eqb, ne_eqb}
use Rattle.std.specs.Fmt.{decimal}
use Rattle.polynomials.specs.Monomials.{Monomial, exponent_of}
use Rattle.polynomials.specs.Polynomials.{Term, term, Polynomial}
use Rattle.polynomials.specs.Views.{IsFreeOf}
use Rattle.report_text.specs.Polynomials.{power_texts, factor_texts, product_text, powers_text, term_text}

-- the monomial 1 has no powers
powers_of_one : (names : List (List ℕ)) (n : ℕ) → power_texts names (replicate n 0) ≡ []
powers_of_one [] n = refl
powers_of_one (name ∷ names) zero = refl
powers_of_one (name ∷ names) (suc n) = powers_of_one names n

-- no exponent but 0
pub all_zero : (m : Monomial) → ((v : ℕ) → exponent_of v m ≡ 0) → m ≡ replicate (length m) 0
all_zero [] h = refl
all_zero (e ∷ m) h = ap₂ ◌∷◌ (h 0) (all_zero m (λ v. h (suc v)))

-- without powers, in named variables alone, a monomial is 1
one_from_no_powers : (names : List (List ℕ)) (m : Monomial) → ((v : ℕ) → length names ≤ v → exponent_of v m ≡ 0) → power_texts names m ≡ [] → m ≡ replicate (length m) 0
one_from_no_powers [] m named h = all_zero m (λ v. named v (omega arith))
one_from_no_powers (name ∷ names) [] named h = refl
one_from_no_powers (name ∷ names) (zero ∷ m) named h = ap (λ l. 0 ∷ l) (one_from_no_powers names m (λ v past. named (suc v) (omega arith)) h)
one_from_no_powers (name ∷ names) (suc e ∷ m) named h = let bad = rw (ne_eqb (suc e) 0 (λ x. omega arith)) at h in cc

module _ (names : List (List ℕ)) (m : Monomial) (c : ℕ) where
  -- the coefficient 1 before a power isn't written
  without_coefficient : (powers : List (List ℕ)) → c ≡ 1 → powers ≢ [] → powers_text true powers ≡ product_text (factor_texts c powers)
  without_coefficient [] one some = absurd (some refl)
  without_coefficient (power ∷ powers) one some = rw (eq-eqb c 1 one) refl

  pub powers_alone : c ≡ 1 → m ≢ replicate (length m) 0 → ((v : ℕ) → length names ≤ v → exponent_of v m ≡ 0) → powers_text true (power_texts names m) ≡ term_text names (term m c)
  powers_alone one other named = without_coefficient (power_texts names m) one (λ none. other (one_from_no_powers names m named none))

  -- any other is
  with_coefficient : (powers : List (List ℕ)) → (c ≡ 1 → powers ≡ []) → decimal c ++ powers_text false powers ≡ product_text (factor_texts c powers)
  with_coefficient [] none = refl
  with_coefficient (power ∷ powers) none = rw (ne_eqb c 1 (λ one. cc (none one))) refl

  pub coefficient_and_powers : (c ≡ 1 → m ≡ replicate (length m) 0) → decimal c ++ powers_text false (power_texts names m) ≡ term_text names (term m c)
  coefficient_and_powers one = with_coefficient (power_texts names m) (λ e. ap (power_texts names) (one e) ∙ powers_of_one names (length m))

  -- behind what was written before
  pub term_whole : (text coefficient : List ℕ) → coefficient ≡ text ++ decimal c → (c ≡ 1 → m ≡ replicate (length m) 0) → coefficient ++ powers_text false (power_texts names m) ≡ text ++ term_text names (term m c)
  term_whole text coefficient e one =
      ap (λ x. x ++ powers_text false (power_texts names m)) e
      ∙ (append_assoc text (decimal c) (powers_text false (power_texts names m))
      ∙ ap (λ x. text ++ x) (coefficient_and_powers one))

-- what the test of the monomial 1 says
pub one_by_test : (n : ℕ) (b : Bool) (m : Monomial) → length m ≡ n → (IsTrue b ↔ (m ≡ replicate n 0)) → b ≡ true → m ≡ replicate (length m) 0
one_by_test n b m l test e = test.0 e ∙ ap (λ k. replicate k 0) (sym l)

pub other_by_test : (n : ℕ) (b : Bool) (m : Monomial) → length m ≡ n → (IsTrue b ↔ (m ≡ replicate n 0)) → b ≡ false → m ≢ replicate (length m) 0
other_by_test n b m l test e same = let yes = test.1 (same ∙ ap (λ k. replicate k 0) l) in cc

-- in each term of a polynomial that is free of it, a variable has the exponent 0
pub free_item : (v : ℕ) (f : Polynomial) (i : ℕ) (t : Term) → IsFreeOf v f → i < length f → t ≡ get_or f i t → exponent_of v t.0 ≡ 0
free_item v [] i t free below e = absurd (omega arith)
free_item v (u ∷ f) zero t free below e =
    let first : exponent_of v u.0 ≡ 0 = omega arith in
    ap (λ (x : Term). exponent_of v x.0) e ∙ first
free_item v (u ∷ f) (suc i) t free below e = free_item v f i t (omega arith) (omega arith) e

-- the first, and those behind it
pub free_first : (v : ℕ) (f terms : Polynomial) (t : Term) (others : Polynomial) → terms ≡ f → terms ≡ t ∷ others → IsFreeOf v f → exponent_of v t.0 ≡ 0
free_first v f terms t others e first free =
    let whole : IsFreeOf v (t ∷ others) = subst (IsFreeOf v) (sym e ∙ first) free in
    omega arith

pub free_other : (v : ℕ) (f terms : Polynomial) (t : Term) (others : Polynomial) (i : ℕ) (u : Term) → terms ≡ f → terms ≡ t ∷ others → IsFreeOf v f → i < length others → u ≡ get_or others i u → exponent_of v u.0 ≡ 0
free_other v f terms t others i u e first free below item =
    let whole : IsFreeOf v (t ∷ others) = subst (IsFreeOf v) (sym e ∙ first) free in
    free_item v others i u (omega arith) below item
