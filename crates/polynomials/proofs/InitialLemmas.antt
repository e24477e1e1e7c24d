-- The initial: canonical, not 0, without the main variable, monic where the polynomial is.
use Rattle.std.proofs.Common.{◌≡◌, ℕ, zero, suc, ◌<◌, ◌≤◌, [], ◌∷◌, length, Option, Some, None, refl, sym, ap, ◌∙◌, subst, inl, inr, arith}
use Rattle.std.proofs.lemmas.Bool.{cases_eq}
use Rattle.std.proofs.lemmas.Cmp.{ranked}
use Rattle.std.specs.Ordering.{nat_cmp, ordering_then}
use Rattle.std.specs.declared.cmp.Ordering.TheVariants.{Less}
use Rattle.polynomials.specs.Monomials.{Monomial, exponent_of, monomial_order}
use Rattle.polynomials.specs.MonomialOrders.{then_less, monomial_order-refl, monomial_order_same}
use Rattle.polynomials.specs.Polynomials.{Term, Polynomial, IsPolynomial}
use Rattle.polynomials.specs.Views.{degree_in, lead_in, lead_in_main, main_var, initial_of, IsFreeOf}
use Rattle.polynomials.proofs.Monomialwise.{EachMonomial, EachMonomial-implied, EachMonomial-both, HaveLength-from_IsPolynomial}
use Rattle.polynomials.proofs.FirstTerms.{AreBelow-from_StartsBelow}
use Rattle.polynomials.proofs.Coefficients.{IsPolynomial-coefficient_in}
use Rattle.polynomials.proofs.Degrees.{coefficient_in_free, degree_in-coefficient_in, degree_in-from_bound}
use Rattle.polynomials.proofs.MainVariables.{free_above_main_var, replicate_from_zeros}

-- with a main variable the initial is the lead in it
pub initial_of-lead_in : (v : ℕ) (f : Polynomial) → main_var f ≡ Some v → initial_of f ≡ lead_in v f
initial_of-lead_in v f e = ap (lead_in_main f) e

lead_is_canonical : (p n : ℕ) (f : Polynomial) (o : Option ℕ) → IsPolynomial p n f → IsPolynomial p n (lead_in_main f o)
lead_is_canonical p n f None i = i
lead_is_canonical p n f (Some v) i = IsPolynomial-coefficient_in v (degree_in v f) p n f i

-- the initial is canonical
pub IsPolynomial-initial_of : (p n : ℕ) (f : Polynomial) → IsPolynomial p n f → IsPolynomial p n (initial_of f)
IsPolynomial-initial_of p n f i = lead_is_canonical p n f (main_var f) i

-- no variable from the main one on occurs in the initial
pub initial_of_free : (v w : ℕ) (f : Polynomial) → main_var f ≡ Some v → v ≤ w → IsFreeOf w (initial_of f)
initial_of_free v w f e up = subst (IsFreeOf w) (sym (initial_of-lead_in v f e)) (elim (cases_eq w v) [
  | inl same ↦ subst (λ x. IsFreeOf x (lead_in v f)) (sym same) (coefficient_in_free v (degree_in v f) f)
  | inr other ↦
      let above = free_above_main_var v w f e (omega arith) in
      let bound = degree_in-coefficient_in w v (degree_in v f) 0 f (omega arith) in
      omega arith
])

-- a variable that doesn't occur in f doesn't occur in the initial
lead_keeps_free : (w : ℕ) (f : Polynomial) (o : Option ℕ) → IsFreeOf w f → IsFreeOf w (lead_in_main f o)
lead_keeps_free w f None free = free
lead_keeps_free w f (Some v) free =
    let bound = degree_in-coefficient_in w v (degree_in v f) 0 f (omega arith) in
    omega arith

-- nor does it occur in the initial
pub initial_of_keeps_free : (w : ℕ) (f : Polynomial) → IsFreeOf w f → IsFreeOf w (initial_of f)
initial_of_keeps_free w f free = lead_keeps_free w f (main_var f) free

-- of one length, a smaller monomial has no greater exponent of v, where no later variable occurs
exponent_not_greater : (v : ℕ) (l m : Monomial) → length l ≡ length m → ((w : ℕ) → v < w → exponent_of w l ≡ 0) → ((w : ℕ) → v < w → exponent_of w m ≡ 0) → monomial_order l m ≡ Less → exponent_of v l ≤ exponent_of v m
exponent_not_greater v [] m h zeros_l zeros_m less = omega arith
exponent_not_greater v (d ∷ l) [] h zeros_l zeros_m less = absurd (omega arith)
exponent_not_greater zero (d ∷ l) (e ∷ m) h zeros_l zeros_m less =
    let same : l ≡ m = replicate_from_zeros (length m) l (omega arith) (λ w. zeros_l (suc w) (omega arith)) ∙ sym (replicate_from_zeros (length m) m refl (λ w. zeros_m (suc w) (omega arith))) in
    let first : nat_cmp d e ≡ Less = sym (ap (λ o. ordering_then o (nat_cmp d e)) (ap (λ k. monomial_order k m) same ∙ monomial_order-refl m)) ∙ less in
    let smaller : d < e = ranked d e Less (sym first) in
    omega arith
exponent_not_greater (suc v) (d ∷ l) (e ∷ m) h zeros_l zeros_m less =
    let later = exponent_not_greater v l m (omega arith) (λ w up. zeros_l (suc w) (omega arith)) (λ w up. zeros_m (suc w) (omega arith)) in
    elim (then_less (monomial_order l m) (nat_cmp d e) less) [
      | inl down ↦ later down
      | inr tie ↦ subst (λ k. exponent_of v l ≤ exponent_of v k) (monomial_order_same l m tie.0) (omega arith)
    ]

-- what no variable of f has, no monomial of f has
each_zero : (v : ℕ) (f : Polynomial) → ((w : ℕ) → v < w → IsFreeOf w f) → EachMonomial (λ m. (w : ℕ) → v < w → exponent_of w m ≡ 0) f
each_zero v [] h = tt
each_zero v (t ∷ f) h = ((λ w up. omega (arith, h w up)), each_zero v f (λ w up. omega (arith, h w up)))

-- the first term of a polynomial has the greatest exponent of the main variable
pub first_exponent : (p n v : ℕ) (t : Term) (f : Polynomial) → IsPolynomial p n (t ∷ f) → main_var (t ∷ f) ≡ Some v → exponent_of v t.0 ≡ degree_in v (t ∷ f)
first_exponent p n v t f i e =
    let zeros = each_zero v (t ∷ f) (λ w up. free_above_main_var v w (t ∷ f) e up) in
    let bounds = EachMonomial-implied
    (λ m. ((monomial_order m t.0 ≡ Less) × (length m ≡ n)) × ((w : ℕ) → v < w → exponent_of w m ≡ 0))
    (λ m. exponent_of v m ≤ exponent_of v t.0)
    (λ m h. exponent_not_greater v m t.0 (h.0.1 ∙ sym i.0) h.1 zeros.0 h.0.0)
    f
    (EachMonomial-both (λ m. (monomial_order m t.0 ≡ Less) × (length m ≡ n)) (λ m. (w : ℕ) → v < w → exponent_of w m ≡ 0) f (EachMonomial-both (λ m. monomial_order m t.0 ≡ Less) (λ m. length m ≡ n) f (AreBelow-from_StartsBelow p n t.0 f i.4 i.3) (HaveLength-from_IsPolynomial p n f i.4)) zeros.1) in
    let rest = degree_in-from_bound v (exponent_of v t.0) f bounds in
    omega arith
