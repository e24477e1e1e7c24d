-- In an elimination the leads of both multiples cancel, so that the tails are enough.
use Rattle.std.proofs.Common.{◌≡◌, ℕ, zero, suc, ◌+◌, ◌-◌, ◌<◌, ◌≤◌, Bool, true, false, [], ◌∷◌, replicate, Option, Some, None, refl, sym, ap, ap₂, ◌∙◌, arith}
use Rattle.std.proofs.Math.Nat.{mod-eq_of_lt}
use Rattle.std.proofs.lemmas.List.{length-replicate}
use Rattle.polynomials.specs.Primes.{IsPrime}
use Rattle.polynomials.specs.Monomials.{monomial_product}
use Rattle.polynomials.specs.MonomialOrders.{replicate-monomial_product}
use Rattle.polynomials.specs.Polynomials.{term, Polynomial, IsPolynomial, sum_of, product_of, negative_of, difference_of, variable_power}
use Rattle.polynomials.specs.Views.{degree_in, lead_in, tail_in}
use Rattle.polynomials.specs.Fits.{fits}
use Rattle.polynomials.specs.Rings.{Ring}
use Rattle.polynomials.proofs.RingLaws.{plus_four, plus-neg, nil-plus, neg-sum, times_comm, times_assoc, times_left_comm, times-plus}
use Rattle.polynomials.proofs.Exponents.{power_monomial}
use Rattle.polynomials.proofs.LeadAndTail.{IsPolynomial-variable_power, lead_and_tail}
use Rattle.polynomials.proofs.PolynomialRing.{CanonicalPolynomial, polynomial_ring}
use Rattle.sparse_poly.proofs.Products.{product_of-term}
use Rattle.division_rules.specs.Operations.{Operations, shifted_lead}
use Rattle.division_rules.specs.Lists.{list_operations}
use Rattle.division_rules.specs.Rows.{cross}
use Rattle.division_rules.specs.Within.{and_then, cross_within}

-- powers of one variable multiply by adding their exponents
power_monomial-product : (n v a b : ℕ) → monomial_product (power_monomial n v a) (power_monomial n v b) ≡ power_monomial n v (a + b)
power_monomial-product zero v a b = refl
power_monomial-product (suc n) zero a b = ap (λ m. (a + b) ∷ m) (replicate-monomial_product n (replicate n 0) (length-replicate n 0))
power_monomial-product (suc n) (suc v) a b = ap (λ m. 0 ∷ m) (power_monomial-product n v a b)

-- as polynomials too
variable_power-product : (p n v a b : ℕ) → IsPrime p → product_of p (variable_power n v a) (variable_power n v b) ≡ variable_power n v (a + b)
variable_power-product p n v a b prime =
    product_of-term p n prime (term (power_monomial n v a) 1) (variable_power n v b) (IsPolynomial-variable_power p n v a prime.many) (IsPolynomial-variable_power p n v b prime.many)
    ∙ ap₂ (λ m c. term m c ∷ []) (power_monomial-product n v a b) (mod-eq_of_lt prime.many)

module _ {A : Type 0} (r : Ring A) where
  open r use {◌⊕◌, ◌⊗◌, nil, one, neg}

  -- equal first summands cancel in a difference
  cancelled : (a b s t : A) → a ≡ b → (a ⊕ s) ⊕ neg (b ⊕ t) ≡ s ⊕ neg t
  cancelled a b s t same =
      ap₂ (λ x y. (x ⊕ s) ⊕ y) same (neg-sum r b t)
      ∙ (plus_four r b s (neg b) (neg t)
      ∙ (ap (λ x. x ⊕ (s ⊕ neg t)) (plus-neg r b) ∙ nil-plus r (s ⊕ neg t)))

  -- l times c z y is z c times l y
  same_product : (l c z y : A) → l ⊗ (c ⊗ (z ⊗ y)) ≡ (z ⊗ c) ⊗ (l ⊗ y)
  same_product l c z y =
      ap (λ x. l ⊗ x) (sym (times_assoc r c z y))
      ∙ (times_left_comm r l (c ⊗ z) y ∙ ap (λ x. x ⊗ (l ⊗ y)) (times_comm r c z))

  -- where f is c z y + s and g is l y + t, l f - z c g is l s - z c t
  tails_left : (l c z y s t : A) → (l ⊗ ((c ⊗ (z ⊗ y)) ⊕ s)) ⊕ neg ((z ⊗ c) ⊗ ((l ⊗ y) ⊕ t)) ≡ (l ⊗ s) ⊕ neg ((z ⊗ c) ⊗ t)
  tails_left l c z y s t =
      ap₂ (λ a b. a ⊕ neg b) (times-plus r l (c ⊗ (z ⊗ y)) s) (times-plus r (z ⊗ c) (l ⊗ y) t)
      ∙ cancelled (l ⊗ (c ⊗ (z ⊗ y))) ((z ⊗ c) ⊗ (l ⊗ y)) (l ⊗ s) ((z ⊗ c) ⊗ t) (same_product l c z y)

module _ (p n v : ℕ) (f g : Polynomial) (prime : IsPrime p) (below : v < n) (i : IsPolynomial p n f) (j : IsPolynomial p n g) (at_most : degree_in v g ≤ degree_in v f) where
  abbrev o : Operations Polynomial
  o = list_operations p n

  abbrev l : Polynomial
  l = lead_in v g

  abbrev m : Polynomial
  m = shifted_lead o v f g

  -- f by its lead, with the power in two parts
  whole_left : sum_of p (product_of p (lead_in v f) (product_of p (variable_power n v (degree_in v f - degree_in v g)) (variable_power n v (degree_in v g)))) (tail_in v f) ≡ f
  whole_left =
      let sum : degree_in v f - degree_in v g + degree_in v g ≡ degree_in v f = omega arith in
      ap (λ x. sum_of p (product_of p (lead_in v f) x) (tail_in v f)) (variable_power-product p n v (degree_in v f - degree_in v g) (degree_in v g) prime ∙ ap (variable_power n v) sum)
      ∙ (lead_and_tail p n v f prime.many i).whole below

  -- an elimination takes the tails alone
  elimination_by_tails : cross o l m f g ≡ difference_of p (product_of p l (tail_in v f)) (product_of p m (tail_in v g))
  elimination_by_tails =
      let of_f = lead_and_tail p n v f prime.many i in
      let of_g = lead_and_tail p n v g prime.many j in
      ap₂ (λ x y. sum_of p (product_of p l x) (negative_of p (product_of p m y))) (sym whole_left) (sym (of_g.whole below))
      ∙ ap (λ (x : CanonicalPolynomial p n). x.0)
      (tails_left (polynomial_ring p n prime.many) (l, of_g.lead) (lead_in v f, of_f.lead) (variable_power n v (degree_in v f - degree_in v g), IsPolynomial-variable_power p n v (degree_in v f - degree_in v g) prime.many) (variable_power n v (degree_in v g), IsPolynomial-variable_power p n v (degree_in v g) prime.many) (tail_in v f, of_f.tail) (tail_in v g, of_g.tail))

  -- so it is the difference of the products by the tails, where those by the whole fit
  pub crossed_within : (w : ℕ) (a b h : Polynomial) → a ≡ l → b ≡ m → fits w a f ≡ true → fits w b g ≡ true → h ≡ difference_of p (product_of p a (tail_in v f)) (product_of p b (tail_in v g)) → Some h ≡ cross_within o w a b f g
  crossed_within w a b h a_is b_is first second is =
      ap Some (is ∙ (ap₂ (λ x y. difference_of p (product_of p x (tail_in v f)) (product_of p y (tail_in v g))) a_is b_is
      ∙ (sym elimination_by_tails ∙ ap₂ (λ x y. cross o x y f g) (sym a_is) (sym b_is))))
      ∙ go (fits w a f) (fits w b g) first second
    where
      go : (c d : Bool) → c ≡ true → d ≡ true → Some (cross o a b f g) ≡ and_then (elim c as (λ _. Option Polynomial) [ true ↦ Some (product_of p a f) | false ↦ None ]) (λ x. and_then (elim d as (λ _. Option Polynomial) [ true ↦ Some (product_of p b g) | false ↦ None ]) (λ y. Some (difference_of p x y)))
      go true true first second = refl
      go true false first second = cc
      go false d first second = cc
