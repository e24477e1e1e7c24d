-- Weighted sums of terms in any commutative ring.
use Rattle.std.proofs.Common.{◌≡◌, List, [], ◌∷◌, ◌++◌, map, refl, sym, ap, ap₂, ◌∙◌}
use Rattle.polynomials.specs.Monomials.{Monomial, monomial_product}
use Rattle.polynomials.specs.Polynomials.{Term, term_product, term_products}
use Rattle.polynomials.specs.Rings.{Ring, natural_in, weighted_sum}
use Rattle.polynomials.proofs.Monomialwise.{EachMonomial}
use Rattle.polynomials.proofs.RingLaws.{plus_comm, plus_assoc, nil-plus, plus-nil, plus_four, times_comm, times_assoc, times_left_comm, times-plus, times-nil}
use Rattle.polynomials.proofs.NaturalsInRings.{natural_in-mul}

module _ {A : Type 0} (r : Ring A) where
  open r use {◌⊕◌, ◌⊗◌, nil, one, neg}

  -- lists one after the other have the sum of the sums
  pub weighted_sum-append : (h : Monomial → A) (f g : List Term) → weighted_sum r h (f ++ g) ≡ weighted_sum r h f ⊕ weighted_sum r h g
  weighted_sum-append h [] g = sym (nil-plus r (weighted_sum r h g))
  weighted_sum-append h (t ∷ f) g = ap (λ w. (natural_in r t.1 ⊗ h t.0) ⊕ w) (weighted_sum-append h f g) ∙ sym (plus_assoc r (natural_in r t.1 ⊗ h t.0) (weighted_sum r h f) (weighted_sum r h g))

  -- which doesn't depend on which is first
  pub weighted_sum-append_comm : (h : Monomial → A) (f g : List Term) → weighted_sum r h (f ++ g) ≡ weighted_sum r h (g ++ f)
  weighted_sum-append_comm h f g = weighted_sum-append h f g ∙ plus_comm r (weighted_sum r h f) (weighted_sum r h g) ∙ sym (weighted_sum-append h g f)

  -- equal weights give equal sums
  pub weighted_sum-same : (h k : Monomial → A) → ((m : Monomial) → h m ≡ k m) → (f : List Term) → weighted_sum r h f ≡ weighted_sum r k f
  weighted_sum-same h k same [] = refl
  weighted_sum-same h k same (t ∷ f) = ap₂ ◌⊕◌ (ap (λ w. natural_in r t.1 ⊗ w) (same t.0)) (weighted_sum-same h k same f)

  -- so do weights that are equal at each monomial of f
  pub weighted_sum-each : (h k : Monomial → A) (f : List Term) → EachMonomial (λ m. h m ≡ k m) f → weighted_sum r h f ≡ weighted_sum r k f
  weighted_sum-each h k [] same = refl
  weighted_sum-each h k (t ∷ f) same = ap₂ ◌⊕◌ (ap (λ w. natural_in r t.1 ⊗ w) same.0) (weighted_sum-each h k f same.1)

  -- the sum of two weights
  pub weighted_sum-sum : (h k : Monomial → A) (f : List Term) → weighted_sum r (λ m. h m ⊕ k m) f ≡ weighted_sum r h f ⊕ weighted_sum r k f
  weighted_sum-sum h k [] = sym (nil-plus r nil)
  weighted_sum-sum h k (t ∷ f) = ap₂ ◌⊕◌ (times-plus r (natural_in r t.1) (h t.0) (k t.0)) (weighted_sum-sum h k f) ∙ plus_four r (natural_in r t.1 ⊗ h t.0) (natural_in r t.1 ⊗ k t.0) (weighted_sum r h f) (weighted_sum r k f)

  -- a weight times a factor
  pub weighted_sum-times : (a : A) (h : Monomial → A) (f : List Term) → weighted_sum r (λ m. a ⊗ h m) f ≡ a ⊗ weighted_sum r h f
  weighted_sum-times a h [] = sym (times-nil r a)
  weighted_sum-times a h (t ∷ f) = ap₂ ◌⊕◌ (times_left_comm r (natural_in r t.1) a (h t.0)) (weighted_sum-times a h f) ∙ sym (times-plus r a (natural_in r t.1 ⊗ h t.0) (weighted_sum r h f))

  -- a factor behind the weight
  pub weighted_sum-times_right : (a : A) (h : Monomial → A) (f : List Term) → weighted_sum r (λ m. h m ⊗ a) f ≡ weighted_sum r h f ⊗ a
  weighted_sum-times_right a h f = weighted_sum-same (λ m. h m ⊗ a) (λ m. a ⊗ h m) (λ m. times_comm r (h m) a) f ∙ weighted_sum-times a h f ∙ times_comm r a (weighted_sum r h f)

  -- the weight 0
  pub weighted_sum-nil : (f : List Term) → weighted_sum r (λ m. nil) f ≡ nil
  weighted_sum-nil [] = refl
  weighted_sum-nil (t ∷ f) = ap₂ ◌⊕◌ (times-nil r (natural_in r t.1)) (weighted_sum-nil f) ∙ nil-plus r nil

  -- two sums may change places
  pub weighted_sum-exchange : (h : Monomial → Monomial → A) (f g : List Term) → weighted_sum r (λ l. weighted_sum r (h l) g) f ≡ weighted_sum r (λ m. weighted_sum r (λ l. h l m) f) g
  weighted_sum-exchange h [] g = sym (weighted_sum-nil g)
  weighted_sum-exchange h (t ∷ f) g = ap₂ ◌⊕◌ (sym (weighted_sum-times (natural_in r t.1) (h t.0) g)) (weighted_sum-exchange h f g) ∙ sym (weighted_sum-sum (λ m. natural_in r t.1 ⊗ h t.0 m) (λ m. weighted_sum r (λ l. h l m) f) g)

  -- the products of one term by each of g
  pub weighted_sum-map : (h : Monomial → A) (t : Term) (g : List Term) → weighted_sum r h (map (term_product t) g) ≡ natural_in r t.1 ⊗ weighted_sum r (λ m. h (monomial_product t.0 m)) g
  weighted_sum-map h t [] = sym (times-nil r (natural_in r t.1))
  weighted_sum-map h t (u ∷ g) = ap₂ ◌⊕◌ (ap (λ w. w ⊗ h (monomial_product t.0 u.0)) (natural_in-mul r t.1 u.1) ∙ times_assoc r (natural_in r t.1) (natural_in r u.1) (h (monomial_product t.0 u.0))) (weighted_sum-map h t g) ∙ sym (times-plus r (natural_in r t.1) (natural_in r u.1 ⊗ h (monomial_product t.0 u.0)) (weighted_sum r (λ m. h (monomial_product t.0 m)) g))

  -- the products of each term of f by each of g
  pub weighted_sum-term_products : (h : Monomial → A) (f g : List Term) → weighted_sum r h (term_products f g) ≡ weighted_sum r (λ l. weighted_sum r (λ m. h (monomial_product l m)) g) f
  weighted_sum-term_products h [] g = refl
  weighted_sum-term_products h (t ∷ f) g = weighted_sum-append h (map (term_product t) g) (term_products f g) ∙ ap₂ ◌⊕◌ (weighted_sum-map h t g) (weighted_sum-term_products h f g)

  -- for a weight that turns products into products, the sum of products is the product of the sums
  pub weighted_sum-multiplicative : (h : Monomial → A) → ((l m : Monomial) → h (monomial_product l m) ≡ h l ⊗ h m) → (f g : List Term) → weighted_sum r h (term_products f g) ≡ weighted_sum r h f ⊗ weighted_sum r h g
  weighted_sum-multiplicative h product f g = weighted_sum-term_products h f g ∙ weighted_sum-same (λ l. weighted_sum r (λ m. h (monomial_product l m)) g) (λ l. h l ⊗ weighted_sum r h g) (λ l. weighted_sum-same (λ m. h (monomial_product l m)) (λ m. h l ⊗ h m) (product l) g ∙ weighted_sum-times (h l) h g) f ∙ weighted_sum-times_right (weighted_sum r h g) h f

  -- a single term
  pub weighted_sum-single : (h : Monomial → A) (t : Term) → weighted_sum r h (t ∷ []) ≡ natural_in r t.1 ⊗ h t.0
  weighted_sum-single h t = plus-nil r (natural_in r t.1 ⊗ h t.0)
