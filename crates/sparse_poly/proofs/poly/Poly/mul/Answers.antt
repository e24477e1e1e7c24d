-- What fits is multiplied, the shorter factor giving the parts.
use Rattle.std.proofs.Common.{◌≡◌, ◌≢◌, ◌+◌, ◌≤◌, ◌∙◌, [], ap, ap₂, sym, refl, subst, length, arith}
use Rattle.std.proofs.Math.Nat.{mul_comm}
use Rattle.mono_words.specs.declared.mono.TheConstants.{VARS}
use Rattle.polynomials.specs.Polynomials.{product_of}
use Rattle.polynomials.specs.Views.{degree_in}
use Rattle.polynomials.specs.Monomials.{exponent_of}
use Rattle.polynomials.proofs.DegreesOfProducts.{degree_of_product}
use Rattle.polynomials.proofs.Exponents.{exponent_of-product}
use Rattle.polynomials.proofs.FitsLemmas.{fits_comm}
use Rattle.polynomials.proofs.Integral.{product_of-zero}
use Rattle.polynomials.proofs.PolynomialLaws.{product_of_comm}
use Rattle.sparse_poly.proofs.Moduli.{positive_modulus}
use Rattle.sparse_poly.proofs.FittingPairs.{PairsFit-from_fits, fitting_pairs_are_few, fitting_degrees}
use Rattle.sparse_poly.proofs.ValueClauses.{has_value_of_product}
use Rattle.sparse_poly.proofs.poly.Poly.mul.Goals as goal
use Rattle.sparse_poly.proofs.poly.Poly.mul.Goals.{Joined-term_count, then-is_zero-via-then-is_zero, then-is_zero-via-else-is_zero+then-is_zero-2, then-term_count+in_ok-terms, else-term_count+in_ok-terms-2}

pub product-requires-clause-fit : goal.product-requires-clause-fit
product-requires-clause-fit c = PairsFit-from_fits c.args.w.width c.args.self.now c.args.other.now (c.if-not-fits.ensures.0 refl)

pub product-requires-else-term_count-clause-fit : goal.product-requires-else-term_count-clause-fit
product-requires-else-term_count-clause-fit c = PairsFit-from_fits c.args.w.width c.args.other.now c.args.self.now (fits_comm c.args.w.width c.args.self.now c.args.other.now (c.if-not-fits.ensures.0 refl))

pub product-requires-clause-pairs : goal.product-requires-clause-pairs
product-requires-clause-pairs c = let few = fitting_pairs_are_few c.args.w.width c.args.self.now c.args.other.now (c.if-not-fits.ensures.0 refl) in omega arith

pub product-requires-else-term_count-clause-pairs : goal.product-requires-else-term_count-clause-pairs
product-requires-else-term_count-clause-pairs c =
    let few = fitting_pairs_are_few c.args.w.width c.args.self.now c.args.other.now (c.if-not-fits.ensures.0 refl) in
    omega (arith, mul_comm (length c.args.self.now) (length c.args.other.now))

-- the product of both
made : (c : Joined-term_count) → c.if-term_count.terms.items ≡ product_of c.args.w.field c.args.self.now c.args.other.now
made c = elim c.if-term_count.branch [
  | then-term_count+in_ok-terms w ↦ rw w.terms-is w.in_ok-terms.ensures.value
  | else-term_count+in_ok-terms-2 w ↦
      rw w.terms-is (w.in_ok-terms-2.ensures.value
      ∙ product_of_comm c.args.w.field (positive_modulus c.facts.ensures.least) VARS c.args.other.now c.args.self.now c.requires.right c.requires.left)
]

-- no factor is 0
self_nonzero : (c : Joined-term_count) → c.args.self.now ≢ []
self_nonzero c e = let t = c.if-is_zero.ensures.1 e in cc

other_nonzero : (c : Joined-term_count) → c.args.other.now ≢ []
other_nonzero c e = let t = c.if-is_zero-2.ensures.1 e in cc

pub product-degrees-requires : goal.product-degrees-requires
product-degrees-requires c = λ v.
    subst (λ k. k ≤ 65535) (sym (ap₂ ◌+◌ (c.degrees.ensures v) (c.degrees-2.ensures v)))
    (fitting_degrees c.args.w.width c.args.self.now c.args.other.now (self_nonzero c.before.before) (other_nonzero c.before.before) (c.if-not-fits.ensures.0 refl) v)

pub with_degrees-requires-clause-degrees : goal.with_degrees-requires-clause-degrees
with_degrees-requires-clause-degrees c = λ v.
    ap (exponent_of v) c.product-degrees.ensures
    ∙ (exponent_of-product v c.degrees.result c.degrees-2.result
    ∙ (ap₂ ◌+◌ (c.degrees.ensures v) (c.degrees-2.ensures v)
    ∙ (sym (degree_of_product c.args.w.field VARS v c.args.self.now c.args.other.now c.facts.ensures.prime c.requires.left c.requires.right (self_nonzero c.before.before.before) (other_nonzero c.before.before.before))
    ∙ ap (degree_in v) (sym (made c.before.before.before)))))

pub returns-clause-product : goal.returns-clause-product
returns-clause-product c = c.with_degrees.ensures ∙ made c.before.before.before.before

pub returns-clause-values : goal.returns-clause-values
returns-clause-values c = has_value_of_product c.args.w.field c.args.self.now c.args.other.now c.with_degrees.result (returns-clause-product c)

pub returns-then-is_zero-clause-product : goal.returns-then-is_zero-clause-product
returns-then-is_zero-clause-product c = elim c.then-is_zero.branch [
  | then-is_zero-via-then-is_zero w ↦ c.zero.ensures ∙ sym (ap (λ f. product_of c.args.w.field f c.args.other.now) (w.if-is_zero.ensures.0 refl))
  | then-is_zero-via-else-is_zero+then-is_zero-2 w ↦
      c.zero.ensures ∙ sym (ap (product_of c.args.w.field c.args.self.now) (w.if-is_zero-2.ensures.0 refl) ∙ product_of-zero c.args.w.field c.args.self.now)
]

pub returns-then-is_zero-clause-values : goal.returns-then-is_zero-clause-values
returns-then-is_zero-clause-values c = has_value_of_product c.args.w.field c.args.self.now c.args.other.now c.zero.result (returns-then-is_zero-clause-product c)
