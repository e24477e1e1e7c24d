-- Monomials are equal exactly where they tie in the order.
use Rattle.std.proofs.Common.{◌≡◌, true, refl, ap, ◌∙◌}
use Rattle.std.specs.Ordering.{is_eq}
use Rattle.std.specs.declared.cmp.Ordering.{Ordering}
use Rattle.std.specs.declared.cmp.Ordering.TheVariants.{Less, Equal, Greater}
use Rattle.std.proofs.lemmas.Bool.Decides.{same_from_decides}
use Rattle.polynomials.specs.Monomials.{Monomial, monomial_order, same_monomial}
use Rattle.polynomials.specs.MonomialOrders.{monomial_order_same, monomial_order-refl}
use Rattle.polynomials.specs.Equalities.{same_monomial_decides}

-- the test of a tie says what it is named for
equal_from_is_eq : (o : Ordering) → is_eq o ≡ true → o ≡ Equal
equal_from_is_eq Less h = cc
equal_from_is_eq Equal h = refl
equal_from_is_eq Greater h = cc

-- the test of equality is the test of a tie
pub same_monomial-ties : (l m : Monomial) → same_monomial l m ≡ is_eq (monomial_order l m)
same_monomial-ties l m =
    same_from_decides (same_monomial l m) (is_eq (monomial_order l m)) (same_monomial_decides l m) (
      (λ h. monomial_order_same l m (equal_from_is_eq (monomial_order l m) h)),
      (λ e. ap (λ x. is_eq (monomial_order x m)) e ∙ ap is_eq (monomial_order-refl m)),
    )
