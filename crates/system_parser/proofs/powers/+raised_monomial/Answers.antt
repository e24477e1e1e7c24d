-- A power is made of that with half the exponent.
use Rattle.std.proofs.Common.{◌≡◌, ◌/◌, ◌+◌, sym, ap, ◌∙◌, arith}
use Rattle.system_parser.specs.Powers.{within_exponents, monomial_power}
use Rattle.system_parser.proofs.RaisedMonomials.{first_power, none_above, within_product}
use Rattle.system_parser.proofs.powers.+raised_monomial.Goals as goal

pub returns-then-e-eq1 : goal.returns-then-e-eq1
returns-then-e-eq1 t c = first_power c.args.m c.shape.ensures.within ∙ ap (λ e. within_exponents (monomial_power c.args.m e)) (sym c.if-e-eq1.true)

pub returns-in-None : goal.returns-in-None
returns-in-None t c = none_above c.args.m (c.args.e / 2) c.args.e (omega arith) c.in-None.ensures

pub returns-in-None-monomial_product : goal.returns-in-None-monomial_product
returns-in-None-monomial_product t c =
    none_above c.args.m (c.args.e / 2 + c.args.e / 2) c.args.e (omega arith)
    (c.in-None-monomial_product.ensures ∙ within_product c.args.m c.in-Some.half c.in-Some.half (c.args.e / 2) (c.args.e / 2) c.in-Some.ensures c.in-Some.ensures)

pub returns-in-Some-monomial_product : goal.returns-in-Some-monomial_product
returns-in-Some-monomial_product t c =
    let whole : c.args.e / 2 + c.args.e / 2 ≡ c.args.e = omega arith in
    c.in-Some-monomial_product.ensures
    ∙ within_product c.args.m c.in-Some.half c.in-Some.half (c.args.e / 2) (c.args.e / 2) c.in-Some.ensures c.in-Some.ensures
    ∙ ap (λ e. within_exponents (monomial_power c.args.m e)) whole

pub returns-in-Some-2 : goal.returns-in-Some-2
returns-in-Some-2 t c =
    let whole : c.args.e / 2 + c.args.e / 2 + 1 ≡ c.args.e = omega arith in
    c.monomial_product-in-Some-2.ensures
    ∙ within_product c.args.m c.in-Some-monomial_product.square c.args.m (c.args.e / 2 + c.args.e / 2) 1
    (c.in-Some-monomial_product.ensures ∙ within_product c.args.m c.in-Some.half c.in-Some.half (c.args.e / 2) (c.args.e / 2) c.in-Some.ensures c.in-Some.ensures)
    (first_power c.args.m c.shape.ensures.within)
    ∙ ap (λ e. within_exponents (monomial_power c.args.m e)) whole
