-- No variable above the greatest that occurs does.
use Rattle.std.proofs.Common.{◌∙◌, sym, subst, arith}
use Rattle.mono_words.specs.declared.mono.TheConstants.{VARS}
use Rattle.polynomials.specs.Monomials.{exponent_of}
use Rattle.polynomials.proofs.MainVariables.{IsGreatest, greatest_variable_is}
use Rattle.sparse_poly.proofs.BoxTurns.{greatest_bounds}
use Rattle.sparse_poly.proofs.boxes.variables_of.Goals as goal

pub overflow_add-result : goal.overflow_add-result
overflow_add-result c =
    let below = (greatest_bounds VARS c.in-Some.v c.args.m c.shape.ensures.variables (sym c.greatest_variable.ensures ∙ c.in-Some.is)).0 in
    omega arith

pub returns-in-Some-clause-free : goal.returns-in-Some-clause-free
returns-in-Some-clause-free c =
    (greatest_bounds VARS c.in-Some.v c.args.m c.shape.ensures.variables (sym c.greatest_variable.ensures ∙ c.in-Some.is)).1

pub returns-in-Some-clause-most : goal.returns-in-Some-clause-most
returns-in-Some-clause-most c =
    let below = (greatest_bounds VARS c.in-Some.v c.args.m c.shape.ensures.variables (sym c.greatest_variable.ensures ∙ c.in-Some.is)).0 in
    omega arith

pub returns-in-None-clause-free : goal.returns-in-None-clause-free
returns-in-None-clause-free c = λ v up.
    subst (λ o. IsGreatest o (λ w. exponent_of w c.args.m)) (sym c.greatest_variable.ensures ∙ c.in-None.is) (greatest_variable_is c.args.m) v
