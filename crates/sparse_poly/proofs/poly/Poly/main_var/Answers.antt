-- The first term has the main variable.
use Rattle.std.proofs.Common.{◌^◌, ◌∙◌, ap, sym, subst}
use Rattle.mono_words.specs.declared.mono.TheConstants.{VARS}
use Rattle.polynomials.specs.Polynomials.{IsPolynomial}
use Rattle.polynomials.specs.Views.{main_var}
use Rattle.sparse_poly.proofs.Places.{drop_item, IsPolynomial-item}
use Rattle.sparse_poly.proofs.FirstVariables.{main_var-first}
use Rattle.sparse_poly.proofs.poly.Poly.main_var.Goals as goal

pub returns-in-Some : goal.returns-in-Some
returns-in-Some c =
    c.greatest_variable.ensures
    ∙ (main_var-first (2 ^ 32) VARS c.in-Some.first.now _ (IsPolynomial-item (2 ^ 32) VARS 0 c.terms.result.now c.in-Some.first.now (subst (IsPolynomial (2 ^ 32) VARS) (sym c.terms.ensures.terms) c.terms.ensures.canonical) c.in-Some.ensures.item.3.0 c.in-Some.ensures.item.1)
    ∙ (ap main_var (sym (drop_item c.terms.result.now 0 c.in-Some.first.now c.in-Some.ensures.item.3.0 c.in-Some.ensures.item.1))
    ∙ ap main_var c.terms.ensures.terms))
