-- In the variable the degree of the tail is less, and in no other it is greater.
use Rattle.std.proofs.Common.{◌≤◌, ◌-◌, ◌∙◌, ap, ap₂, sym, subst}
use Rattle.mono_words.specs.declared.mono.TheConstants.{VARS}
use Rattle.polynomials.specs.Monomials.{exponent_of}
use Rattle.polynomials.specs.Views.{degree_in, tail_in}
use Rattle.polynomials.specs.Fits.{greater_exponents}
use Rattle.sparse_poly.proofs.TailBounds.{tail_bound}
use Rattle.sparse_poly.proofs.poly.Poly.tail_degrees.Goals as goal

pub returns : goal.returns
returns c = λ w.
    subst (λ m. degree_in w (tail_in c.args.v c.args.self.now) ≤ exponent_of w m) (sym (c.max_exponents.ensures ∙ ap₂ greater_exponents c.without.ensures c.power.ensures))
    (tail_bound VARS c.args.v c.args.self.now c.degrees-degrees.result c.saturating_sub-below.result c.requires c.degrees-degrees.ensures
    (c.saturating_sub-below.ensures ∙ ap (λ k. k - 1) (c.exponent.ensures ∙ c.degrees-degrees.ensures c.args.v)) w)
