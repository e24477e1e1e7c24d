-- A multiple by an inverse has the same zeros.
use Rattle.std.proofs.Common.{◌∙◌, ap, ap₂, sym}
use Rattle.mono_words.specs.declared.mono.TheConstants.{VARS}
use Rattle.polynomials.specs.Polynomials.{monic, scaled}
use Rattle.polynomials.specs.Views.{degree_in}
use Rattle.polynomials.proofs.Degrees.{degree_in-scaled}
use Rattle.sparse_poly.proofs.FirstItems.{scaled-first}
use Rattle.sparse_poly.proofs.ValueClauses.{has_zeros_of}
use Rattle.sparse_poly.proofs.poly.Poly.monic.Goals as goal

pub returns-clause-zeros : goal.returns-clause-zeros
returns-clause-zeros c =
    has_zeros_of c.args.f VARS c.args.self.now c.with_degrees.result c.facts.ensures.prime c.requires
    (c.with_degrees.ensures
    ∙ (c.in_ok-terms.ensures.value
    ∙ (ap₂ (scaled c.args.f) c.inv.ensures.inverse (c.terms-2.ensures.terms ∙ sym c.terms.ensures.terms)
    ∙ (scaled-first c.args.f c.terms.result.now c.in-Some.first.now c.in-Some.ensures.item.3.0 c.in-Some.ensures.item.1
    ∙ ap (monic c.args.f) c.terms.ensures.terms))))

pub with_degrees-requires-clause-degrees : goal.with_degrees-requires-clause-degrees
with_degrees-requires-clause-degrees c = λ v.
    c.degrees.ensures v
    ∙ (ap (degree_in v) (sym c.terms-2.ensures.terms)
    ∙ (sym (degree_in-scaled v c.args.f c.inv.result c.terms-2.result.now)
    ∙ ap (degree_in v) (sym c.in_ok-terms.ensures.value)))
