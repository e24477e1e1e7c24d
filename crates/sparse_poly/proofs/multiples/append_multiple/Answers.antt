-- The products by one term stand in order, and none is 0.
use Rattle.std.proofs.Common.{◌++◌, refl, sym, ap, ◌∙◌, map}
use Rattle.mono_words.specs.declared.mono.TheConstants.{VARS}
use Rattle.sparse_poly.proofs.Places.{IsPolynomial-item}
use Rattle.sparse_poly.proofs.Passes.{pass_end}
use Rattle.sparse_poly.proofs.Products.{reduced_product, product_of-term}
use Rattle.sparse_poly.proofs.FittingPairs.{FitsEach-item}
use Rattle.sparse_poly.proofs.multiples.append_multiple.Goals as goal

pub product-requires : goal.product-requires
product-requires c = FitsEach-item c.args.t.0 c.args.a.now c.loop-x.x-index c.x-item.result c.requires.fit c.loop-x-test.true c.x-item.is

pub mul-requires-clause-right : goal.mul-requires-clause-right
mul-requires-clause-right c = (IsPolynomial-item c.args.f VARS c.loop-x.x-index c.args.a.now c.x-item.result c.requires.over c.loop-x-test.true c.x-item.is).2

pub returns : goal.returns
returns c =
    pass_end (map (reduced_product c.args.f c.args.t)) refl c.loop-x.out.items c.args.a.now _ c.loop-x.x-index c.loop-x-test.false c.loop-x.invariant
    ∙ ap (λ l. c.args.out.now.items ++ l) (sym (product_of-term c.args.f VARS c.facts.ensures.prime c.args.t c.args.a.now c.requires.term c.requires.over))
