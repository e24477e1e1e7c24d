-- The terms stand beside.
use Rattle.std.proofs.Common.{[], ◌∷◌}
use Rattle.std.specs.BinaryHeap.{heap_items}
use Rattle.mono_words.specs.declared.mono.TheConstants.{VARS}
use Rattle.sparse_poly.proofs.Products.{IsPolynomial-append_right}
use Rattle.poly_quotient.proofs.RestTurns.{products_added_ok}
use Rattle.poly_quotient.proofs.rest.Rest.go_on.Goals as goal

pub returns-clause-sum : goal.returns-clause-sum
returns-clause-sum c = products_added_ok c.args.f VARS c.facts.ensures.prime c.args.self.now.terms.now c.args.quotient.now c.args.divisor.now c.args.t (heap_items c.args.self.now.products.heap) (heap_items c.go_on.new.self.heap) c.args.self.now.products.waiting.items c.go_on.new.self.waiting.items c.go_on.result c.requires.canonical (IsPolynomial-append_right c.args.f VARS c.args.quotient.now (c.args.t ∷ []) c.requires.next) c.requires.products c.go_on.ensures.products c.go_on.ensures.moved
