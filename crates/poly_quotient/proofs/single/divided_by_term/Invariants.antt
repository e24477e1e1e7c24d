-- The terms so far times the divisor, and the terms to come, are the dividend.
use Rattle.std.proofs.Common.{◌≡◌, ◌++◌, map, drop}
use Rattle.mono_words.specs.declared.mono.TheConstants.{VARS}
use Rattle.sparse_poly.proofs.Products.{reduced_product}
use Rattle.poly_quotient.proofs.SingleTerms.{AreTerms}
use Rattle.poly_quotient.proofs.single.divided_by_term.Given as goal

abbrev pub invariant-loop-t : goal.invariant-loop-t
invariant-loop-t l =
    AreTerms l.f VARS l.quotient.items
    × (map (reduced_product l.f l.by) l.quotient.items ++ drop l.t-index l.terms ≡ l.terms)
