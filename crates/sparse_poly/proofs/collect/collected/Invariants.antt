-- What was taken is a part of the terms, and is made of monomials in words.
use Rattle.std.proofs.Common.{◌≡◌, ◌++◌, drop}
use Rattle.mono_words.specs.declared.mono.TheConstants.{VARS}
use Rattle.sparse_poly.specs.Falling.{HaveVariables}
use Rattle.sparse_poly.proofs.collect.collected.Given as goal

abbrev pub invariant-loop-t : goal.invariant-loop-t
invariant-loop-t l = record {
  items : l.sorted.items ++ drop l.t-index l.terms ≡ l.terms;
  variables : HaveVariables VARS l.sorted.items;
}
