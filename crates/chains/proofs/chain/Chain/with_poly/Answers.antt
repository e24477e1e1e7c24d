-- With a polynomial at its main variable the set stays triangular.
use Rattle.std.proofs.Common.{sym, ◌∙◌, subst}
use Rattle.zero_sets.specs.ZeroSets.{IsTriangular}
use Rattle.impose_rules.proofs.ChainParts.{with_member_triangular}
use Rattle.chains.proofs.Changes.{changes_one}
use Rattle.chains.proofs.chain.Chain.with_poly.Goals as goal

pub invariant_of-result : goal.invariant_of-result
invariant_of-result c = subst IsTriangular (sym c.in_ok-moved_with-in-Some.ensures) (with_member_triangular c.in-Some.v _ c.self.inside.polys (sym c.main_var.ensures ∙ c.in-Some.is) c.self.invariant)

pub returns-in_ok-moved_with-in-Some-clause-others : goal.returns-in_ok-moved_with-in-Some-clause-others
returns-in_ok-moved_with-in-Some-clause-others c = changes_one c.in-Some.v _ c.self.inside.polys c.args.self c.in_ok-moved_with-in-Some.field-0 (sym c.main_var.ensures ∙ c.in-Some.is) c.self.invariant c.self.view_is c.in_ok-moved_with-in-Some.ensures
