-- With a polynomial at its main variable the set stays triangular.
use Rattle.std.proofs.Common.{sym, ap, ◌∙◌, subst}
use Rattle.zero_sets.specs.ZeroSets.{IsTriangular}
use Rattle.impose_rules.specs.Chains.{with_member}
use Rattle.impose_rules.proofs.ChainParts.{with_member_triangular}
use Rattle.chains.proofs.Changes.{changes_one}
use Rattle.chains.proofs.chain.Chain.copied_with.Goals as goal

pub invariant_of-result : goal.invariant_of-result
invariant_of-result c = subst IsTriangular (sym (c.in_ok-copied_with-in-Some.ensures ∙ ap (λ x. with_member c.in-Some.v x c.self.inside.polys) c.in_ok-copy-in-Some.ensures)) (with_member_triangular c.in-Some.v c.args.t.now c.self.inside.polys (sym c.main_var.ensures ∙ c.in-Some.is) c.self.invariant)

pub returns-in_ok-copied_with-in-Some-clause-others : goal.returns-in_ok-copied_with-in-Some-clause-others
returns-in_ok-copied_with-in-Some-clause-others c = changes_one c.in-Some.v c.args.t.now c.self.inside.polys c.args.self.now c.in_ok-copied_with-in-Some.field-0 (sym c.main_var.ensures ∙ c.in-Some.is) c.self.invariant c.self.view_is (c.in_ok-copied_with-in-Some.ensures ∙ ap (λ x. with_member c.in-Some.v x c.self.inside.polys) c.in_ok-copy-in-Some.ensures)
