-- The reduced head is canonical and reduced by the chain.
use Rattle.std.proofs.Common.{ap, subst}
use Rattle.zero_sets.specs.ZeroSets.{IsTriangular}
use Rattle.zero_sets.specs.Tasks.{Task}
use Rattle.mono_words.specs.declared.mono.TheConstants.{VARS}
use Rattle.sparse_poly.proofs.SortedTerms.{IfOk-implied}
use Rattle.intersect.proofs.HeadFacts.{head_canonical, head_reduced}
use Rattle.intersect.proofs.head.reduced_head.Goals as goal

pub returns-clause-over : goal.returns-clause-over
returns-clause-over c = IfOk-implied _ _ c.made_head.result (head_canonical c.args.w.now.field VARS c.args.w.now.width c.facts.ensures.prime c.args.left.now c.requires.over (subst IsTriangular (ap (λ (t : Task). t.chain) c.left.view_is) c.facts-2.ensures.triangular) c.args.f.now c.requires.head) c.made_head.ensures.value

pub returns-clause-reduced : goal.returns-clause-reduced
returns-clause-reduced c = IfOk-implied _ _ c.made_head.result (head_reduced c.args.w.now.field VARS c.args.w.now.width c.facts.ensures.prime c.args.left.now c.requires.over (subst IsTriangular (ap (λ (t : Task). t.chain) c.left.view_is) c.facts-2.ensures.triangular) c.args.f.now c.requires.head) c.made_head.ensures.value
