-- Each turn makes one more sum.
use Rattle.std.proofs.Common.{◌++◌, [], ◌∷◌, ap, ◌∙◌}
use Rattle.mono_words.specs.declared.mono.TheConstants.{VARS}
use Rattle.polynomials.proofs.PolynomialLists.{IsPolynomial-at}
use Rattle.division_rules.specs.Units.{entrywise_sum}
use Rattle.pseudo_division.specs.FieldOperations.{operations}
use Rattle.certificates.proofs.Entries.{sums_more}
use Rattle.certificates.proofs.composition.sums.Goals as goal

pub add-requires-clause-left : goal.add-requires-clause-left
add-requires-clause-left c = IsPolynomial-at c.args.f VARS c.args.left.now c.loop-i.i c.at-a.result.now c.requires.left c.at-a.ensures

pub add-requires-clause-right : goal.add-requires-clause-right
add-requires-clause-right c = IsPolynomial-at c.args.f VARS c.args.right.now c.loop-i.i c.at-b.result.now c.requires.right c.at-b.ensures

pub loop-i-preserved : goal.loop-i-preserved
loop-i-preserved c = sums_more c.args.f VARS c.args.left.now c.args.right.now c.loop-i.entries c.push.new.self (entrywise_sum (operations c.args.f) c.args.left.now c.args.right.now) c.loop-i.i c.at-a.result.now c.at-b.result.now c.at-a.ensures c.at-b.ensures (c.in_ok-push.ensures.ok ∙ ap (λ x. c.loop-i.entries ++ x ∷ []) c.in_ok-add.ensures.sum) c.loop-i.invariant
