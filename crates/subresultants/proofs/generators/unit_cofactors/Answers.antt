-- 0 and 1 are canonical.
use Rattle.std.proofs.Common.{arith, ◌≡◌, [], sym, subst}
use Rattle.std.proofs.lemmas.Grind.{common_steps}
use Rattle.mono_words.specs.declared.mono.TheConstants.{VARS}
use Rattle.polynomials.specs.Polynomials.{ArePolynomials, one_of}
use Rattle.division_rules.specs.Units.{unit_cofactors}
use Rattle.subresultants.proofs.GeneratorRows.{unit_canonical}
use Rattle.subresultants.proofs.generators.unit_cofactors.Goals as goal

pub returns-clause-value : goal.returns-clause-value
returns-clause-value c = grind (arith, common_steps)

pub returns-clause-over : goal.returns-clause-over
returns-clause-over c =
    let whole : c.push_zeros-2.new.list ≡ unit_cofactors [] (one_of VARS) c.args.before c.args.behind = returns-clause-value c in
    subst (ArePolynomials c.args.w.now.field VARS) (sym whole) (unit_canonical c.args.w.now.field c.facts.ensures.least c.args.before c.args.behind)
