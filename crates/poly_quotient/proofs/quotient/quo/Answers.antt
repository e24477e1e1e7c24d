-- What is said of a quotient follows from what it is.
use Rattle.mono_words.specs.declared.mono.TheConstants.{VARS}
use Rattle.sparse_poly.proofs.SortedTerms.{IfOk-implied}
use Rattle.poly_quotient.proofs.Clauses.{exact_of, fits_of, none_of, over_of, values_of}
use Rattle.poly_quotient.proofs.quotient.quo.Goals as goal

pub returns-clause-exact : goal.returns-clause-exact
returns-clause-exact c = IfOk-implied _ _ c.found.result (exact_of c.args.w.field VARS c.args.w.width c.facts.ensures.prime c.args.a.now c.args.b.now c.requires.left c.requires.right c.requires.nonzero) c.found.ensures

pub returns-clause-fits : goal.returns-clause-fits
returns-clause-fits c = IfOk-implied _ _ c.found.result (fits_of c.args.w.field VARS c.args.w.width c.facts.ensures.prime c.args.a.now c.args.b.now c.requires.left c.requires.right c.requires.nonzero) c.found.ensures

pub returns-clause-none : goal.returns-clause-none
returns-clause-none c = IfOk-implied _ _ c.found.result (none_of c.args.w.field VARS c.args.w.width c.facts.ensures.prime c.args.a.now c.args.b.now c.requires.left c.requires.right c.requires.nonzero) c.found.ensures

pub returns-clause-over : goal.returns-clause-over
returns-clause-over c = IfOk-implied _ _ c.found.result (over_of c.args.w.field VARS c.args.w.width c.facts.ensures.prime c.args.a.now c.args.b.now c.requires.left c.requires.right c.requires.nonzero) c.found.ensures

pub returns-clause-values : goal.returns-clause-values
returns-clause-values c = IfOk-implied _ _ c.found.result (values_of c.args.w.field VARS c.args.w.width c.facts.ensures.prime c.args.a.now c.args.b.now c.requires.left c.requires.right c.requires.nonzero) c.found.ensures
