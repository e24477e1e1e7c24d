-- The power of a term by those of its monomial and its coefficient.
use Rattle.std.proofs.Common.{Some, ap, ◌∙◌}
use Rattle.mono_words.specs.declared.mono.TheConstants.{VARS}
use Rattle.system_parser.proofs.TermPowers.{term_power_some, term_power_none}
use Rattle.system_parser.proofs.powers.power_of_term.Goals as goal

pub returns-in-None-clause-value : goal.returns-in-None-clause-value
returns-in-None-clause-value c =
    term_power_none c.args.f VARS c.args.e c.args.t.now.1 c.args.t.now.0 c.facts.ensures.prime c.requires.over.1 c.requires.over.2 c.shape.ensures.within c.requires.some c.in-None.ensures

pub returns-in_ok-from_terms-in-Some-clause-value : goal.returns-in_ok-from_terms-in-Some-clause-value
returns-in_ok-from_terms-in-Some-clause-value c =
    ap Some c.in_ok-from_terms-in-Some.ensures.value
    ∙ term_power_some c.args.f VARS c.args.e c.args.t.now.1 c.raised_residue.result c.args.t.now.0 c.in-Some.raised c.facts.ensures.prime c.requires.over.1 c.requires.over.2 c.shape.ensures.within c.requires.some c.in-Some.ensures c.raised_residue.ensures.value
