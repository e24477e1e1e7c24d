-- A term is the polynomial of its variable.
use Rattle.std.proofs.Common.{sym, arith}
use Rattle.mono_words.specs.declared.mono.TheConstants.{VARS}
use Rattle.system_parser.proofs.VariableBases.{variable_from_term}
use Rattle.system_parser.proofs.made_systems.variable.Goals as goal

pub returns-clause-value : goal.returns-clause-value
returns-clause-value c =
    sym (variable_from_term c.args.field VARS c.args.v c.power.result c.in_ok-variable.variable (omega (arith, c.facts.ensures.least)) c.power.ensures c.in_ok-variable.ensures.value)
