-- What is made is a system.
use Rattle.std.proofs.Common.{sym, subst}
use Rattle.mono_words.specs.declared.mono.TheConstants.{VARS}
use Rattle.polynomials.specs.Polynomials.{ArePolynomials}
use Rattle.system_text.specs.Laws.{IsSystem}
use Rattle.system_parser.specs.Made.{made_prime}
use Rattle.system_parser.proofs.MadeSystems.{made_from_parts, made_is_system, next_made}
use Rattle.system_parser.proofs.made_systems.made.Goals as goal

pub loop-i-preserved : goal.loop-i-preserved
loop-i-preserved c =
    next_made VARS c.loop-i.i c.loop-i.inputs c.push.new.self c.in_ok-next.next c.in_ok-push.ensures.ok c.in_ok-next.ensures.value c.in_ok-next.ensures.over c.loop-i.invariant

pub returns-clause-lawful : goal.returns-clause-lawful
returns-clause-lawful c =
    subst (IsSystem VARS)
    (sym (made_from_parts c.loop-i.i _ _ _ _ c.made_field-field.ensures c.in_ok-names.ensures c.loop-i.invariant.0 c.new.ensures))
    (made_is_system c.loop-i.i (subst (ArePolynomials made_prime VARS) c.loop-i.invariant.0 c.loop-i.invariant.1))
