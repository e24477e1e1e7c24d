-- A quotient by 1 is the row itself.
use Rattle.std.proofs.Common.{sym, ap, ◌∙◌, unwrap_or}
use Rattle.mono_words.specs.declared.mono.TheConstants.{VARS}
use Rattle.division_rules.specs.RemainderRows.{divided}
use Rattle.pseudo_division.specs.FieldOperations.{operations}
use Rattle.subresultants.proofs.OneQuotients.{divided-one}
use Rattle.subresultants.proofs.divided.divided.Goals as goal

pub returns-then-whole : goal.returns-then-whole
returns-then-whole c =
    let one = c.in_ok-whole.ensures.0 c.if-whole.true in
    sym (ap (λ b. unwrap_or (divided (operations c.args.w.now.field) c.args.w.now.width b c.args.row) c.args.row) one ∙ divided-one c.args.w.now.field VARS c.facts.ensures.prime c.args.w.now.width c.args.row c.requires.row)
