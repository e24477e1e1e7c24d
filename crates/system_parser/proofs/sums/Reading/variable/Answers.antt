-- The name is that of the variable whose term was made.
use Rattle.std.proofs.Common.{Ok, sym, ap, ◌∙◌, arith}
use Rattle.mono_words.specs.declared.mono.TheConstants.{VARS}
use Rattle.system_text.specs.Readings.{AfterBase}
use Rattle.system_text.specs.Factors.{variable_at}
use Rattle.system_parser.specs.Tokens.{placed_of}
use Rattle.system_parser.specs.Sums.{frame_of, frames_of}
use Rattle.system_parser.specs.Systems.{setting_over}
use Rattle.system_parser.proofs.VariableBases.{variable_from_term}
use Rattle.system_parser.proofs.sums.Reading.variable.Goals as goal

pub returns-in_ok-value-in-Some-clause-state : goal.returns-in_ok-value-in-Some-clause-state
returns-in_ok-value-in-Some-clause-state c =
    let p = c.args.over.now.field in
    let outer = frames_of p c.args.self.now.outer in
    let frame = frame_of p c.args.self.now.frame in
    ap (variable_at (setting_over c.args.over.now) outer frame (placed_of c.args.t.now)) (sym c.in-Some.ensures.place)
    ∙ ap (λ f. Ok (record { outer = outer; frame = frame; mode = AfterBase f c.args.t.now.last 65535 }))
    (variable_from_term p VARS c.in-Some.v c.power.result c.in_ok-value-in-Some.value (omega (arith, c.facts.ensures.least)) c.power.ensures c.in_ok-value-in-Some.ensures.value)
