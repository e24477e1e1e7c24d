-- The name at the place is the first that is left.
use Rattle.std.proofs.Common.{sym, ◌∙◌, ap}
use Rattle.std.specs.String.{string_bytes}
use Rattle.std.specs.Str.{bytes_eq}
use Rattle.system_text.specs.Factors.{place_of_name}
use Rattle.system_parser.specs.Systems.{names_of}
use Rattle.system_parser.proofs.NamePlaces.{drop_mapped, place_here, place_later}
use Rattle.system_parser.proofs.names.place_of.Goals as goal

pub returns-then-eq-clause-place : goal.returns-then-eq-clause-place
returns-then-eq-clause-place c =
    place_here (names_of c.args.names.now) c.loop-i.i (string_bytes c.at.result.now) c.args.bytes.now (place_of_name 0 (names_of c.args.names.now) c.args.bytes.now)
    (drop_mapped (λ name. string_bytes name) c.args.names.now c.loop-i.i c.at.result.now c.at.ensures)
    (ap (λ l. bytes_eq l c.args.bytes.now) (sym c.as_bytes.ensures.value) ∙ (sym c.eq.ensures ∙ c.if-eq.true))
    c.loop-i.invariant

pub loop-i-preserved : goal.loop-i-preserved
loop-i-preserved c =
    place_later (names_of c.args.names.now) c.loop-i.i (string_bytes c.at.result.now) c.args.bytes.now (place_of_name 0 (names_of c.args.names.now) c.args.bytes.now)
    (drop_mapped (λ name. string_bytes name) c.args.names.now c.loop-i.i c.at.result.now c.at.ensures)
    (ap (λ l. bytes_eq l c.args.bytes.now) (sym c.as_bytes.ensures.value) ∙ (sym c.eq.ensures ∙ c.if-eq.false))
    c.loop-i.invariant
