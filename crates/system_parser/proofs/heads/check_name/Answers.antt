-- A name that has a place is one of them.
use Rattle.std.proofs.Common.{◌<◌, ℕ, length, arith, sym, ap, ◌∙◌, subst}
use Rattle.std.specs.Option.{is_some}
use Rattle.std.specs.String.{string_bytes}
use Rattle.std.proofs.lemmas.List.{length-map}
use Rattle.mono_words.specs.declared.mono.TheConstants.{VARS}
use Rattle.system_parser.specs.Systems.{names_of}
use Rattle.system_parser.specs.Tokens.{placed_of}
use Rattle.system_parser.proofs.NamePlaces.{is_some-place_of_name}
use Rattle.system_parser.proofs.NewNames.{name_repeats, name_is_new}
use Rattle.system_parser.proofs.heads.check_name.Goals as goal

pub returns-then-is_some-clause-names : goal.returns-then-is_some-clause-names
returns-then-is_some-clause-names c =
    let room : length c.args.names.now < VARS = omega arith in
    name_repeats VARS (names_of c.args.names.now) (placed_of c.args.t.now) c.args.name.now (sym c.is_reserved.ensures ∙ c.if-is_reserved.false)
    (subst (λ (n : ℕ). n < VARS) (sym (length-map c.args.names.now (λ name. string_bytes name))) room)
    (sym (is_some-place_of_name 0 (names_of c.args.names.now) c.args.name.now) ∙ (ap is_some (sym c.place_of.ensures.place) ∙ (sym c.is_some.ensures ∙ c.if-is_some.true)))

pub returns-clause-names : goal.returns-clause-names
returns-clause-names c =
    let room : length c.args.names.now < VARS = omega arith in
    name_is_new VARS (names_of c.args.names.now) (placed_of c.args.t.now) c.args.name.now (sym c.is_reserved.ensures ∙ c.if-is_reserved.false)
    (subst (λ (n : ℕ). n < VARS) (sym (length-map c.args.names.now (λ name. string_bytes name))) room)
    (sym (is_some-place_of_name 0 (names_of c.args.names.now) c.args.name.now) ∙ (ap is_some (sym c.place_of.ensures.place) ∙ (sym c.is_some.ensures ∙ c.if-is_some.false)))
