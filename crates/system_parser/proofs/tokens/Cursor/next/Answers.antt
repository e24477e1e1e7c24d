-- What stands before the token is spaces.
use Rattle.std.proofs.Common.{◌+◌, ◌-◌, ◌∷◌, None, length, sym, ap, ◌∙◌}
use Rattle.std.proofs.lemmas.Bool.{eqb-true, eqb-false}
use Rattle.system_text.specs.Tokens.{tokens_from}
use Rattle.system_parser.specs.Tokens.{token_of}
use Rattle.system_parser.proofs.Runs.{no_token_left, no_space_left, first_token}
use Rattle.system_parser.proofs.tokens.Cursor.next.Goals as goal

pub returns-then-is_empty-clause-token : goal.returns-then-is_empty-clause-token
returns-then-is_empty-clause-token c =
    let none =
    sym c.self.view_is
    ∙ no_token_left c.self.inside.place c.leading_spaces-spaces.result c.self.inside.rest.now c.leading_spaces-spaces.ensures.count
    (ap length (sym c.without_first-start.ensures) ∙ eqb-true (length c.without_first-start.result.now) 0 (sym c.is_empty.ensures ∙ c.if-is_empty.true)) in
    (none, none)

pub at-token-requires-clause-no_space : goal.at-token-requires-clause-no_space
at-token-requires-clause-no_space c =
    no_space_left c.leading_spaces-spaces.result c.self.inside.rest.now c.without_first-start.result.now c.leading_spaces-spaces.ensures.count c.without_first-start.ensures
    (eqb-false (length c.without_first-start.result.now) 0 (sym c.is_empty.ensures ∙ c.if-is_empty.false))

pub returns-clause-token : goal.returns-clause-token
returns-clause-token c =
    sym c.self.view_is
    ∙ (first_token c.self.inside.place c.leading_spaces-spaces.result c.length-length.result c.self.inside.rest.now c.without_first-start.result.now (token_of c.at-token.result) c.leading_spaces-spaces.ensures.count c.without_first-start.ensures c.length-length.ensures c.at-token.ensures.token
    ∙ ap (λ rest. record { token = token_of c.at-token.result; first = c.self.inside.place + c.leading_spaces-spaces.result; last = c.self.inside.place + c.leading_spaces-spaces.result + c.length-length.result - 1 } ∷ tokens_from (c.self.inside.place + c.leading_spaces-spaces.result + c.length-length.result) None rest) (sym c.without_first-self-inside.ensures))
