-- A line goes up to the first line feed.
use Rattle.std.proofs.Common.{sym, ap, ◌∙◌}
use Rattle.std.specs.Option.{option_copied}
use Rattle.system_parser.specs.Systems.{lines_left, after_first}
use Rattle.system_parser.proofs.TextLines.{first_line_of}
use Rattle.system_parser.proofs.lines.Lines.next.Goals as goal

pub returns-in-Some-clause-line : goal.returns-in-Some-clause-line
returns-in-Some-clause-line c =
    sym c.self.view_is
    ∙ (ap (λ r. lines_left (option_copied r)) c.in-Some.is
    ∙ first_line_of c.in-Some.bytes.now c.split_at.result.0.now (option_copied c.after_line_feed-self-inside.result) c.line_length-length.result c.line_length-length.ensures.count c.split_at.ensures.front
    (c.after_line_feed-self-inside.ensures ∙ ap after_first c.split_at.ensures.back))
