-- There is a line more than line feeds.
use Rattle.system_parser.proofs.TextLines.{length-lines_of}
use Rattle.system_parser.proofs.lines.Lines.new.Goals as goal

pub returns-clause-count : goal.returns-clause-count
returns-clause-count c = length-lines_of c.args.bytes.now
