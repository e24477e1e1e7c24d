-- Nothing is read yet.
use Rattle.std.proofs.Common.{ap}
use Rattle.system_text.specs.Sums.{read_tokens}
use Rattle.system_parser.specs.Systems.{setting_over}
use Rattle.system_parser.proofs.sums.read_tokens.Goals as goal

pub loop-t-init : goal.loop-t-init
loop-t-init c = record {
  whole = ap (read_tokens (setting_over c.args.over.now) c.args.end c.args.tokens) (c.start-reading.ensures.state c.args.over.now.field);
  reading = c.start-reading.ensures.reading c.args.over.now.field;
}
