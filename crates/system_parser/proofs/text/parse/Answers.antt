-- The laws of system texts say what is read.
use Rattle.system_parser.proofs.AcceptedTexts.{accepted_text, accepted_system, system_is_read}
use Rattle.system_parser.proofs.text.parse.Goals as goal

pub returns-clause-accepted : goal.returns-clause-accepted
returns-clause-accepted c = accepted_text c.args.bytes.now c.read_lines.result c.read_lines.ensures.exact

pub returns-clause-lawful : goal.returns-clause-lawful
returns-clause-lawful c = accepted_system c.args.bytes.now c.read_lines.result c.read_lines.ensures.exact

pub returns-clause-complete : goal.returns-clause-complete
returns-clause-complete c = system_is_read c.args.bytes.now c.read_lines.result c.read_lines.ensures.exact
