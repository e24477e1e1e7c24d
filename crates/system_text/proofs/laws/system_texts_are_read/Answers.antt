-- Line by line: each line that is read is the next of the system, and has characters alone.
use Rattle.system_text.proofs.ReadTexts.{system_texts_are_read}
use Rattle.system_text.proofs.laws.system_texts_are_read.Goals as goal

pub returns : goal.returns
returns c = system_texts_are_read
