-- A name is written in ASCII.
use Rattle.system_parser.proofs.NewNames.{small_characters}
use Rattle.system_parser.proofs.heads.add_name.Goals as goal

pub text_of-requires : goal.text_of-requires
text_of-requires c = small_characters c.in-Name.name.now (rw c.in-Name.is at c.requires)
