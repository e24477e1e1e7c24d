-- Each value of a tree is a canonical polynomial in the variables that have a name.
use Rattle.system_text.proofs.ReadSystems.{what_is_read_is_a_system}
use Rattle.system_text.proofs.laws.what_is_read_is_a_system.Goals as goal

pub returns : goal.returns
returns c = what_is_read_is_a_system
