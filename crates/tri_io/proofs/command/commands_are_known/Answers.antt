use Rattle.tri_io.proofs.KnownCommands.{commands_known}
use Rattle.tri_io.proofs.command.commands_are_known.Goals as goal

pub returns : goal.returns
returns c = commands_known
