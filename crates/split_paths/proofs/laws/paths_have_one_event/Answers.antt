use Rattle.split_paths.proofs.EventOrder.{events_ascend, apart_from_Ascends, known_from_Ascends}
use Rattle.split_paths.proofs.Runs.{event_at_offer}
use Rattle.split_paths.proofs.laws.paths_have_one_event.Goals as goal

pub returns-clause-one : goal.returns-clause-one
returns-clause-one g c = event_at_offer

pub returns-clause-apart : goal.returns-clause-apart
returns-clause-apart g c step root = apart_from_Ascends _ (events_ascend step root)

pub returns-clause-known : goal.returns-clause-known
returns-clause-known g c step root = known_from_Ascends _ (events_ascend step root)
