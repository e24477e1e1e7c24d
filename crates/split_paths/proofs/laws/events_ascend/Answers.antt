use Rattle.split_paths.proofs.EventOrder.{IsEarlier, events_ascend as all_ascend}
use Rattle.split_paths.proofs.Lists.{pairs_from_Ascends}
use Rattle.split_paths.proofs.laws.events_ascend.Goals as goal

pub returns : goal.returns
returns g c step root = pairs_from_Ascends (λ e f. IsEarlier e f) _ (all_ascend step root)
