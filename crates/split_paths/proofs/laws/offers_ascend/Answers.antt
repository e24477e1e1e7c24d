use Rattle.split_paths.specs.Laws.{ComesBefore}
use Rattle.split_paths.proofs.OfferOrder.{offers_ascend as all_ascend}
use Rattle.split_paths.proofs.Lists.{pairs_from_Ascends}
use Rattle.split_paths.proofs.laws.offers_ascend.Goals as goal

pub returns : goal.returns
returns g c step root = pairs_from_Ascends (λ o p. ComesBefore o p) _ (all_ascend step root)
