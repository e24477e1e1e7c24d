use Rattle.split_paths.specs.Tree.{event_at, offers_of}
use Rattle.split_paths.proofs.Lists.{all_contains}
use Rattle.split_paths.proofs.OfferOrder.{itself}
use Rattle.split_paths.proofs.Runs.{runs_below}
use Rattle.split_paths.proofs.laws.offers_nest.Goals as goal

pub returns : goal.returns
returns g c step root offer has = (
  all_contains _ (offers_of step root) offer (runs_below step (event_at step) root.steps root.path root.task) has,
  all_contains _ (offers_of step root) offer (runs_below step itself root.steps root.path root.task) has,
)
