use Rattle.split_paths.specs.Tree.{event_at}
use Rattle.split_paths.proofs.OfferOrder.{itself}
use Rattle.split_paths.proofs.Unfolds.{preorder_unfolds}
use Rattle.split_paths.proofs.laws.places_unfold.Goals as goal

pub returns-clause-events : goal.returns-clause-events
returns-clause-events g c step place = preorder_unfolds step (event_at step) place

pub returns-clause-offers : goal.returns-clause-offers
returns-clause-offers g c step place = preorder_unfolds step itself place
