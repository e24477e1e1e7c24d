-- Products that fit are the products.
use Rattle.finish_laws.proofs.Compositions.{compositions_fit}
use Rattle.finish_laws.proofs.laws.compositions_fit.Goals as goal

pub returns : goal.returns
returns c = compositions_fit
