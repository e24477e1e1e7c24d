-- Children keep the form, no degree rises past the limit of a product, and there are few children.
use Rattle.case_laws.proofs.StepsKeepLaw.{case_steps_keep_law}
use Rattle.case_laws.proofs.laws.case_steps_keep_law.Goals as goal

pub returns : goal.returns
returns c = case_steps_keep_law
