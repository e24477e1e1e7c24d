-- Leads, tails, monic forms, remainders and quotients are canonical and bring no new variable.
use Rattle.impose_laws.proofs.KeptForms.{children_keep_the_form}
use Rattle.impose_laws.proofs.laws.children_keep_the_form.Goals as goal

pub returns : goal.returns
returns c = children_keep_the_form
