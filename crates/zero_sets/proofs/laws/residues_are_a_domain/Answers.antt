-- The ring of residues, by its tables.
use Rattle.zero_sets.proofs.PrimeFields.{residues_are_a_domain}
use Rattle.zero_sets.proofs.laws.residues_are_a_domain.Goals as goal

pub returns : goal.returns
returns c = residues_are_a_domain
