-- The identity of the certificate, at a zero of the chain.
use Rattle.zero_sets.proofs.CertificateLemmas.{certified_value}
use Rattle.zero_sets.proofs.laws.certificates_show_initials.Goals as goal

pub returns : goal.returns
returns c = λ p n r xs chain a t finite point certifies zeros e. certified_value p n r finite xs point chain a t certifies zeros e
