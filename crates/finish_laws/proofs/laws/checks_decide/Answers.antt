-- Each part of the test decides its part of a certificate.
use Rattle.finish_laws.proofs.CheckedCertificates.{checks_decide}
use Rattle.finish_laws.proofs.laws.checks_decide.Goals as goal

pub returns : goal.returns
returns c = checks_decide
