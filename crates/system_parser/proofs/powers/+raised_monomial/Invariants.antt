-- Each call has half the exponent.
use Rattle.system_parser.proofs.powers.+raised_monomial.Given as goal

abbrev pub decreases-raised_monomial : goal.decreases-raised_monomial
decreases-raised_monomial l = l.e
