-- Each call has half the exponent.
use Rattle.system_parser.proofs.powers.+raised_residue.Given as goal

abbrev pub decreases-raised_residue : goal.decreases-raised_residue
decreases-raised_residue l = l.e
