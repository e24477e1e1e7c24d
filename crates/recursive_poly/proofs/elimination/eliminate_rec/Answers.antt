-- The lead of a polynomial over the field is one.
use Rattle.recursive_poly.proofs.elimination.eliminate_rec.Goals as goal

pub cross_leads-requires-clause-first : goal.cross_leads-requires-clause-first
cross_leads-requires-clause-first c = c.in_ok-l.ensures.over c.args.w.field c.requires.right
