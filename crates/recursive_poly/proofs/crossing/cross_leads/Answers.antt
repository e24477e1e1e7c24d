-- Where v is the greatest variable, the tails are enough.
use Rattle.std.proofs.Common.{refl}
use Rattle.mono_words.specs.declared.mono.TheConstants.{VARS}
use Rattle.recursive_poly.proofs.Tails.{crossed_within}
use Rattle.recursive_poly.proofs.crossing.cross_leads.Goals as goal

pub returns-clause-value : goal.returns-clause-value
returns-clause-value c =
    crossed_within c.args.w.now.field VARS c.args.v c.args.f.now c.args.g.now c.facts.ensures.prime c.requires.variable c.requires.left c.requires.right c.requires.degrees
    c.args.w.now.width c.args.l.now c.args.m.now c.in_ok-difference_of_tails.field-0 c.requires.lead c.requires.shifted (c.if-not-fits.ensures.0 refl) (c.if-not-fits-2.ensures.0 refl) c.in_ok-difference_of_tails.ensures.value
