-- What doesn't occur in a polynomial occurs in no term of it.
use Rattle.report_text.proofs.Terms.{free_first, free_other}
use Rattle.report_text.proofs.poly.write_poly.Goals as goal

pub write_term-requires : goal.write_term-requires
write_term-requires c =
    λ v past. free_first v c.args.f.now c.terms.result.now c.in-Some.first.now c.in-Some.others.now c.terms.ensures.terms c.in-Some.ensures.cases.0 (c.requires v past)

pub write_term-requires-in-loop-t : goal.write_term-requires-in-loop-t
write_term-requires-in-loop-t c =
    λ v past. free_other v c.args.f.now c.terms.result.now c.in-Some.first.now c.in-Some.others.now c.loop-t.t-index c.t-item.result c.terms.ensures.terms c.in-Some.ensures.cases.0 (c.requires v past) c.loop-t-test.true c.t-item.is
