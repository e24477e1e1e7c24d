-- What either list knows is known by both together, and what neither does is added.
use Rattle.std.proofs.Common.{not, sym, ap, ◌∙◌}
use Rattle.regular_gcd.proofs.NewLeads.{known_first, known_second, known_neither, both_stay, second_grows}
use Rattle.regular_gcd.proofs.cases.is_new.Goals as goal

pub returns-then-knows-clause-new : goal.returns-then-knows-clause-new
returns-then-knows-clause-new c = ap not (sym (known_first c.args.f c.args.nonzero.now c.args.added.now c.args.h.now (sym c.knows.ensures ∙ c.if-knows.true)))

pub returns-then-knows-clause-added : goal.returns-then-knows-clause-added
returns-then-knows-clause-added c = both_stay c.args.f c.args.nonzero.now c.args.added.now c.args.h.now (known_first c.args.f c.args.nonzero.now c.args.added.now c.args.h.now (sym c.knows.ensures ∙ c.if-knows.true))

pub returns-then-knows-2-clause-new : goal.returns-then-knows-2-clause-new
returns-then-knows-2-clause-new c = ap not (sym (known_second c.args.f c.args.nonzero.now c.args.added.now c.args.h.now (sym c.knows.ensures ∙ c.if-knows.false) (sym c.knows-2.ensures ∙ c.if-knows-2.true)))

pub returns-then-knows-2-clause-added : goal.returns-then-knows-2-clause-added
returns-then-knows-2-clause-added c = both_stay c.args.f c.args.nonzero.now c.args.added.now c.args.h.now (known_second c.args.f c.args.nonzero.now c.args.added.now c.args.h.now (sym c.knows.ensures ∙ c.if-knows.false) (sym c.knows-2.ensures ∙ c.if-knows-2.true))

pub returns-clause-new : goal.returns-clause-new
returns-clause-new c = ap not (sym (known_neither c.args.f c.args.nonzero.now c.args.added.now c.args.h.now (sym c.knows.ensures ∙ c.if-knows.false) (sym c.knows-2.ensures ∙ c.if-knows-2.false)))

pub returns-clause-added : goal.returns-clause-added
returns-clause-added c = second_grows c.args.f c.args.nonzero.now c.args.added.now c.args.h.now c.add.new.self (sym c.knows.ensures ∙ c.if-knows.false) (sym c.knows-2.ensures ∙ c.if-knows-2.false) c.in_ok-add.ensures.ok
