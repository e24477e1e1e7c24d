-- Coprime rows: the turn by the last one.
use Rattle.std.proofs.Common.{sym, ap, ◌∙◌}
use Rattle.sparse_poly.proofs.SortedTerms.{IfOk-implied}
use Rattle.regularise.specs.Turns.{turn_by_outcome}
use Rattle.regularise.proofs.turn.turn_by.Goals as goal

pub returns-in-Coprime : goal.returns-in-Coprime
returns-in-Coprime c = IfOk-implied _ _ c.composed.result (λ r each further. each c.args.chain.now c.args.nonzero.now further ∙ sym (ap (turn_by_outcome c.args.w.now.field c.args.w.now.width c.args.chain.now c.args.nonzero.now further c.args.sofar.now) c.in-Coprime.is)) c.composed.ensures
