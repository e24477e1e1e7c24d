use Rattle.std.proofs.Common.{◌≡◌, ℕ, List, sym, subst, IfOk, IfErr}
use Rattle.std.specs.List.{AllByRecursion}
use Rattle.collector.specs.Notes.{to_give}
use Rattle.split_paths.specs.Answer.{Answer}
use Rattle.work_pool.specs.Taken.{IfReady, IsCut}
use Rattle.work_pool.proofs.Handing.{took_none, still_noted}
use Rattle.work_pool.proofs.Leading.{all_ok}
use Rattle.work_pool.proofs.Noted.{keeps_giving}
use Rattle.work_pool.proofs.lead.empty.Goals as goal

pub hand_ready-requires-clause-may : goal.hand_ready-requires-clause-may
hand_ready-requires-clause-may g c =
    subst (λ (a : Answer _). AllByRecursion (λ (pair : List ℕ × _). g.K.Taker.may c.args.each.now pair.1) a.chains)
    (sym (keeps_giving _ _ _ c.note_waiting.ensures.keeps)) c.requires.may

pub returns-in-Ok-clause-noted : goal.returns-in-Ok-clause-noted
returns-in-Ok-clause-noted g c =
    all_ok c.hand_ready.result _ (still_noted _ _ _ _ c.hand_ready.ensures.notes c.in-Ok.ensures.noted)

pub returns-in-Ok-clause-ready : goal.returns-in-Ok-clause-ready
returns-in-Ok-clause-ready g c =
    subst (λ (a : Answer _). IfOk c.hand_ready.result (IfReady g.K.Taker.takes g.K.Taker.fails c.args.each.now a
    c.hand_ready.new.each (to_give g.N.Named.events c.hand_ready.new.collector)))
    (keeps_giving _ _ _ c.note_waiting.ensures.keeps) c.hand_ready.ensures.ready

pub returns-in-Ok-clause-cut : goal.returns-in-Ok-clause-cut
returns-in-Ok-clause-cut g c =
    subst (λ (a : Answer _). IfErr c.hand_ready.result (λ error. IsCut g.K.Taker.takes g.K.Taker.fails c.args.each.now a.chains error
    c.hand_ready.new.each))
    (keeps_giving _ _ _ c.note_waiting.ensures.keeps) c.hand_ready.ensures.cut

pub returns-in-Err-clause-cut : goal.returns-in-Err-clause-cut
returns-in-Err-clause-cut g c = took_none g.K.Taker.takes g.K.Taker.fails c.args.each.now _
