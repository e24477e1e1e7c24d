use Rattle.std.proofs.Common.{◌≡◌, ℕ, List, sym, subst}
use Rattle.std.specs.List.{AllByRecursion}
use Rattle.split_paths.specs.Answer.{Answer}
use Rattle.collector.specs.Notes.{to_give}
use Rattle.work_pool.proofs.Handing.{took_none}
use Rattle.work_pool.proofs.Noted.{keeps_giving}
use Rattle.work_pool.proofs.end.conclude.Goals as goal

pub hand_out-requires-clause-may : goal.hand_out-requires-clause-may
hand_out-requires-clause-may g c =
    subst (λ (a : Answer _). AllByRecursion (λ (pair : List ℕ × _). g.K.Taker.may c.args.each.now pair.1) a.chains)
    (sym (keeps_giving _ _ _ c.end_run.ensures.keeps)) c.requires.may

pub returns-in-Err-clause-cut : goal.returns-in-Err-clause-cut
returns-in-Err-clause-cut g c = took_none g.K.Taker.takes g.K.Taker.fails c.args.each.now _
