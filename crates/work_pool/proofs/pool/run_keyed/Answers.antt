use Rattle.std.proofs.Common.{ℕ, List, sym, subst, IfOk, IfErr}
use Rattle.std.specs.Arc.{arc_value}
use Rattle.std.specs.List.{AllByRecursion}
use Rattle.split_paths.specs.Answer.{Answer}
use Rattle.work_pool.specs.Taken.{Took, IsEnd, IsCut}
use Rattle.work_pool.proofs.Begun.{tree_key}
use Rattle.work_pool.proofs.Handing.{took_none}
use Rattle.work_pool.proofs.pool.run_keyed.Goals as goal

pub returns-in_default-clause-cut : goal.returns-in_default-clause-cut
returns-in_default-clause-cut g c = took_none g.K.Taker.takes g.K.Taker.fails c.args.each.now _

pub new-collector-requires : goal.new-collector-requires
new-collector-requires g c =
    tree_key (g.X.Splitter.step (arc_value c.args.splitter)) g.N.Named.events g.N.Named.offers c.args.root c.requires.whole
    c.requires.events c.requires.offers

pub run_jobs-requires-clause-may : goal.run_jobs-requires-clause-may
run_jobs-requires-clause-may g c κs within =
    subst (λ (a : Answer _). AllByRecursion (λ (pair : List ℕ × _). g.K.Taker.may c.args.each.now pair.1) a.chains)
    (sym c.new-collector.ensures.whole) c.requires.may

pub returns-clause-took : goal.returns-clause-took
returns-clause-took g c =
    subst (λ (a : Answer _). IfOk c.run_jobs.result (λ end. Took g.K.Taker.takes c.args.each.now a.chains c.run_jobs.new.each))
    c.new-collector.ensures.whole c.run_jobs.ensures.took

pub returns-clause-end : goal.returns-clause-end
returns-clause-end g c =
    subst (λ (a : Answer _). IfOk c.run_jobs.result (IsEnd a.stop)) c.new-collector.ensures.whole c.run_jobs.ensures.end

pub returns-clause-cut : goal.returns-clause-cut
returns-clause-cut g c =
    subst (λ (a : Answer _). IfErr c.run_jobs.result (λ error. IsCut g.K.Taker.takes g.K.Taker.fails c.args.each.now a.chains error
    c.run_jobs.new.each)) c.new-collector.ensures.whole c.run_jobs.ensures.cut
