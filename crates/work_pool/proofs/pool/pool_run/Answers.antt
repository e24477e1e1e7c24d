use Rattle.std.proofs.Common.{◌≡◌, ℕ, List, sym, subst, ap, IfOk, IfErr}
use Rattle.std.specs.Arc.{arc_value}
use Rattle.std.specs.List.{AllByRecursion}
use Rattle.split_paths.specs.Answer.{answer_of}
use Rattle.split_paths.specs.Places.{Place}
use Rattle.split_paths.specs.Tree.{events_of}
use Rattle.work_pool.specs.Taken.{Took, IsEnd, IsCut}
use Rattle.work_pool.proofs.pool.pool_run.Goals as goal

pub run_whole-requires-clause-whole : goal.run_whole-requires-clause-whole
run_whole-requires-clause-whole g c κs within = ap (λ (p : Place _). p.path) c.root_of-root.ensures

pub run_whole-requires-clause-lawful : goal.run_whole-requires-clause-lawful
run_whole-requires-clause-lawful g c κs within =
    subst (λ (p : Place _). g.X.Splitter.lawful_task (arc_value c.args.splitter) p.task) (sym c.root_of-root.ensures)
    c.requires.lawful

pub run_whole-requires-clause-may : goal.run_whole-requires-clause-may
run_whole-requires-clause-may g c κs within =
    subst (λ (p : Place _). AllByRecursion (λ (pair : List ℕ × _). g.K.Taker.may c.args.each.now pair.1)
    (answer_of (events_of (g.X.Splitter.step (arc_value c.args.splitter)) p)).chains) (sym c.root_of-root.ensures)
    c.requires.may

pub returns-clause-took : goal.returns-clause-took
returns-clause-took g c =
    subst (λ (p : Place _). IfOk c.run_whole.result (λ end. Took g.K.Taker.takes c.args.each.now
    (answer_of (events_of (g.X.Splitter.step (arc_value c.args.splitter)) p)).chains c.run_whole.new.each))
    c.root_of-root.ensures c.run_whole.ensures.took

pub returns-clause-end : goal.returns-clause-end
returns-clause-end g c =
    subst (λ (p : Place _). IfOk c.run_whole.result
    (IsEnd (answer_of (events_of (g.X.Splitter.step (arc_value c.args.splitter)) p)).stop))
    c.root_of-root.ensures c.run_whole.ensures.end

pub returns-clause-cut : goal.returns-clause-cut
returns-clause-cut g c =
    subst (λ (p : Place _). IfErr c.run_whole.result (λ error. IsCut g.K.Taker.takes g.K.Taker.fails c.args.each.now
    (answer_of (events_of (g.X.Splitter.step (arc_value c.args.splitter)) p)).chains error c.run_whole.new.each))
    c.root_of-root.ensures c.run_whole.ensures.cut
