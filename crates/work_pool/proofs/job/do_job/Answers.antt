use Rattle.std.proofs.Common.{◌≡◌, sym, ap, ◌∙◌, subst}
use Rattle.split_paths.specs.Key.{IsClosedKey}
use Rattle.work_pool.specs.Jobs.{JobView}
use Rattle.work_pool.proofs.Joining.{ready_key}
use Rattle.work_pool.proofs.job.do_job.Goals as goal

pub work-requires-clause-key : goal.work-requires-clause-key
work-requires-clause-key g c =
    subst (λ s. IsClosedKey (g.X.Splitter.step s) (g.X.Splitter.lawful_task s) g.N.Named.events g.N.Named.offers)
    (ap (λ (j : JobView _ _ _). j.splitter) (sym c.job.view_is) ∙ sym c.deref.ensures)
    (ready_key g.X.Splitter.step g.N.Named.events g.N.Named.offers g.X.Splitter.lawful_task c.args.job c.requires)
