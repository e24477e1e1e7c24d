use Rattle.std.proofs.Common.{sym, subst}
use Rattle.work_pool.specs.Works.{Moves}
use Rattle.work_pool.proofs.Goings.{is_recalled, none_recalled}
use Rattle.work_pool.proofs.homes.Home.recall.Goals as goal

pub returns-in-Some : goal.returns-in-Some
returns-in-Some g c =
    subst (λ v. Moves g.N.Named.events g.N.Named.offers c.args.self.now v) (sym c.keep.ensures)
    (is_recalled _ _ _ _ c.self.view_is c.requires.desk c.in-Some.offer c.recall.new.self c.requires.free
    c.in-Some.ensures.offer c.in-Some.ensures.some)

pub returns-in_default : goal.returns-in_default
returns-in_default g c =
    none_recalled _ _ _ _ c.self.view_is c.requires.desk c.recall.new.self c.in_default.ensures.none
