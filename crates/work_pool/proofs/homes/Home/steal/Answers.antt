use Rattle.std.proofs.Common.{refl, sym, subst}
use Rattle.work_pool.specs.Works.{Moves}
use Rattle.work_pool.proofs.Goings.{is_stolen, none_stolen}
use Rattle.work_pool.proofs.homes.Home.steal.Goals as goal

pub returns-in-Got : goal.returns-in-Got
returns-in-Got g c =
    subst (λ v. Moves g.N.Named.events g.N.Named.offers c.args.self.now v) (sym c.keep.ensures)
    (is_stolen _ _ _ _ c.self.view_is c.requires.desk c.args.k c.index_mut.result.now c.steal.new.self _ c.in-Got.offer c.requires.free
    c.in-Got.ensures.offer c.requires.within c.index_mut.ensures.value c.in-Got.ensures.got refl)

pub returns-in-Empty : goal.returns-in-Empty
returns-in-Empty g c =
    none_stolen _ _ _ _ c.self.view_is c.requires.desk c.args.k c.index_mut.result.now c.steal.new.self _
    c.requires.within c.index_mut.ensures.value c.in-Empty.ensures.empty refl
