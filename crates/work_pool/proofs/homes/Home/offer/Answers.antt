use Rattle.std.proofs.Common.{sym, ap, ◌∙◌, subst}
use Rattle.work_pool.specs.Works.{Moves}
use Rattle.std.specs.Option.{option_to_list}
use Rattle.work_pool.proofs.Goings.{none_spare, is_offered, is_kept, true_offer}
use Rattle.work_pool.proofs.homes.Home.offer.Goals as goal

pub returns-in_default : goal.returns-in_default
returns-in_default g c =
    none_spare _ _ _ _ c.self.view_is c.requires.desk c.take.new.self
    (ap option_to_list (c.take.ensures.after ∙ (sym c.in_default.is ∙ c.take.ensures.value)))

pub offer-requires : goal.offer-requires
offer-requires g c =
    true_offer _ _ _ _ c.self.view_is c.requires.desk c.in-Some.offer
    (ap option_to_list (sym c.take.ensures.value ∙ c.in-Some.is))

pub returns-in-Err : goal.returns-in-Err
returns-in-Err g c =
    subst (λ v. Moves g.N.Named.events g.N.Named.offers c.args.self.now v) (sym c.keep.ensures)
    (is_kept _ _ _ _ c.self.view_is c.requires.desk c.in-Some.offer c.in-Err.back c.offer.new.self
    (ap option_to_list (sym c.take.ensures.value ∙ c.in-Some.is)) c.in-Err.ensures.full.1 c.in-Err.ensures.full.0)

pub returns-in_default-offer : goal.returns-in_default-offer
returns-in_default-offer g c =
    is_offered _ _ _ _ c.self.view_is c.requires.desk c.in-Some.offer c.offer.new.self c.take.new.self
    (ap option_to_list (sym c.take.ensures.value ∙ c.in-Some.is)) c.in_default-offer.ensures.ok c.take.ensures.after
