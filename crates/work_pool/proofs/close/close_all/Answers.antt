use Rattle.std.proofs.Common.{
  ◌≡◌,
  ◌+◌,
  length,
  arith,
  sym,
  ◌∙◌,
  subst,
  ap,
  length-append,
  [],
  ◌∷◌,
}
use Rattle.split_paths.specs.Key.{IsTrueOffer}
use Rattle.split_paths.proofs.Lists.{all_append}
use Rattle.std.specs.List.{AllByRecursion}
use Rattle.offer_deck.specs.Views.{OwnerView, ThiefView}
use Rattle.work_pool.proofs.Closings.{rows_next, column_count, closing_next}
use Rattle.work_pool.proofs.Covered.{all_front, the_last}
use Rattle.work_pool.proofs.Rows.{same_count}
use Rattle.work_pool.proofs.close.close_all.Goals as goal

pub close_deck-requires-clause-deck : goal.close_deck-requires-clause-deck
close_deck-requires-clause-deck g c =
    (rows_next c.loop-owner.owners c.take_last.new.self c.in-Some.owner c.count.result c.loop-owner.rows.items c.take_column.new.rows.items
    c.in_ok-thieves.thieves.items c.in-Some.ensures.item c.count.ensures c.loop-owner.invariant.rows c.in_ok-thieves.ensures).1

pub close_deck-requires-clause-all : goal.close_deck-requires-clause-all
close_deck-requires-clause-all g c =
    let cut = ap length c.in-Some.ensures.item ∙ length-append c.take_last.new.self (c.in-Some.owner ∷ []) in
    let n = column_count c.loop-owner.owners c.take_last.new.self c.in-Some.owner c.count.result c.loop-owner.rows.items c.take_column.new.rows.items
    c.in_ok-thieves.thieves.items c.in-Some.ensures.item c.count.ensures
    (omega (arith, cut, c.count.ensures, c.loop-owner.invariant.within, c.loop-owner.invariant.count)) c.loop-owner.invariant.rows c.in_ok-thieves.ensures in
    let one = the_last (λ (o : OwnerView _). o.thieves + 1 ≡ length c.args.rows.items) c.loop-owner.owners c.take_last.new.self c.in-Some.owner
    c.loop-owner.invariant.thieves c.in-Some.ensures.item in
    omega (arith, n, one, c.loop-owner.invariant.count)

pub loop-owner-preserved : goal.loop-owner-preserved
loop-owner-preserved g c =
    let cut = ap length c.in-Some.ensures.item ∙ length-append c.take_last.new.self (c.in-Some.owner ∷ []) in
    let same = same_count c.count.result 0 c.loop-owner.rows.items c.take_column.new.rows.items c.in_ok-thieves.thieves.items c.in_ok-thieves.ensures in
    record {
      rows = (rows_next c.loop-owner.owners c.take_last.new.self c.in-Some.owner c.count.result c.loop-owner.rows.items c.take_column.new.rows.items
          c.in_ok-thieves.thieves.items c.in-Some.ensures.item c.count.ensures c.loop-owner.invariant.rows c.in_ok-thieves.ensures).0;
      count = sym same ∙ c.loop-owner.invariant.count;
      within = omega (arith, cut, c.loop-owner.invariant.within);
      thieves = all_front (λ (o : OwnerView _). o.thieves + 1 ≡ length c.args.rows.items) c.loop-owner.owners c.take_last.new.self c.in-Some.owner
          c.loop-owner.invariant.thieves c.in-Some.ensures.item;
      closing = closing_next c.args.owners c.args.rows.items c.loop-owner.owners c.take_last.new.self c.count.result c.loop-owner.rows.items
          c.take_column.new.rows.items c.in_ok-thieves.thieves.items c.in-Some.owner c.loop-owner.left c.in_ok-more.more c.append.new.self
          c.loop-owner.invariant.closing c.in-Some.ensures.item c.in_ok-thieves.ensures c.in_ok-more.ensures.whole c.in_ok-append.ensures.ok;
      known = subst (AllByRecursion (IsTrueOffer g.N.Named.offers)) (sym c.in_ok-append.ensures.ok)
          (all_append (IsTrueOffer g.N.Named.offers) c.loop-owner.left c.in_ok-more.more c.loop-owner.invariant.known c.in_ok-more.ensures.known);
    }
