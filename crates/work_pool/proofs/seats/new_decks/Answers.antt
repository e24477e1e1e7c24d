use Rattle.std.proofs.Common.{◌≡◌, ◌<◌, ◌+◌, ◌-◌, ◌++◌, ◌∷◌, [], List, length, map, length-append, sym, ap, ap₂, ◌∙◌, subst, arith}
use Rattle.std.proofs.lemmas.List.{map-append, length-map}
use Rattle.std.specs.List.{AllByRecursion}
use Rattle.offer_deck.specs.Views.{OwnerView, ThiefView, DeckId, IsNewDeck}
use Rattle.split_paths.proofs.Lists.{all_append}
use Rattle.work_pool.specs.Seats.{IsNewOwner, Stock}
use Rattle.work_pool.proofs.Seating.{stock_more, new_thieves}
use Rattle.work_pool.proofs.seats.new_decks.Goals as goal

pub loop-preserved : goal.loop-preserved
loop-preserved g c =
    let new : IsNewDeck c.in-Ok.owner c.in-Ok.thieves.items _ (c.args.workers - 1) = c.in-Ok.ensures in
    let pushed : c.push.new.self ≡ c.loop.owners ++ c.in-Ok.owner ∷ [] = c.in_ok-push.ensures.ok in
    let rows : c.push_row.new.rows.items ≡ c.loop.columns.items ++ c.in-Ok.thieves.items ∷ [] = c.in_ok-push_row.ensures in
    let grown = ap length pushed ∙ length-append c.loop.owners (c.in-Ok.owner ∷ []) in
    let decks : map (λ (o : OwnerView _). o.deck) c.push.new.self ≡ map (λ (o : OwnerView _). o.deck) c.loop.owners ++ c.in-Ok.owner.deck ∷ [] =
    ap (map (λ (o : OwnerView _). o.deck)) pushed ∙ map-append (λ (o : OwnerView _). o.deck) c.loop.owners (c.in-Ok.owner ∷ []) in
    let mapped = length-map c.loop.owners (λ (o : OwnerView _). o.deck) in
    let was = c.loop.invariant.count in
    let many = new.how_many in
    let all = new.all in
    record {
      count = omega arith;
      owners = subst (λ os. AllByRecursion (IsNewOwner c.args.workers) os) (sym pushed)
          (all_append (IsNewOwner c.args.workers) c.loop.owners (c.in-Ok.owner ∷ []) c.loop.invariant.owners
          (record { none_made = new.none_made; none_taken = new.none_taken; thieves = omega arith }, tt));
      stock = subst (λ (ds : List DeckId). Stock c.args.workers 0 ds c.push_row.new.rows.items) (sym decks)
          (subst (λ (rs : List (List (ThiefView _))). Stock c.args.workers 0 (map (λ (o : OwnerView _). o.deck) c.loop.owners ++ c.in-Ok.owner.deck ∷ []) rs) (sym rows)
          (stock_more c.args.workers 0 (map (λ (o : OwnerView _). o.deck) c.loop.owners) c.loop.columns.items c.in-Ok.owner.deck c.in-Ok.thieves.items
          c.loop.invariant.stock (omega arith) (omega arith) (new_thieves c.in-Ok.owner.deck c.in-Ok.thieves.items new.of_deck new.empty)));
    }
