use Rattle.std.proofs.Common.{◌≡◌, ◌+◌, ◌++◌, ◌∷◌, List, [], length, map, length-append, append-nil, sym, ap, ◌∙◌, subst, arith}
use Rattle.event_lanes.specs.Views.{LaneView}
use Rattle.split_paths.specs.Places.{Place}
use Rattle.offer_deck.specs.Views.{OwnerView}
use Rattle.work_pool.specs.Homes.{HomeView}
use Rattle.work_pool.specs.Seats.{AreDesks, IsNewOwner}
use Rattle.work_pool.proofs.Covered.{all_front}
use Rattle.work_pool.proofs.Seating.{seat_next, lane_numbers}
use Rattle.work_pool.proofs.seats.seat.Goals as goal

pub loop-owner-init : goal.loop-owner-init
loop-owner-init g c = record {
  hub = c.requires.hub;
  numbered = c.requires.numbered;
  empty = c.requires.empty;
  count = c.requires.count;
  owners = c.requires.owners;
  stock = c.requires.stock;
  cut = ([], sym (append-nil (map (λ (o : OwnerView _). o.deck) c.args.owners)));
  desks = subst (λ ds. AreDesks c.args.hub.now.name (map (λ (o : OwnerView _). o.deck) c.args.owners) (length c.args.owners) ds)
      (sym c.new-desks.ensures) tt;
  total = let none = ap length c.new-desks.ensures in omega arith;
}

pub loop-owner-preserved : goal.loop-owner-preserved
loop-owner-preserved g c =
    let next = seat_next c.args.hub.now.name c.args.owners c.loop-owner.owners c.take_last.new.self c.in-Some.owner c.loop-owner.lanes.items
    c.pop.new.self.items c.in-Some-pop.lane c.loop-owner.columns.items c.take_column.new.rows.items c.in_ok-thieves.thieves.items
    c.count.result c.loop-owner.desks c.in-Some.ensures.item c.in-Some-pop.ensures.items c.loop-owner.invariant.count c.count.ensures
    c.loop-owner.invariant.hub c.loop-owner.invariant.numbered c.loop-owner.invariant.empty c.loop-owner.invariant.owners
    c.loop-owner.invariant.stock c.in_ok-thieves.ensures c.loop-owner.invariant.cut c.loop-owner.invariant.desks in
    let owners = ap length c.in-Some.ensures.item ∙ length-append c.take_last.new.self (c.in-Some.owner ∷ []) in
    let lanes = ap length c.in-Some-pop.ensures.items ∙ length-append c.pop.new.self.items (c.in-Some-pop.lane ∷ []) in
    let count = c.loop-owner.invariant.count in
    let total = c.loop-owner.invariant.total in
    let more = ap length c.in_ok-push_front.ensures.ok in
    record {
      hub = all_front (λ (l : LaneView _). l.hub ≡ c.args.hub.now.name) c.loop-owner.lanes.items c.pop.new.self.items c.in-Some-pop.lane
          c.loop-owner.invariant.hub c.in-Some-pop.ensures.items;
      numbered = (lane_numbers c.loop-owner.lanes.items c.pop.new.self.items c.in-Some-pop.lane c.in-Some-pop.ensures.items c.loop-owner.invariant.numbered).0;
      empty = all_front (λ (l : LaneView _). l.put ≡ []) c.loop-owner.lanes.items c.pop.new.self.items c.in-Some-pop.lane
          c.loop-owner.invariant.empty c.in-Some-pop.ensures.items;
      count = omega arith;
      owners = all_front (IsNewOwner (length c.args.owners)) c.loop-owner.owners c.take_last.new.self c.in-Some.owner
          c.loop-owner.invariant.owners c.in-Some.ensures.item;
      stock = next.1;
      cut = next.2;
      desks = subst (λ ds. AreDesks c.args.hub.now.name (map (λ (o : OwnerView _). o.deck) c.args.owners) (length c.take_last.new.self) ds)
          (sym c.in_ok-push_front.ensures.ok)
          (subst (λ (ws : List (List (Place _))). AreDesks c.args.hub.now.name (map (λ (o : OwnerView _). o.deck) c.args.owners) (length c.take_last.new.self)
          (record { lane = c.in-Some-pop.lane; owner = c.in-Some.owner; thieves = c.in_ok-thieves.thieves.items; events = []; waiting = ws; offers = [] } ∷ c.loop-owner.desks))
          (sym c.new.ensures) next.0);
      total = omega arith;
    }
