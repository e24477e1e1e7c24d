-- The sums are read from the last on.
use Rattle.std.proofs.Common.{◌≡◌, ◌+◌, ◌-◌, drop, sym, ap, ◌∙◌, arith}
use Rattle.std.proofs.Math.ListN.{drop_of_length-le}
use Rattle.mono_words.specs.declared.mono.TheConstants.{VARS}
use Rattle.sparse_poly.specs.Boxes.{monomial_of_place, boxed, from_slots}
use Rattle.sparse_poly.proofs.BoxMonomials.{first_again, length-boxed}
use Rattle.sparse_poly.proofs.BoxSums.{emptied_some, emptied_none}
use Rattle.sparse_poly.proofs.boxes.from_sums.Goals as goal

pub loop-k-init : goal.loop-k-init
loop-k-init c = record {
  monomial = c.one-monomial.ensures ∙ sym (first_again VARS c.args.sides.now c.requires.some) ∙ ap (monomial_of_place VARS c.args.sides.now) (sym c.requires.count);
  made =
      c.new-out.ensures.items
      ∙ ap (from_slots c.args.f) (sym (drop_of_length-le (boxed VARS c.args.sides.now 0 c.args.sums.now) (omega (arith, length-boxed VARS c.args.sides.now 0 c.args.sums.now))));
}

pub loop-k-preserved-in-Continue-1 : goal.loop-k-preserved-in-Continue-1
loop-k-preserved-in-Continue-1 c =
    let some = c.loop-k-test.true in
    let most = c.loop-k.auto.k in
    let next : c.loop-k.k ≡ c.loop-k.k - 1 + 1 = omega arith in
    let monomial = c.before-monomial.ensures (c.loop-k.k - 1) (c.loop-k.invariant.monomial ∙ ap (monomial_of_place VARS c.args.sides.now) next) in
    record {
      monomial = monomial;
      made =
          c.in_ok-push.ensures.items
          ∙ emptied_some c.args.f VARS c.args.sides.now (c.loop-k.k - 1) c.loop-k.out.items c.args.sums.now (omega arith)
          (c.loop-k.invariant.made ∙ ap (λ k. from_slots c.args.f (drop k (boxed VARS c.args.sides.now 0 c.args.sums.now))) next)
          c.before-monomial.result c.residue-c.result monomial c.residue-c.ensures.value c.if-c-ne0.true;
    }

pub loop-k-preserved : goal.loop-k-preserved
loop-k-preserved c =
    let some = c.loop-k-test.true in
    let most = c.loop-k.auto.k in
    let next : c.loop-k.k ≡ c.loop-k.k - 1 + 1 = omega arith in
    record {
      monomial = c.before-monomial.ensures (c.loop-k.k - 1) (c.loop-k.invariant.monomial ∙ ap (monomial_of_place VARS c.args.sides.now) next);
      made =
          emptied_none c.args.f VARS c.args.sides.now (c.loop-k.k - 1) c.loop-k.out.items c.args.sums.now (omega arith)
          (c.loop-k.invariant.made ∙ ap (λ k. from_slots c.args.f (drop k (boxed VARS c.args.sides.now 0 c.args.sums.now))) next)
          (sym c.if-c-ne0.false ∙ c.residue-c.ensures.value);
    }
