-- First 0, then the entries from the third on, then the second, then zeros.
use Rattle.std.proofs.Common.{◌≡◌, ◌-◌, ◌++◌, [], ◌∷◌, length, drop, replicate, sym, ap, ap₂, ◌∙◌, append_assoc, append-nil, arith}
use Rattle.std.proofs.Math.Seq.{drop-length}
use Rattle.row_laws.specs.Compositions.{spread}
use Rattle.certificates.proofs.Entries.{copies_more, zeros_more, spread_is}
use Rattle.certificates.proofs.composition.spread.Goals as goal

pub loop-i-init : goal.loop-i-init
loop-i-init c = ap (λ xs. xs ++ drop 2 c.args.cofactors.now) (c.in_ok-push.ensures.ok ∙ ap₂ (λ xs x. xs ++ x ∷ []) c.new-places.ensures c.zero.ensures)

pub loop-i-preserved : goal.loop-i-preserved
loop-i-preserved c = copies_more c.args.cofactors.now c.loop-i.places c.push-in-loop-i.new.self ([] ∷ drop 2 c.args.cofactors.now) c.loop-i.i c.at-a.result.now c.in_ok-copy.field-0 c.at-a.ensures c.in_ok-copy.ensures c.in_ok-push-2.ensures.ok c.loop-i.invariant

pub loop-j-init : goal.loop-j-init
loop-j-init c =
    let ended : c.loop-i.i ≡ length c.args.cofactors.now = let past = c.loop-i-test.false in let up = c.loop-i.auto.i-end in let is = c.count-i-end.ensures in omega arith in
    let all : c.loop-i.places ≡ [] ∷ drop 2 c.args.cofactors.now = sym (append-nil c.loop-i.places) ∙ ap (λ xs. c.loop-i.places ++ xs) (sym (ap (λ k. drop k c.args.cofactors.now) ended ∙ drop-length c.args.cofactors.now)) ∙ c.loop-i.invariant in
    ap (λ xs. xs ++ replicate (c.args.count - c.count-j.result) []) (c.in_ok-push-3.ensures.ok ∙ ap₂ (λ xs x. xs ++ x ∷ []) all c.in_ok-copy-2.ensures)
    ∙ append_assoc ([] ∷ drop 2 c.args.cofactors.now) (c.at-b.result.now ∷ []) (replicate (c.args.count - c.count-j.result) [])
    ∙ ap (λ k. [] ∷ drop 2 c.args.cofactors.now ++ c.at-b.result.now ∷ replicate (c.args.count - k) []) c.count-j.ensures
    ∙ sym (spread_is c.args.count c.args.cofactors.now c.at-b.result.now c.at-b.ensures)

pub loop-j-preserved : goal.loop-j-preserved
loop-j-preserved c = zeros_more c.loop-j.places c.push-in-loop-j.new.self (spread c.args.count c.args.cofactors.now) c.args.count c.loop-j._j c.loop-j-test.true (c.in_ok-push-4.ensures.ok ∙ ap (λ x. c.loop-j.places ++ x ∷ []) c.zero-in-loop-j.ensures) c.loop-j.invariant

pub returns : goal.returns
returns c =
    let ended : c.args.count - c.loop-j._j ≡ 0 = let past = c.loop-j-test.false in omega arith in
    sym (append-nil c.loop-j.places) ∙ ap (λ k. c.loop-j.places ++ replicate k []) (sym ended) ∙ c.loop-j.invariant
