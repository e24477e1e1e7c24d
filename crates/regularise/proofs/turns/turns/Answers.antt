-- A turn makes an identity for the others, or ends them.
use Rattle.std.proofs.Common.{◌≡◌, ◌-◌, suc, zero, false, ap, ◌∙◌, subst, arith}
use Rattle.mono_words.specs.declared.mono.TheConstants.{VARS}
use Rattle.zero_sets.specs.Certificates.{Certificate}
use Rattle.zero_sets.specs.ZeroSets.{member_in}
use Rattle.split_paths.specs.declared.splitter.Step.TheVariants.{Emit}
use Rattle.tree_laws.specs.Steps.{gives_way_to}
use Rattle.finish_rules.specs.Identities.{certificate_of}
use Rattle.finish_rules.specs.Turns.{IdentitySoFar, Turned, turn_at, turns_below}
use Rattle.regularise.specs.declared.identity.Turn.{Turn}
use Rattle.regularise.specs.Identities.{HasIdentity}
use Rattle.regularise.specs.Turns.{after, IfFurther}
use Rattle.regularise.proofs.TurnsLeft.{turn_made, turn_ended, turns_done}
use Rattle.regularise.proofs.turns.turns.Goals as goal

pub loop-u-preserved : goal.loop-u-preserved
loop-u-preserved c =
    let next : c.loop-u.u ≡ suc (c.loop-u.u - 1) = let some = c.loop-u-test.true in omega arith in
    let made = subst (λ (r : Turn). (further : IdentitySoFar → Turned) → after further r ≡ turn_at c.args.w.now.field VARS c.args.w.now.width c.args.chain.now c.args.nonzero.now (c.loop-u.u - 1) further c.loop-u.sofar (member_in (c.loop-u.u - 1) c.args.chain.now)) c.in-Further.is c.in_ok-next.ensures.step in (
      turn_made c.args.w.now.field c.args.w.now.width c.args.chain.now c.args.nonzero.now c.loop-u.u (c.loop-u.u - 1) c.loop-u.sofar (turns_below c.args.w.now.field VARS c.args.w.now.width c.args.chain.now c.args.nonzero.now (c.loop-u.u - 1) c.in-Further.next) (turns_below c.args.w.now.field VARS c.args.w.now.width c.args.chain.now c.args.nonzero.now c.args.v (record { row = c.args.row; composed = false })) next (made (turns_below c.args.w.now.field VARS c.args.w.now.width c.args.chain.now c.args.nonzero.now (c.loop-u.u - 1))) c.loop-u.invariant.0,
      subst (IfFurther (λ s. HasIdentity c.args.w.now.field (c.loop-u.u - 1) c.args.chain.now s.row)) c.in-Further.is c.in_ok-next.ensures.identity,
    )

pub returns-in-Vanishing : goal.returns-in-Vanishing
returns-in-Vanishing c =
    let next : c.loop-u.u ≡ suc (c.loop-u.u - 1) = let some = c.loop-u-test.true in omega arith in
    let made = subst (λ (r : Turn). (further : IdentitySoFar → Turned) → after further r ≡ turn_at c.args.w.now.field VARS c.args.w.now.width c.args.chain.now c.args.nonzero.now (c.loop-u.u - 1) further c.loop-u.sofar (member_in (c.loop-u.u - 1) c.args.chain.now)) c.in-Vanishing.is c.in_ok-next.ensures.step in
    c.gives_way_to.ensures ∙ turn_ended c.args.v c.in-Vanishing.list (turns_below c.args.w.now.field VARS c.args.w.now.width c.args.chain.now c.args.nonzero.now c.args.v (record { row = c.args.row; composed = false })) (turn_made c.args.w.now.field c.args.w.now.width c.args.chain.now c.args.nonzero.now c.loop-u.u (c.loop-u.u - 1) c.loop-u.sofar (gives_way_to c.in-Vanishing.list) (turns_below c.args.w.now.field VARS c.args.w.now.width c.args.chain.now c.args.nonzero.now c.args.v (record { row = c.args.row; composed = false })) next (made (turns_below c.args.w.now.field VARS c.args.w.now.width c.args.chain.now c.args.nonzero.now (c.loop-u.u - 1))) c.loop-u.invariant.0)

pub returns : goal.returns
returns c =
    let none : c.loop-u.u ≡ zero = let past = c.loop-u-test.false in omega arith in
    let row : c.of_row.result ≡ certificate_of c.args.v c.loop-u.sofar.row = c.of_row.ensures ∙ ap (λ (s : IdentitySoFar). certificate_of c.args.v s.row) c.sofar.view_is in
    ap (λ (x : Certificate). Emit x) row ∙ turns_done c.args.w.now.field c.args.w.now.width c.args.chain.now c.args.nonzero.now c.loop-u.u c.args.v c.loop-u.sofar (turns_below c.args.w.now.field VARS c.args.w.now.width c.args.chain.now c.args.nonzero.now c.args.v (record { row = c.args.row; composed = false })) none c.loop-u.invariant.0
