-- A member needs no certificate, or has one, or ends the search for them.
use Rattle.std.proofs.Common.{◌+◌, drop, Some, sym, ap, ◌∙◌, subst}
use Rattle.std.specs.List.{AllByRecursion}
use Rattle.mono_words.specs.declared.mono.TheConstants.{VARS}
use Rattle.finish_rules.specs.Initials.{certified}
use Rattle.finish_laws.proofs.EachInitial.{IsFoundIn, each_found}
use Rattle.regularise.specs.Answers.{BecomesAt}
use Rattle.regularise.proofs.EachMember.{behind, each_at, passed, taken, gone, wide, gives_way}
use Rattle.regularise.proofs.initials.certified.Goals as goal
use Rattle.regularise.proofs.initials.certified.Goals.{in-None, in-Some-Certified+in_ok-push-in-Some-Certified}

pub at_member-requires-clause-member : goal.at_member-requires-clause-member
at_member-requires-clause-member c = each_at (IsFoundIn c.args.chain.now) c.polys-list.result.now c.loop-i.i c.at-t.result.now (subst (AllByRecursion (IsFoundIn c.args.chain.now)) (sym c.polys-list.ensures.value) (each_found c.args.chain.now c.polys-list.ensures.triangular)) c.at-t.ensures

pub returns-in-Some-Gone : goal.returns-in-Some-Gone
returns-in-Some-Gone c =
    let at = subst (BecomesAt c.args.w.now.field c.args.w.now.width c.args.chain.now c.args.nonzero.now c.at-t.result.now) (c.in-Some-Gone.is ∙ ap Some c.in-Some-Gone.field-0-is) c.in_ok-at_member.ensures in
    gone c.args.w.now.field c.args.w.now.width c.args.chain.now c.args.nonzero.now c.polys-list.result.now c.loop-i.certificates c.loop-i.i c.at-t.result.now c.at-t.ensures (certified c.args.w.now.field VARS c.args.w.now.width c.args.chain.now c.args.nonzero.now c.args.chain.now) c.loop-i.invariant at.0 at.1 at.2

pub returns-in-Some-Kids : goal.returns-in-Some-Kids
returns-in-Some-Kids c =
    let at = subst (BecomesAt c.args.w.now.field c.args.w.now.width c.args.chain.now c.args.nonzero.now c.at-t.result.now) (c.in-Some-Kids.is ∙ ap Some c.in-Some-Kids.field-0-is) c.in_ok-at_member.ensures in
    gives_way c.args.w.now.field c.args.w.now.width c.args.chain.now c.args.nonzero.now c.polys-list.result.now c.loop-i.certificates c.loop-i.i c.at-t.result.now c.at-t.ensures (certified c.args.w.now.field VARS c.args.w.now.width c.args.chain.now c.args.nonzero.now c.args.chain.now) c.loop-i.invariant at.0 c.in-Some-Kids.kids at.1 at.2

pub returns-in-Some-TooWide : goal.returns-in-Some-TooWide
returns-in-Some-TooWide c =
    let at = subst (BecomesAt c.args.w.now.field c.args.w.now.width c.args.chain.now c.args.nonzero.now c.at-t.result.now) (c.in-Some-TooWide.is ∙ ap Some c.in-Some-TooWide.field-0-is) c.in_ok-at_member.ensures in
    wide c.args.w.now.field c.args.w.now.width c.args.chain.now c.args.nonzero.now c.polys-list.result.now c.loop-i.certificates c.loop-i.i c.at-t.result.now c.at-t.ensures (certified c.args.w.now.field VARS c.args.w.now.width c.args.chain.now c.args.nonzero.now c.args.chain.now) c.loop-i.invariant at.0 at.1 at.2

pub loop-i-preserved : goal.loop-i-preserved
loop-i-preserved c = elim c.match-branch-2.branch [
  | in-None w ↦ ap (λ cs. behind cs (certified c.args.w.now.field VARS c.args.w.now.width c.args.chain.now c.args.nonzero.now (drop (c.loop-i.i + 1) c.polys-list.result.now))) w.certificates-is ∙ passed c.args.w.now.field c.args.w.now.width c.args.chain.now c.args.nonzero.now c.polys-list.result.now c.loop-i.certificates c.loop-i.i c.at-t.result.now c.at-t.ensures (certified c.args.w.now.field VARS c.args.w.now.width c.args.chain.now c.args.nonzero.now c.args.chain.now) c.loop-i.invariant (subst (BecomesAt c.args.w.now.field c.args.w.now.width c.args.chain.now c.args.nonzero.now c.at-t.result.now) w.in-None.is c.in_ok-at_member.ensures)
  | in-Some-Certified+in_ok-push-in-Some-Certified w ↦
      let at = subst (BecomesAt c.args.w.now.field c.args.w.now.width c.args.chain.now c.args.nonzero.now c.at-t.result.now) (w.in-Some-Certified.is ∙ ap Some w.in-Some-Certified.field-0-is) c.in_ok-at_member.ensures in
      taken c.args.w.now.field c.args.w.now.width c.args.chain.now c.args.nonzero.now c.polys-list.result.now c.loop-i.certificates c.loop-i.i c.at-t.result.now c.at-t.ensures (certified c.args.w.now.field VARS c.args.w.now.width c.args.chain.now c.args.nonzero.now c.args.chain.now) c.loop-i.invariant at.0 w.in-Some-Certified.c c.match-branch-2.certificates at.1 at.2 (w.certificates-is ∙ w.in_ok-push-in-Some-Certified.ensures.ok)
]
