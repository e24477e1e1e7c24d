-- The last row is composed, where the products fit.
use Rattle.std.proofs.Common.{◌≡◌, true, Some, None, sym, ap, ◌∙◌}
use Rattle.mono_words.specs.declared.mono.TheConstants.{VARS}
use Rattle.tree_laws.specs.Steps.{fitting_then}
use Rattle.finish_rules.specs.Identities.{composed_within}
use Rattle.finish_rules.specs.Turns.{IdentitySoFar}
use Rattle.regularise.proofs.turn.composed.Goals as goal

pub returns-in-None : goal.returns-in-None
returns-in-None c chain ns further =
    let wide : composed_within c.args.w.now.field VARS c.args.w.now.width c.sofar.inside.row c.args.last.now ≡ None = let e = c.in_ok-compose.ensures.value in let i = c.in-None.is in cc in
    let same : composed_within c.args.w.now.field VARS c.args.w.now.width c.args.sofar.now.row c.args.last.now ≡ None = ap (λ (s : IdentitySoFar). composed_within c.args.w.now.field VARS c.args.w.now.width s.row c.args.last.now) (sym c.sofar.view_is) ∙ wide in
    sym (ap (λ o. fitting_then o (λ f. further (record { row = f; composed = true }))) same)

pub returns-in-Some : goal.returns-in-Some
returns-in-Some c chain ns further =
    let fits : composed_within c.args.w.now.field VARS c.args.w.now.width c.sofar.inside.row c.args.last.now ≡ Some c.in-Some.row = let e = c.in_ok-compose.ensures.value in let i = c.in-Some.is in cc in
    let same : composed_within c.args.w.now.field VARS c.args.w.now.width c.args.sofar.now.row c.args.last.now ≡ Some c.in-Some.row = ap (λ (s : IdentitySoFar). composed_within c.args.w.now.field VARS c.args.w.now.width s.row c.args.last.now) (sym c.sofar.view_is) ∙ fits in
    sym (ap (λ o. fitting_then o (λ f. further (record { row = f; composed = true }))) same)
