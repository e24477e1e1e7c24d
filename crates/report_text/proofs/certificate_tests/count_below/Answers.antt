-- The next polynomial is below the variable, and is counted, or it isn't.
use Rattle.std.proofs.Common.{◌≡◌, ◌∙◌, ◌+◌, ◌≤◌, false, List, length, drop, sym, ap, arith, le-ltb}
use Rattle.polynomials.specs.Polynomials.{Polynomial}
use Rattle.polynomials.specs.Views.{main_var}
use Rattle.zero_sets.specs.ZeroSets.{is_variable_below, members_below}
use Rattle.report_text.proofs.CertificateLines.{members_skip, cofactor_left}
use Rattle.report_text.proofs.certificate_tests.count_below.Goals as goal
use Rattle.report_text.proofs.certificate_tests.count_below.Goals.{in-None, in-Some+then-u-v, in-Some+else-u-v}

pub loop-i-preserved : goal.loop-i-preserved
loop-i-preserved c =
    let chain = c.args.chain.now in
    let passed : c.match-main_var.count ≡ c.loop-i.count → is_variable_below c.args.v (main_var c.at.result.now) ≡ false
    → (c.match-main_var.count + length (members_below c.args.v (drop (c.loop-i.i + 1) chain)) ≡ length (members_below c.args.v chain))
    × (c.match-main_var.count ≤ c.loop-i.i + 1) = λ count_is above.
    let same = members_skip c.args.v chain c.loop-i.i c.at.result.now c.at.ensures above in
    let before = c.loop-i.invariant.1 in
    rw (count_is, ← same) (c.loop-i.invariant.0, omega arith)
    in
    elim c.match-main_var.branch [
      | in-None w ↦ passed w.count-is (ap (is_variable_below c.args.v) (sym c.main_var.ensures ∙ w.in-None.is))
      | in-Some+then-u-v w ↦
          let before = c.loop-i.invariant.1 in
          let more = cofactor_left c.args.v chain c.loop-i.i c.at.result.now c.at.ensures w.in-Some.u (sym c.main_var.ensures ∙ w.in-Some.is) w.if-u-v.true c.loop-i.count (members_below c.args.v chain) c.loop-i.invariant.0 in
          rw w.count-is (more, omega arith)
      | in-Some+else-u-v w ↦
          passed w.count-is (ap (is_variable_below c.args.v) (sym c.main_var.ensures ∙ w.in-Some.is) ∙ le-ltb w.in-Some.u c.args.v w.if-u-v.false)
    ]
