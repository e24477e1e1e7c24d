-- Each polynomial of the chain is below the main variable, and a line is written, or it isn't.
use Rattle.std.proofs.Common.{◌≡◌, ◌∙◌, ◌+◌, ◌<◌, ◌≤◌, List, ◌++◌, Some, false, length, map, drop, slice_get, string_bytes, refl, sym, ap, subst, append-nil, arith, le-ltb}
use Rattle.polynomials.specs.Polynomials.{Polynomial}
use Rattle.polynomials.specs.Views.{main_var}
use Rattle.report_text.specs.Polynomials.{IsInLeast}
use Rattle.zero_sets.specs.ZeroSets.{is_variable_below, members_below}
use Rattle.report_text.specs.Certified.{with_line}
use Rattle.report_text.proofs.CertificateLines.{lines_below, held_at, members_skip, cofactor_left, lines_take, line_written, lines_end}
use Rattle.report_text.proofs.certificate.write_below.Goals as goal
use Rattle.report_text.proofs.certificate.write_below.Goals.{in-None, in-Some+then-u-of+in_ok-write_with-in-Some, in-Some+else-u-of}

pub loop-i-init : goal.loop-i-init
loop-i-init c = let count = c.requires.certificate.count in (refl, omega arith, omega arith)

pub at-requires-then-u-of : goal.at-requires-then-u-of
at-requires-then-u-of c =
    let left = cofactor_left c.args.certificate.now.of c.args.chain.now c.loop-i.i c.at.result.now c.at.ensures c.in-Some.u (sym c.main_var.ensures ∙ c.in-Some.is) (subst (λ v. c.in-Some.u < v) c.of.ensures c.if-u-of.true) c.loop-i.written c.args.certificate.now.below c.loop-i.invariant.1
    in
    let same = ap (λ (bs : List Polynomial). length bs) c.below-below.ensures in omega arith

pub write_with-requires-clause-cofactor : goal.write_with-requires-clause-cofactor
write_with-requires-clause-cofactor c =
    held_at (IsInLeast (length c.args.names.now)) c.args.certificate.now.below c.loop-i.written c.at-then-u-of.result.now c.requires.certificate.below (ap (λ bs. slice_get bs c.loop-i.written) (sym c.below-below.ensures) ∙ c.at-then-u-of.ensures)

pub overflow_add-written : goal.overflow_add-written
overflow_add-written c = let before = c.loop-i.invariant.2 in omega arith

pub loop-i-preserved : goal.loop-i-preserved
loop-i-preserved c =
    let names = map string_bytes c.args.names.now in
    let v = c.args.certificate.now.of in
    let chain = c.args.chain.now in
    let below = c.args.certificate.now.below in
    let i = c.loop-i.i in
    let t = c.at.result.now in
    let passed : c.match-main_var.text ≡ c.loop-i.text → c.match-main_var.written ≡ c.loop-i.written → is_variable_below v (main_var t) ≡ false
    → (string_bytes c.match-main_var.text ++ lines_below names v (drop (i + 1) chain) (drop c.match-main_var.written below) ≡ string_bytes c.args.text.now ++ lines_below names v chain below)
    × (c.match-main_var.written + length (members_below v (drop (i + 1) chain)) ≡ length below)
    × (c.match-main_var.written ≤ i + 1) = λ text_is written_is above.
    let same = members_skip v chain i t c.at.ensures above in
    let before = c.loop-i.invariant.2 in
    rw (text_is, written_is, ← same) (c.loop-i.invariant.0, c.loop-i.invariant.1, omega arith)
    in
    elim c.match-main_var.branch [
      | in-Some+then-u-of+in_ok-write_with-in-Some w ↦
          let main : main_var t ≡ Some w.in-Some.u = sym c.main_var.ensures ∙ w.in-Some.is in
          let less : w.in-Some.u < v = subst (λ x. w.in-Some.u < x) w.of.ensures w.if-u-of.true in
          let at : slice_get below c.loop-i.written ≡ Some w.at-then-u-of.result.now = ap (λ bs. slice_get bs c.loop-i.written) (sym c.below-below.ensures) ∙ w.at-then-u-of.ensures in
          let text_is : string_bytes c.match-main_var.text ≡ string_bytes c.loop-i.text ++ with_line names (w.in-Some.u, w.at-then-u-of.result.now) = rw w.text-is w.in_ok-write_with-in-Some.ensures in
          let before = c.loop-i.invariant.2 in
          rw w.written-is (
            line_written (string_bytes c.loop-i.text) _ _ _ (string_bytes c.match-main_var.text) text_is
                (ap (λ x. string_bytes c.loop-i.text ++ x) (sym (lines_take v chain i t c.at.ensures names w.in-Some.u main less below c.loop-i.written w.at-then-u-of.result.now at)) ∙ c.loop-i.invariant.0),
            cofactor_left v chain i t c.at.ensures w.in-Some.u main less c.loop-i.written below c.loop-i.invariant.1,
            omega arith,
          )
      | in-Some+else-u-of w ↦
          let main : main_var t ≡ Some w.in-Some.u = sym c.main_var.ensures ∙ w.in-Some.is in
          let past : v ≤ w.in-Some.u = subst (λ x. x ≤ w.in-Some.u) w.of.ensures w.if-u-of.false in
          passed w.text-is w.written-is (ap (is_variable_below v) main ∙ le-ltb w.in-Some.u v past)
      | in-None w ↦ passed w.text-is w.written-is (ap (is_variable_below v) (sym c.main_var.ensures ∙ w.in-None.is))
    ]

pub returns : goal.returns
returns c =
    let names = map string_bytes c.args.names.now in
    let none = lines_end names c.args.certificate.now.of c.loop-i.i c.args.chain.now (drop c.loop-i.written c.args.certificate.now.below) (omega arith) in
    sym (append-nil (string_bytes c.loop-i.text)) ∙ (ap (λ x. string_bytes c.loop-i.text ++ x) (sym none) ∙ c.loop-i.invariant.0)
