-- The coefficient 1 is left out where the monomial isn't 1.
use Rattle.std.proofs.Common.{◌≡◌, ◌++◌, OnOk, map, string_bytes, subst}
use Rattle.std.proofs.lemmas.List.{length-map}
use Rattle.mono_words.specs.declared.mono.TheConstants.{VARS}
use Rattle.report_text.proofs.Terms.{powers_alone, term_whole, one_by_test, other_by_test}
use Rattle.report_text.proofs.poly.write_term.Goals as goal
use Rattle.report_text.proofs.poly.write_term.Goals.{else-c-eq1-via-then-c-eq1+else-not-is_one, else-c-eq1-via-else-c-eq1}

pub returns-then-not-is_one : goal.returns-then-not-is_one
returns-then-not-is_one c =
    subst (λ x. OnOk c.write_powers.result (string_bytes c.write_powers.new.text ≡ string_bytes c.args.text.now ++ x))
    (powers_alone (map string_bytes c.args.names.now) c.args.t.now.0 c.args.t.now.1 c.if-c-eq1.true
    (other_by_test VARS c.is_one.result c.args.t.now.0 c.shape.ensures.variables c.is_one.ensures c.if-not-is_one.true)
    (λ v past. c.requires v (rw length-map at past)))
    c.write_powers.ensures

pub returns : goal.returns
returns c =
    subst (λ x. OnOk c.write_powers-2.result (string_bytes c.write_powers-2.new.text ≡ x))
    (term_whole (map string_bytes c.args.names.now) c.args.t.now.0 c.args.t.now.1 (string_bytes c.args.text.now) _ c.in_ok-write.ensures.bytes
    (elim c.else-c-eq1.branch [
      | else-c-eq1-via-then-c-eq1+else-not-is_one w ↦ λ one. one_by_test VARS w.is_one.result c.args.t.now.0 c.shape.ensures.variables w.is_one.ensures w.if-not-is_one.false
      | else-c-eq1-via-else-c-eq1 w ↦ λ one. absurd (w.if-c-eq1.false one)
    ]))
    c.write_powers-2.ensures
