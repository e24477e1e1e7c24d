-- What is written is the power of the variable, and nothing of one that doesn't occur.
use Rattle.std.proofs.Common.{◌≡◌, ◌∙◌, ◌<◌, ◌++◌, [], ◌∷◌, Some, slice_get, map, string_bytes, ap, subst, arith}
use Rattle.std.proofs.lemmas.Option.{slice_get-map}
use Rattle.std.specs.Option.{option_map}
use Rattle.polynomials.specs.Monomials.{exponent_of}
use Rattle.report_text.specs.Polynomials.{power_text, powers_text}
use Rattle.report_text.proofs.PowerTurns.{skip_turn, take_turn, last_turn}
use Rattle.report_text.proofs.poly.write_powers.Goals as goal
use Rattle.report_text.proofs.poly.write_powers.Goals.{then-e-gt0+in_ok-write_factor, else-e-gt0}

pub loop-v-preserved : goal.loop-v-preserved
loop-v-preserved c = elim c.if-e-gt0.branch [
  | then-e-gt0+in_ok-write_factor w ↦
      let name_is : slice_get (map string_bytes c.args.names.now) c.loop-v.v ≡ Some (string_bytes w.at.result.now) =
      slice_get-map string_bytes c.args.names.now c.loop-v.v ∙ ap (option_map string_bytes) w.at.ensures
      in
      let occurs : 0 < exponent_of c.loop-v.v c.args.m = subst (λ e. 0 < e) c.exponent-e.ensures w.if-e-gt0.true in
      let power_is : string_bytes c.if-e-gt0.text ≡ string_bytes c.loop-v.text ++ powers_text c.loop-v.is_first (power_text (string_bytes w.at.result.now) (exponent_of c.loop-v.v c.args.m) ∷ []) =
      rw (w.text-is, ← w.as_str.ensures.value, ← c.exponent-e.ensures) (w.in_ok-write_factor.ensures)
      in
      rw w.is_first-is (take_turn (map string_bytes c.args.names.now) c.args.m c.loop-v.v c.loop-v.is_first _ _ c.loop-v.invariant _ _ name_is occurs power_is)
  | else-e-gt0 w ↦
      rw (w.is_first-is, w.text-is) (skip_turn (map string_bytes c.args.names.now) c.args.m c.loop-v.v c.loop-v.is_first _ _ c.loop-v.invariant (omega arith))
]

pub returns : goal.returns
returns c =
    last_turn (map string_bytes c.args.names.now) c.args.m c.loop-v.v c.loop-v.is_first (string_bytes c.loop-v.text) _ c.loop-v.invariant (omega arith)
