-- The exponent is shifted to its place, and fits there.
use Rattle.std.proofs.Common.{◌*◌, ◌<◌, ◌∙◌, ap, arith}
use Rattle.std.proofs.lemmas.Nat.{shl_whole}
use Rattle.mono_words.specs.Words.{exponents}
use Rattle.mono_words.proofs.Places.{exponents-power, power_of_two}
use Rattle.mono_words.proofs.word.Word.power.Goals as goal

pub returns : goal.returns
returns c =
    let small : c.args.e < 65536 = omega arith in
    ap (exponents 4) (shl_whole c.args.e 16 (16 * c.args.v) 64 small (omega arith) ∙ ap (λ x. c.args.e * x) (power_of_two c.args.v))
    ∙ exponents-power 4 c.args.v c.args.e c.requires small
