-- The exponent stands in its word.
use Rattle.std.proofs.Common.{◌/◌, ◌%◌, ◌∙◌, ap, set, arith}
use Rattle.mono_words.specs.FourWords.{with_word}
use Rattle.mono_words.proofs.PartPlaces.{set-with_word}
use Rattle.mono_words.proofs.mono.Mono.without.Goals as goal

pub returns : goal.returns
returns c =
    c.with_word.ensures ∙ ap (with_word c.args.self (c.args.v / 4)) (c.without.ensures ∙ ap (λ w. set w (c.args.v % 4) 0) c.word.ensures)
    ∙ set-with_word c.args.v 0 c.args.self (omega (arith, c.shape.ensures.variables))
