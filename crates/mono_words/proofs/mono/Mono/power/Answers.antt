-- The power stands in its word.
use Rattle.std.proofs.Common.{◌/◌, ◌%◌, ◌∙◌, sym, ap, ap₂, replicate, set, arith}
use Rattle.mono_words.specs.FourWords.{with_word}
use Rattle.mono_words.proofs.PartPlaces.{set-with_word, word_of-one}
use Rattle.mono_words.proofs.mono.Mono.power.Goals as goal

pub returns : goal.returns
returns c =
    c.with_word.ensures ∙ ap₂ (λ m w. with_word m (c.args.v / 4) w) c.one.ensures c.power.ensures
    ∙ ap (λ w. with_word (replicate 16 0) (c.args.v / 4) (set w (c.args.v % 4) c.args.e)) (sym (word_of-one (c.args.v / 4) (omega arith)))
    ∙ set-with_word c.args.v c.args.e (replicate 16 0) c.requires
