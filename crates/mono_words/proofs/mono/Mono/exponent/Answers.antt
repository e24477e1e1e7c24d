-- The exponent stands in its word.
use Rattle.std.proofs.Common.{◌%◌, ◌∙◌, ap}
use Rattle.polynomials.specs.Monomials.{exponent_of}
use Rattle.mono_words.proofs.PartPlaces.{exponent_of-word_of}
use Rattle.mono_words.proofs.mono.Mono.exponent.Goals as goal

pub returns : goal.returns
returns c = c.exponent.ensures ∙ ap (exponent_of (c.args.v % 4)) c.word.ensures ∙ exponent_of-word_of c.args.v c.args.self
