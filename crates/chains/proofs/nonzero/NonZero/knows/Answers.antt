-- What isn't constant is known by its monic form alone.
use Rattle.std.proofs.Common.{◌||◌, sym, ap, ◌∙◌}
use Rattle.std.proofs.lemmas.Bool.{false_from_ne_true}
use Rattle.polynomials.specs.Polynomials.{monic}
use Rattle.polynomials.specs.Views.{is_constant}
use Rattle.zero_sets.specs.Tasks.{is_member}
use Rattle.chains.proofs.nonzero.NonZero.knows.Goals as goal

pub returns-else-is_constant : goal.returns-else-is_constant
returns-else-is_constant c = c.has_monic_form.ensures ∙ ap (λ b. b || is_member (monic c.args.f c.args.h.now) c.args.self.now) (sym (false_from_ne_true (is_constant c.args.h.now) (λ e. let same = sym (c.is_constant.ensures.1 e) ∙ c.if-is_constant.false in cc)))
