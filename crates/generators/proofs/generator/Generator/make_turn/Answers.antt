-- The first of those that waited was taken, and what was made of it waits in front of the others.
use Rattle.std.proofs.Common.{rules, sym, ◌∙◌}
use Rattle.generators.proofs.Turns.{from_front}
use Rattle.generators.proofs.generator.Generator.make_turn.Goals as goal

pub returns-in-Ok-clause-waits : goal.returns-in-Ok-clause-waits
returns-in-Ok-clause-waits g c = from_front _ _ _ _ _ _ (sym c.self.view_is ∙ c.in-Some.ensures.item) c.in-Ok.ensures.ok

pub returns-in-Err-clause-starved : goal.returns-in-Err-clause-starved
returns-in-Err-clause-starved g c = record {
  first = c.in-Some.first;
  rest = c.take_first.new.self;
  waited = sym c.self.view_is ∙ c.in-Some.ensures.item;
  at = c.in-Err.ensures.err;
  none = search rules;
}
