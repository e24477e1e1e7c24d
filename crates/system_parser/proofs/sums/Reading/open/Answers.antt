-- The sum round the parenthesis is one of those that are open.
use Rattle.std.proofs.Common.{◌∷◌, sym, ap, ◌∙◌, subst}
use Rattle.std.specs.List.{AllByRecursion}
use Rattle.system_parser.specs.Sums.{IsFrame}
use Rattle.system_parser.proofs.sums.Reading.open.Goals as goal

pub returns-clause-reading : goal.returns-clause-reading
returns-clause-reading c = record {
  outer = subst (AllByRecursion (IsFrame c.args.over.now.field)) (sym (c.in_ok-push_front.ensures.ok ∙ ap (λ f. f ∷ c.args.self.now.outer) c.replace-around.ensures.value)) (c.requires.reading.frame, c.requires.reading.outer);
  frame = subst (IsFrame c.args.over.now.field) (sym c.replace-around.ensures.after) (c.new.ensures.over c.args.over.now.field);
  mode = tt;
}
