-- No sum is open round the first.
use Rattle.std.proofs.Common.{sym, subst}
use Rattle.std.specs.List.{AllByRecursion}
use Rattle.system_parser.specs.Sums.{IsFrame}
use Rattle.system_parser.proofs.sums.Reading.start.Goals as goal

pub returns-clause-reading : goal.returns-clause-reading
returns-clause-reading c = λ p. record {
  outer = subst (AllByRecursion (IsFrame p)) (sym c.new.ensures) tt;
  frame = c.new-2.ensures.over p;
  mode = tt;
}
