-- The key of the tree whose events are noted.
use Rattle.std.proofs.Common.{suc, []}
use Rattle.split_paths.specs.Tree.{offers_of}
use Rattle.collector.specs.Samples.{brush, brush_events, root_at}
use Rattle.collector.proofs.tests.shuffled_events_give_the_answer_in_path_order.Given as goal

abbrev pub ghosts-walk_brush : goal.ghosts-walk_brush
ghosts-walk_brush g a = record { events = brush_events [] a.n; offers = offers_of brush (root_at (suc (suc a.n)) (suc (suc a.n))) }
