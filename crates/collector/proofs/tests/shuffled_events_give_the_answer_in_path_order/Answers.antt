use Rattle.collector.proofs.Samples.{brush_key}
use Rattle.collector.proofs.tests.shuffled_events_give_the_answer_in_path_order.Goals as goal

pub walk_brush-requires-clause-key : goal.walk_brush-requires-clause-key
walk_brush-requires-clause-key g c lifetimes = brush_key _
