use Rattle.split_paths.specs.Key.{IsTrueEvent}
use Rattle.work_pool.proofs.Covered.{all_front}
use Rattle.work_pool.proofs.Noted.{keeps_then, leads_last, one_noted}
use Rattle.work_pool.proofs.run.note_all.Goals as goal

pub loop-event-preserved : goal.loop-event-preserved
loop-event-preserved g c = record {
  walk = c.note.ensures.walk;
  keeps = keeps_then _ _ _ _ c.loop-event.invariant.keeps c.note.ensures.keeps;
  known = all_front (IsTrueEvent g.N.Named.events) _ _ _ c.loop-event.invariant.known c.in-Some.ensures.item;
  leads = leads_last _ _ _ _ _ _ _ c.loop-event.invariant.leads c.in-Some.ensures.item c.note.ensures.keeps
      (one_noted _ _ _ c.in_ok-note.ensures.noted);
}
