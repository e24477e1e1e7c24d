use Rattle.std.proofs.Common.{◌≡◌, ap, ◌∙◌}
use Rattle.split_paths.specs.declared.event.Event.{Event}
use Rattle.event_lanes.specs.Views.{DrainView}
use Rattle.work_pool.proofs.Noted.{noted_taken, keeps_then}
use Rattle.work_pool.proofs.rest.note_waiting.Goals as goal

pub loop-preserved : goal.loop-preserved
loop-preserved g c =
    let some = c.in-Some-take.ensures.some in
    let before = c.loop.invariant in record {
      hub = ap (λ (v : DrainView _). v.hub) some ∙ before.hub;
      drain = (ap (λ (v : DrainView _). v.hub) some ∙ before.drain.0, ap (λ (v : DrainView _). v.made) some ∙ before.drain.1, ap (λ (v : DrainView _). v.backs) some ∙ before.drain.2);
      walk = c.note.ensures.walk;
      keeps = keeps_then _ _ _ _ before.keeps c.note.ensures.keeps;
      noted = noted_taken _ _ _ _ _ _ c.note.ensures.keeps before.noted (ap (λ (v : DrainView _). v.taken) some) c.in_ok-note.ensures.noted;
    }
